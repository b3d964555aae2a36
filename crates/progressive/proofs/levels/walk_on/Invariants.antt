use Rattle.progressive.specs.Marks.{AtStep}
use Rattle.progressive.proofs.levels.walk_on.Given as goal

-- the walk has come to step i
abbrev pub invariant-loop-i : goal.invariant-loop-i
invariant-loop-i l = AtStep l.steps l.i l.spot
