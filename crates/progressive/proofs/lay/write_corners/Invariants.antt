use Rattle.progressive.specs.Indexed.{always}
use Rattle.progressive.specs.Rules.{corner_index}
use Rattle.progressive.proofs.Indexed.{Written}
use Rattle.progressive.proofs.lay.write_corners.Given as goal

abbrev pub invariant-loop-moved : goal.invariant-loop-moved
invariant-loop-moved l = Written (corner_index l.step.table.now l.step.at) (always l.value) l.initial.faces l.faces l.moved
