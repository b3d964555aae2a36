use Rattle.progressive.specs.Indexed.{from}
use Rattle.progressive.specs.StepTable.{coordinate}
use Rattle.progressive.proofs.Indexed.{Written}
use Rattle.progressive.proofs.lay.write_coordinates.Given as goal

abbrev pub invariant-loop-i : goal.invariant-loop-i
invariant-loop-i l = Written (from l.at) (coordinate l.step.table.now l.step.at) l.initial.positions l.positions l.i
