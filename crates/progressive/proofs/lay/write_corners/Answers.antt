-- The invariant: the first corners are written, and the rest of the table is as it was.
use Rattle.std.proofs.Common.{arith, refl}
use Rattle.progressive.proofs.Indexed.{written_done, written_more, written_none}
use Rattle.progressive.proofs.lay.write_corners.Goals as goal

pub loop-moved-init : goal.loop-moved-init
loop-moved-init c = written_none

pub bounds-faces-corner_index : goal.bounds-faces-corner_index
bounds-faces-corner_index c = omega (arith, c.corner_index.ensures, c.requires.1 c.loop-moved.moved c.loop-moved-test.true)

pub loop-moved-preserved : goal.loop-moved-preserved
loop-moved-preserved c = written_more c.loop-moved.invariant c.corner_index.ensures refl

pub returns : goal.returns
returns c = written_done c.loop-moved.invariant {n = c.args.count} (omega arith) (omega arith)
