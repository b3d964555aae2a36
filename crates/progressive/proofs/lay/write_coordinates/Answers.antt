-- The invariant: the first coordinates are written, and the rest of the table is as it was.
use Rattle.std.proofs.Common.{arith, refl}
use Rattle.progressive.proofs.Indexed.{written_done, written_more, written_none}
use Rattle.progressive.proofs.lay.write_coordinates.Goals as goal

pub loop-i-init : goal.loop-i-init
loop-i-init c = written_none

pub loop-i-preserved : goal.loop-i-preserved
loop-i-preserved c = written_more c.loop-i.invariant refl c.coordinate.ensures

pub returns : goal.returns
returns c = written_done c.loop-i.invariant {n = c.args.count} (omega arith) (omega arith)
