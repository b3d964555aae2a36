-- The first padding, and then the second.
use Rattle.blocks.specs.Head.{paddings_of}
use Rattle.fields.proofs.Judging.{handed_on}
use Rattle.blocks.proofs.head.paddings.Goals as goal

pub returns-in_err-zeros : goal.returns-in_err-zeros
unfolding paddings_of
returns-in_err-zeros c = rw (handed_on _ _ c.from_residual.ensures.1, ← c.in_err-zeros.ensures)

pub returns : goal.returns
unfolding paddings_of
returns c = rw (← c.in_ok-zeros.ensures) c.zeros-2.ensures
