-- The leading numbers decide, and then the room.
use mathlib.Core.Path.{sym}
use native.Mathlib.Omega.{arith}
use Rattle.blocks.specs.Parts.{data_bounds}
use Rattle.blocks.proofs.Fits.{head_in_within}
use Rattle.fields.proofs.Judging.{handed_on}
use Rattle.blocks.proofs.parts.data_bounds.Goals as goal

pub overflow_add-at : goal.overflow_add-at
overflow_add-at c = omega (arith, head_in_within _ _ _ (sym c.in_ok-head.ensures))

pub within-requires : goal.within-requires
within-requires c = (head_in_within _ _ _ (sym c.in_ok-head.ensures)).0

pub returns-in_err-head : goal.returns-in_err-head
unfolding data_bounds
returns-in_err-head c = rw (handed_on _ _ c.from_residual.ensures.1, ← c.in_err-head.ensures)

pub returns : goal.returns
unfolding data_bounds
returns c = rw (← c.in_ok-head.ensures) c.within.ensures
