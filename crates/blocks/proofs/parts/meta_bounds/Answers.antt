-- The leading numbers decide, and then the block's parts.
use mathlib.Core.Path.{sym}
use Rattle.blocks.specs.Parts.{meta_bounds}
use Rattle.blocks.proofs.Fits.{head_in_within}
use Rattle.fields.proofs.Judging.{handed_on}
use Rattle.blocks.proofs.parts.meta_bounds.Goals as goal

pub meta_within-requires : goal.meta_within-requires
meta_within-requires c = (head_in_within _ _ _ (sym c.in_ok-head.ensures)).1

pub returns-in_err-head : goal.returns-in_err-head
unfolding meta_bounds
returns-in_err-head c = rw (handed_on _ _ c.from_residual.ensures.1, ← c.in_err-head.ensures)

pub returns : goal.returns
unfolding meta_bounds
returns c = rw (← c.in_ok-head.ensures) c.meta_within.ensures
