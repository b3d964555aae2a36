-- The leading numbers decide, and then the block's parts.
use mathlib.Core.Path.{sym}
use Rattle.blocks.specs.Parts.{chain_name_bounds}
use Rattle.blocks.proofs.Fits.{head_in_within}
use Rattle.fields.proofs.Judging.{handed_on}
use Rattle.blocks.proofs.parts.chain_name_bounds.Goals as goal

pub chain_name_within-requires : goal.chain_name_within-requires
chain_name_within-requires c = (head_in_within _ _ _ (sym c.in_ok-head.ensures)).1

pub returns-in_err-head : goal.returns-in_err-head
unfolding chain_name_bounds
returns-in_err-head c = rw (handed_on _ _ c.from_residual.ensures.1, ← c.in_err-head.ensures)

pub returns : goal.returns
unfolding chain_name_bounds
returns c = rw (← c.in_ok-head.ensures) c.chain_name_within.ensures
