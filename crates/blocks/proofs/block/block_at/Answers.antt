-- The leading numbers, and then the rest.
use mathlib.Core.Path.{sym}
use Rattle.blocks.specs.Block.{block_at}
use Rattle.blocks.proofs.Fits.{head_within}
use Rattle.fields.proofs.Judging.{handed_on}
use Rattle.blocks.proofs.block.block_at.Goals as goal

pub returns-in_err-head : goal.returns-in_err-head
unfolding block_at
returns-in_err-head c = rw (handed_on _ _ c.from_residual.ensures.1, ← c.in_err-head.ensures)

pub judged-requires : goal.judged-requires
judged-requires c = (head_within _ _ _ (sym c.in_ok-head.ensures), c.requires)

pub returns : goal.returns
unfolding block_at
returns c = rw (← c.in_ok-head.ensures) c.judged.ensures
