-- The kind decides, and then the chain's fields.
use mathlib.Core.Path.{sym, ◌∙◌}
use lib.Seq.{length-take-le}
use Rattle.blocks.specs.Block.{contents_at}
use Rattle.fields.proofs.Judging.{handed_on}
use Rattle.blocks.proofs.block.with_contents.Goals as goal

pub slice_bounds-chain_at-end : goal.slice_bounds-chain_at-end
slice_bounds-chain_at-end c = sym (length-take-le _ _ c.requires.1)

pub chain_at-requires : goal.chain_at-requires
chain_at-requires c = rw (length-take-le _ _ c.requires.1) c.requires.0

pub returns-in_err-contents : goal.returns-in_err-contents
unfolding contents_at
returns-in_err-contents c = rw (handed_on _ _ c.from_residual.ensures.1, sym c.is_chain.ensures ∙ c.if-is_chain.true, ← c.chain_at.ensures, ← c.in_err-contents.ensures)

pub returns-in_ok-contents : goal.returns-in_ok-contents
unfolding contents_at
returns-in_ok-contents c = rw (sym c.is_chain.ensures ∙ c.if-is_chain.true, ← c.chain_at.ensures, ← c.in_ok-contents.ensures)

pub returns-else-is_chain : goal.returns-else-is_chain
unfolding contents_at
returns-else-is_chain c = rw (sym c.is_chain.ensures ∙ c.if-is_chain.false)
