-- The type, the room and the name decide the bounds.
use mathlib.Core.Path.{sym, ap, ◌∙◌}
use lib.Seq.{length-take-le}
use Rattle.blocks.specs.Chain.{in_chain}
use Rattle.blocks.proofs.Within.{name_data_cut, name_next, name_no_chain}
use Rattle.blocks.proofs.parts.chain_name_within.Goals as goal

pub returns-then-head-ne-MODIFIER_CHAIN : goal.returns-then-head-ne-MODIFIER_CHAIN
returns-then-head-ne-MODIFIER_CHAIN c = rw c.at.ensures (sym (name_no_chain _ _ _ c.if-head-ne-MODIFIER_CHAIN.true))

pub returns-then-file-end : goal.returns-then-file-end
returns-then-file-end c = rw c.at-then-file-end.ensures (sym (name_data_cut _ _ _ _ c.extent_of-end.ensures c.if-head-ne-MODIFIER_CHAIN.false c.if-file-end.true))

pub slice_bounds-name_bounds-end : goal.slice_bounds-name_bounds-end
slice_bounds-name_bounds-end c = sym (length-take-le _ _ c.if-file-end.false)

pub returns : goal.returns
returns c = c.in_chain.ensures ∙ ap in_chain c.name_bounds.ensures ∙ sym (name_next _ _ _ _ c.extent_of-end.ensures c.if-head-ne-MODIFIER_CHAIN.false c.if-file-end.false)
