-- Each part that passes the end is refused in turn.
use mathlib.Core.Path.{sym, ◌∙◌}
use Rattle.blocks.proofs.Within.{meta_data_cut, meta_padding_cut, meta_next}
use Rattle.blocks.proofs.parts.meta_within.Goals as goal

pub returns-then-file-extent : goal.returns-then-file-extent
returns-then-file-extent c = rw c.at.ensures (sym (meta_data_cut _ _ _ _ c.extent_of-extent.ensures c.if-file-extent.true))

pub returns-then-file-extent-2 : goal.returns-then-file-extent-2
returns-then-file-extent-2 c = rw c.at-then-file-extent-2.ensures (sym (meta_padding_cut _ _ _ _ c.extent_of-extent.ensures c.if-file-extent.false c.if-file-extent-2.true))

pub returns : goal.returns
returns c = c.within.ensures ∙ sym (meta_next _ _ _ _ c.extent_of-extent.ensures c.if-file-extent.false c.if-file-extent-2.false)
