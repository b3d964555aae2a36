-- The part within the bounds.
use mathlib.Core.Path.{sym, ◌∙◌}
use Rattle.fields.proofs.Judging.{part_handed}
use Rattle.blocks.specs.Parts.{meta_part}
use Rattle.blocks.proofs.parts.meta_part.Goals as goal

pub returns : goal.returns
unfolding meta_part
returns c = rw (sym c.meta_bounds.ensures) (c.part_of.ensures ∙ part_handed _ c.meta_bounds.result)
