-- The part within the bounds.
use mathlib.Core.Path.{sym, ◌∙◌}
use Rattle.fields.proofs.Judging.{part_handed}
use Rattle.blocks.specs.Parts.{data_part}
use Rattle.blocks.proofs.parts.data_part.Goals as goal

pub returns : goal.returns
unfolding data_part
returns c = rw (sym c.data_bounds.ensures) (c.part_of.ensures ∙ part_handed _ c.data_bounds.result)
