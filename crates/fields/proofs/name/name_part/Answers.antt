-- The part within the name's bounds.
use mathlib.Core.Path.{sym, ◌∙◌}
use Rattle.fields.proofs.Judging.{part_handed}
use Rattle.fields.specs.Name.{name_part}
use Rattle.fields.proofs.name.name_part.Goals as goal

pub returns : goal.returns
unfolding name_part
returns c = rw (sym c.name_bounds.ensures) (c.part_of.ensures ∙ part_handed _ c.name_bounds.result)
