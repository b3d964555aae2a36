-- The bit decides.
use mathlib.Core.Path.{sym, ◌∙◌}
use Rattle.blocks.specs.Header.{units_of}
use Rattle.blocks.proofs.header.units_field.Goals as goal

pub returns-then-has_units : goal.returns-then-has_units
unfolding units_of
returns-then-has_units c = rw (sym c.has_units.ensures ∙ c.if-has_units.true) c.read_at.ensures

pub returns-else-has_units : goal.returns-else-has_units
unfolding units_of
returns-else-has_units c = rw (sym c.has_units.ensures ∙ c.if-has_units.false)
