-- The bit decides.
use mathlib.Core.Path.{◌∙◌, sym}
use Rattle.blocks.specs.Header.{data_size_of}
use Rattle.blocks.proofs.header.data_size_of.Goals as goal

pub returns-then-has_units : goal.returns-then-has_units
unfolding data_size_of
returns-then-has_units c = simp (sym c.has_units.ensures ∙ c.if-has_units.true)

pub returns-else-has_units : goal.returns-else-has_units
unfolding data_size_of
returns-else-has_units c = simp (sym c.has_units.ensures ∙ c.if-has_units.false)
