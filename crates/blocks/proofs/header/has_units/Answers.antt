-- The bit, as it is defined.
use Rattle.blocks.specs.Header.{has_units}
use mathlib.Core.Path.{refl}
use Rattle.blocks.proofs.header.has_units.Goals as goal

pub returns : goal.returns
unfolding has_units
returns c = refl
