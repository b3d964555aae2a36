-- The part within the bounds.
use mathlib.Core.Path.{sym, ◌∙◌}
use Rattle.fields.proofs.Judging.{part_handed}
use Rattle.blocks.specs.Parts.{chain_name}
use Rattle.blocks.proofs.parts.chain_name.Goals as goal

pub returns : goal.returns
unfolding chain_name
returns c = rw (sym c.chain_name_bounds.ensures) (c.part_of.ensures ∙ part_handed _ c.chain_name_bounds.result)
