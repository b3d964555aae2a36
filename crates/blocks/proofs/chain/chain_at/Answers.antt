-- The name decides.
use mathlib.Core.Path.{sym}
use Rattle.blocks.specs.Chain.{chain_at}
use Rattle.fields.proofs.Judging.{handed_on, name_within}
use Rattle.blocks.proofs.chain.chain_at.Goals as goal

pub returns-in_err-size : goal.returns-in_err-size
unfolding chain_at
returns-in_err-size c = rw (handed_on _ _ c.from_residual.ensures.1, ← c.in_err-size.ensures)

pub fields_after_name-requires : goal.fields_after_name-requires
fields_after_name-requires c = name_within _ _ _ (sym c.in_ok-size.ensures)

pub returns : goal.returns
unfolding chain_at
returns c = rw (← c.in_ok-size.ensures) c.fields_after_name.ensures
