-- Each field is read in turn.
use Rattle.blocks.specs.Header.{fields_of}
use Rattle.fields.proofs.Judging.{handed_on}
use Rattle.blocks.proofs.header.header_fields.Goals as goal

pub returns-in_err-encoding : goal.returns-in_err-encoding
unfolding fields_of
returns-in_err-encoding c = rw (handed_on _ _ c.from_residual.ensures.1, ← c.in_err-encoding.ensures)

pub returns-in_err-units : goal.returns-in_err-units
unfolding fields_of
returns-in_err-units c = rw (handed_on _ _ c.from_residual-in_err-units.ensures.1, ← c.in_ok-encoding.ensures, ← c.in_err-units.ensures)

pub returns : goal.returns
unfolding fields_of
returns c = rw (← c.in_ok-encoding.ensures, ← c.in_ok-units.ensures)
