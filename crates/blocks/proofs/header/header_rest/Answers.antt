-- The room, and then the paddings.
use mathlib.Core.Path.{sym}
use Rattle.blocks.specs.Header.{rest_of}
use Rattle.blocks.proofs.Fits.{room_within}
use Rattle.fields.proofs.Judging.{handed_on}
use Rattle.blocks.proofs.header.header_rest.Goals as goal

pub paddings-requires : goal.paddings-requires
paddings-requires c = let w = room_within _ _ _ _ (sym c.in_ok-room.ensures) in (w.1, w.2)

pub returns-in_err-room : goal.returns-in_err-room
unfolding rest_of
returns-in_err-room c = rw (handed_on _ _ c.from_residual.ensures.1, ← c.extent_of-extent.ensures, ← c.in_err-room.ensures)

pub returns-in_err-paddings : goal.returns-in_err-paddings
unfolding rest_of
returns-in_err-paddings c = rw (handed_on _ _ c.from_residual-in_err-paddings.ensures.1, ← c.extent_of-extent.ensures, ← c.in_ok-room.ensures, ← c.in_err-paddings.ensures)

pub returns : goal.returns
unfolding rest_of
returns c = rw (← c.extent_of-extent.ensures, ← c.in_ok-room.ensures, ← c.in_ok-paddings.ensures)
