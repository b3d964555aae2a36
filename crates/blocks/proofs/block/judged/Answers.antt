-- The place is judged, then the room, then the contents.
use mathlib.Core.Path.{sym}
use Rattle.blocks.specs.Block.{judged_at}
use Rattle.blocks.proofs.Fits.{stands, extent_fits, room_within}
use Rattle.fields.proofs.Judging.{handed_on}
use Rattle.blocks.proofs.block.judged.Goals as goal

pub returns-in_err-standing : goal.returns-in_err-standing
unfolding judged_at
returns-in_err-standing c = rw (handed_on _ _ c.from_residual.ensures.1, ← c.kind_of-kind.ensures, stands, ← c.in_err-standing.ensures)

pub returns-in_err-room : goal.returns-in_err-room
unfolding judged_at
returns-in_err-room c = rw (handed_on _ _ c.from_residual-in_err-room.ensures.1, ← c.kind_of-kind.ensures, stands, ← c.in_ok-standing.ensures, ← c.extent_of-extent.ensures, ← c.in_err-room.ensures)

pub with_contents-requires : goal.with_contents-requires
with_contents-requires c = ((extent_fits _ _ _ c.extent_of-extent.ensures).starts, (room_within _ _ _ _ (sym c.in_ok-room.ensures)).0)

pub returns : goal.returns
unfolding judged_at
returns c = rw (← c.kind_of-kind.ensures, stands, ← c.in_ok-standing.ensures, ← c.extent_of-extent.ensures, ← c.in_ok-room.ensures) c.with_contents.ensures
