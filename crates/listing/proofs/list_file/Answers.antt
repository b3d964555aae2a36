-- The judgement of the file decides which listing is stored.
use mathlib.Core.Path.{sym}
use Rattle.listing.proofs.Pieces.{within_limit, listing_refused, listing_done}
use Rattle.listing.proofs.list_file.Goals as goal

pub put_done-requires : goal.put_done-requires
put_done-requires c = within_limit c.args.limit c.args.file.now _ (sym c.in-Ok.ensures)

pub returns-in-Err : goal.returns-in-Err
returns-in-Err c = rw (listing_refused c.args.limit c.args.file.now _ _ (sym c.in-Err.ensures)) c.put_refused.ensures

pub returns-in-Ok : goal.returns-in-Ok
returns-in-Ok c = rw (listing_done c.args.limit c.args.file.now _ (sym c.in-Ok.ensures)) c.put_done.ensures
