-- The limit, and then the file.
use borrow.Author.Tests.{lt-ltb, le-ltb}
use Rattle.listing.specs.Listing.{file_within}
use Rattle.listing.proofs.lines_within.Goals as goal

pub returns-then-limit-file : goal.returns-then-limit-file
unfolding file_within
returns-then-limit-file c = rw (c.at.ensures, lt-ltb _ _ c.if-limit-file.true)

pub returns : goal.returns
unfolding file_within
returns c = rw (le-ltb _ _ c.if-limit-file.false) c.lines_size.ensures
