-- The length, the leading numbers, and then the rest.
use borrow.Author.Tests.{lt-ltb, le-ltb}
use Rattle.blocks.specs.Header.{first_of}
use Rattle.fields.proofs.Judging.{handed_on}
use Rattle.blocks.proofs.header.first_block.Goals as goal

pub returns-then-file-gt-LARGEST_FILE : goal.returns-then-file-gt-LARGEST_FILE
unfolding first_of
returns-then-file-gt-LARGEST_FILE c = rw (c.at.ensures, lt-ltb _ _ c.if-file-gt-LARGEST_FILE.true)

pub returns-in_err-head : goal.returns-in_err-head
unfolding first_of
returns-in_err-head c = rw (handed_on _ _ c.from_residual.ensures.1, le-ltb _ _ c.if-file-gt-LARGEST_FILE.false, ← c.in_err-head.ensures)

pub returns : goal.returns
unfolding first_of
returns c = rw (le-ltb _ _ c.if-file-gt-LARGEST_FILE.false, ← c.in_ok-head.ensures) c.judged_header.ensures
