-- The length, and then the leading numbers.
use borrow.Author.Tests.{lt-ltb, le-ltb}
use Rattle.blocks.specs.Parts.{head_in}
use Rattle.blocks.proofs.parts.head_in.Goals as goal

pub returns-then-file-gt-LARGEST_FILE : goal.returns-then-file-gt-LARGEST_FILE
unfolding head_in
returns-then-file-gt-LARGEST_FILE c = rw (c.at.ensures, lt-ltb _ _ c.if-file-gt-LARGEST_FILE.true)

pub returns : goal.returns
unfolding head_in
returns c = rw (le-ltb _ _ c.if-file-gt-LARGEST_FILE.false) c.head_at.ensures
