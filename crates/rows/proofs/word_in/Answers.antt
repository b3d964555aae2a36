-- The test decides whether the table has the row.
use borrow.Author.Tests.{lt-ltb, le-ltb}
use Rattle.rows.specs.Rows.{word_in}
use Rattle.rows.proofs.word_in.Goals as goal

pub returns-then-row-table : goal.returns-then-row-table
unfolding word_in
returns-then-row-table c = rw (lt-ltb _ _ c.if-row-table.true)

pub returns-else-row-table : goal.returns-else-row-table
unfolding word_in
returns-else-row-table c = rw (le-ltb _ _ c.if-row-table.false)
