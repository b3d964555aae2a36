-- The type is judged before the name.
use borrow.Author.Tests.{eq-eqb, ne_eqb}
use Rattle.rows.specs.Rows.{declares}
use Rattle.rows.proofs.is_declaration.Goals as goal

pub returns-then-word_in : goal.returns-then-word_in
unfolding declares
returns-then-word_in c = rw (← c.word_in.ensures, eq-eqb _ _ c.if-word_in.true, ← c.offset_in.ensures, ← c.data_part.ensures) c.has_name.ensures

pub returns-else-word_in : goal.returns-else-word_in
unfolding declares
returns-else-word_in c = rw (← c.word_in.ensures, ne_eqb _ _ c.if-word_in.false)
