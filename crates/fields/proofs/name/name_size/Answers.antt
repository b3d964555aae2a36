-- The string is read, and then its length is judged.
use borrow.Author.Tests.{lt-ltb, le-ltb}
use Rattle.fields.specs.Name.{name_at}
use Rattle.fields.proofs.name.name_size.Goals as goal

pub returns-in_default : goal.returns-in_default
unfolding name_at
returns-in_default c = rw (← c.in_default.ensures)

pub returns-then-size-gt-LONGEST_NAME : goal.returns-then-size-gt-LONGEST_NAME
unfolding name_at
returns-then-size-gt-LONGEST_NAME c = rw (← c.in-Some.ensures, lt-ltb _ _ c.if-size-gt-LONGEST_NAME.true)

pub returns-else-size-gt-LONGEST_NAME : goal.returns-else-size-gt-LONGEST_NAME
unfolding name_at
returns-else-size-gt-LONGEST_NAME c = rw (← c.in-Some.ensures, le-ltb _ _ c.if-size-gt-LONGEST_NAME.false)
