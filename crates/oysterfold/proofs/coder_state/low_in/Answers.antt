-- A flag that is too large, or the limit.
use borrow.Author.Tests.{le-ltb, lt-ltb}
use Rattle.oysterfold.proofs.coder_state.low_in.Goals as goal

pub returns-then-flag-gt1 : goal.returns-then-flag-gt1
returns-then-flag-gt1 c = rw (lt-ltb _ _ c.if-flag-gt1.true)

pub returns-else-flag-gt1 : goal.returns-else-flag-gt1
returns-else-flag-gt1 c = rw (le-ltb _ _ c.if-flag-gt1.false)
