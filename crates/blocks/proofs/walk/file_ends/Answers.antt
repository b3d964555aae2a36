-- Each test decides.
use borrow.Author.Tests.{eq-eqb, ne_eqb}
use Rattle.blocks.specs.Walk.{file_ends}
use Rattle.blocks.proofs.walk.file_ends.Goals as goal

pub returns-then-at-len : goal.returns-then-at-len
unfolding file_ends
returns-then-at-len c = rw (eq-eqb _ _ c.if-at-len.true)

pub returns-else-at-len : goal.returns-else-at-len
unfolding file_ends
returns-else-at-len c = rw (ne_eqb _ _ c.if-at-len.false)
