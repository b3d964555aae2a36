-- The padding, and then the count.
use borrow.Author.Tests.{lt-ltb, le-ltb}
use Rattle.blocks.specs.Chain.{count_at}
use Rattle.fields.proofs.Judging.{handed_on}
use Rattle.blocks.proofs.chain.count_at.Goals as goal

pub returns-then-s-to : goal.returns-then-s-to
unfolding count_at
returns-then-s-to c = rw (c.at.ensures, lt-ltb _ _ c.if-s-to.true)

pub returns-in_err-zeros : goal.returns-in_err-zeros
unfolding count_at
returns-in_err-zeros c = rw (handed_on _ _ c.from_residual.ensures.1, le-ltb _ _ c.if-s-to.false, ← c.in_err-zeros.ensures)

pub returns-in_err-count : goal.returns-in_err-count
unfolding count_at
returns-in_err-count c = rw (handed_on _ _ c.from_residual-in_err-count.ensures.1, le-ltb _ _ c.if-s-to.false, ← c.in_ok-zeros.ensures, ← c.in_err-count.ensures)

pub returns : goal.returns
unfolding count_at
returns c = rw (le-ltb _ _ c.if-s-to.false, ← c.in_ok-zeros.ensures, ← c.in_ok-count.ensures)
