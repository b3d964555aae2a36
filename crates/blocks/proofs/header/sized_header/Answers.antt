-- Each part is judged in turn.
use borrow.Author.Tests.{lt-ltb, le-ltb, eq-eqb, ne_eqb}
use Rattle.blocks.specs.Header.{sized_of}
use Rattle.fields.proofs.Judging.{handed_on}
use Rattle.blocks.proofs.header.sized_header.Goals as goal

pub returns-then-head-data_size_of : goal.returns-then-head-data_size_of
unfolding sized_of
returns-then-head-data_size_of c = rw (c.at.ensures, ← c.data_size_of.ensures, ne_eqb _ _ c.if-head-data_size_of.true)

pub returns-then-s-head : goal.returns-then-s-head
unfolding sized_of
returns-then-s-head c = rw (c.at-then-s-head.ensures, ← c.data_size_of.ensures, eq-eqb _ _ c.if-head-data_size_of.false, lt-ltb _ _ c.if-s-head.true)

pub returns-in_err-sizes : goal.returns-in_err-sizes
unfolding sized_of
returns-in_err-sizes c = rw (handed_on _ _ c.from_residual.ensures.1, ← c.data_size_of.ensures, eq-eqb _ _ c.if-head-data_size_of.false, le-ltb _ _ c.if-s-head.false, ← c.in_err-sizes.ensures)

pub returns-in_err-fields : goal.returns-in_err-fields
unfolding sized_of
returns-in_err-fields c = rw (handed_on _ _ c.from_residual-in_err-fields.ensures.1, ← c.data_size_of.ensures, eq-eqb _ _ c.if-head-data_size_of.false, le-ltb _ _ c.if-s-head.false, ← c.in_ok-sizes.ensures, ← c.in_err-fields.ensures)

pub returns : goal.returns
unfolding sized_of
returns c = rw (← c.data_size_of.ensures, eq-eqb _ _ c.if-head-data_size_of.false, le-ltb _ _ c.if-s-head.false, ← c.in_ok-sizes.ensures, ← c.in_ok-fields.ensures) c.header_rest.ensures
