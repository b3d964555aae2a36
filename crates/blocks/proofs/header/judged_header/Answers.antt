-- Each part is judged in turn.
use borrow.Author.Tests.{lt-ltb, le-ltb, eq-eqb, ne_eqb}
use Rattle.blocks.specs.Header.{judged_of}
use Rattle.fields.proofs.Judging.{handed_on}
use Rattle.blocks.proofs.header.judged_header.Goals as goal

pub returns-then-head-ne-FILE_HEADER : goal.returns-then-head-ne-FILE_HEADER
unfolding judged_of
returns-then-head-ne-FILE_HEADER c = rw (c.at.ensures, ne_eqb _ _ c.if-head-ne-FILE_HEADER.true)

pub returns-then-s : goal.returns-then-s
unfolding judged_of
returns-then-s c = rw (c.at-then-s.ensures, eq-eqb _ _ c.if-head-ne-FILE_HEADER.false, lt-ltb _ _ c.if-s.true)

pub returns-in_err-version : goal.returns-in_err-version
unfolding judged_of
returns-in_err-version c = rw (handed_on _ _ c.from_residual.ensures.1, eq-eqb _ _ c.if-head-ne-FILE_HEADER.false, le-ltb _ _ c.if-s.false, ← c.in_err-version.ensures)

pub returns : goal.returns
unfolding judged_of
returns c = rw (eq-eqb _ _ c.if-head-ne-FILE_HEADER.false, le-ltb _ _ c.if-s.false, ← c.in_ok-version.ensures) c.sized_header.ensures
