-- Each field is read and judged in turn.
use borrow.Author.Tests.{lt-ltb, le-ltb, eq-eqb, ne_eqb}
use Rattle.blocks.specs.Header.{sizes_of}
use Rattle.fields.proofs.Judging.{handed_on}
use Rattle.blocks.proofs.header.size_fields.Goals as goal

pub returns-in_err-declaration : goal.returns-in_err-declaration
unfolding sizes_of
returns-in_err-declaration c = rw (handed_on _ _ c.from_residual.ensures.1, ← c.in_err-declaration.ensures)

pub returns-then-s-declaration : goal.returns-then-s-declaration
unfolding sizes_of
returns-then-s-declaration c = rw (c.at.ensures, ← c.in_ok-declaration.ensures, lt-ltb _ _ c.if-s-declaration.true)

pub returns-in_err-file : goal.returns-in_err-file
unfolding sizes_of
returns-in_err-file c = rw (handed_on _ _ c.from_residual-in_err-file.ensures.1, ← c.in_ok-declaration.ensures, le-ltb _ _ c.if-s-declaration.false, ← c.in_err-file.ensures)

pub returns-then-file-s : goal.returns-then-file-s
unfolding sizes_of
returns-then-file-s c = rw (c.at-then-file-s.ensures, ← c.in_ok-declaration.ensures, le-ltb _ _ c.if-s-declaration.false, ← c.in_ok-file.ensures, ne_eqb _ _ c.if-file-s.true)

pub returns : goal.returns
unfolding sizes_of
returns c = rw (← c.in_ok-declaration.ensures, le-ltb _ _ c.if-s-declaration.false, ← c.in_ok-file.ensures, eq-eqb _ _ c.if-file-s.false)
