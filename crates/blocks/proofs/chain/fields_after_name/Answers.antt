-- Each field is read and judged in turn.
use mathlib.Core.Path.{sym}
use native.Mathlib.Omega.{arith}
use borrow.Author.Tests.{lt-ltb, le-ltb, eq-eqb, ne_eqb}
use Rattle.blocks.specs.Chain.{fields_after_name}
use Rattle.fields.proofs.Judging.{handed_on, field_within}
use Rattle.blocks.proofs.chain.fields_after_name.Goals as goal

pub returns-in_err-kind : goal.returns-in_err-kind
unfolding fields_after_name
returns-in_err-kind c = rw (handed_on _ _ c.from_residual.ensures.1, ← c.in_err-kind.ensures)

pub returns-then-kind-gt2 : goal.returns-then-kind-gt2
unfolding fields_after_name
returns-then-kind-gt2 c = rw (c.at.ensures, ← c.in_ok-kind.ensures, lt-ltb _ _ c.if-kind-gt2.true)

pub returns-in_err-attributes : goal.returns-in_err-attributes
unfolding fields_after_name
returns-in_err-attributes c = rw (handed_on _ _ c.from_residual-in_err-attributes.ensures.1, ← c.in_ok-kind.ensures, le-ltb _ _ c.if-kind-gt2.false, ← c.in_err-attributes.ensures)

pub returns-then-attributes-ne0 : goal.returns-then-attributes-ne0
unfolding fields_after_name
returns-then-attributes-ne0 c = rw (c.at-then-attributes-ne0.ensures, ← c.in_ok-kind.ensures, le-ltb _ _ c.if-kind-gt2.false, ← c.in_ok-attributes.ensures, ne_eqb _ _ c.if-attributes-ne0.true)

pub count_at-requires : goal.count_at-requires
count_at-requires c = (omega (arith, field_within 4 _ _ _ (sym c.in_ok-attributes.ensures)), omega (arith, c.aligned.ensures))

pub returns : goal.returns
unfolding fields_after_name
returns c = rw (← c.in_ok-kind.ensures, le-ltb _ _ c.if-kind-gt2.false, ← c.in_ok-attributes.ensures, eq-eqb _ _ c.if-attributes-ne0.false, ← c.aligned.ensures) c.count_at.ensures
