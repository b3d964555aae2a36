-- By the byte's range, and then by the base.
use mathlib.Core.Bool.{false, true}
use borrow.Author.Tests.{le-ltb, lt-ltb}
use native.Mathlib.Omega.{arith}
use Rattle.climb.proofs.Numerals.{digit_decimal, digit_letter, digit_none}
use Rattle.climb.proofs.digits.digit_value.Goals as goal
use Rattle.climb.proofs.digits.digit_value.Goals.{in-48-to-57, in-97-to-102}

pub returns-in_default : goal.returns-in_default
returns-in_default c = digit_none c.args.base c.args.b (λ l h. omega arith) (λ l h. omega arith) c.requires

pub returns-in_default-2 : goal.returns-in_default-2
returns-in_default-2 c = digit_none c.args.base c.args.b (λ l h. omega arith) (λ l h. omega arith) c.requires

pub returns-in_default-3 : goal.returns-in_default-3
returns-in_default-3 c = digit_none c.args.base c.args.b (λ l h. omega arith) (λ l h. omega arith) c.requires

pub returns-then-value-base : goal.returns-then-value-base
returns-then-value-base c =
    let a = c.args in
    elim c.if-b-lt58.branch [
      | in-48-to-57 w ↦ rw (c.from-value.ensures, w.value-is) (digit_decimal a.base a.b (omega arith) (omega arith) true (lt-ltb _ _ (omega arith)))
      | in-97-to-102 w ↦ rw (c.from-value.ensures, w.value-is) (digit_letter a.base a.b (omega arith) (omega arith) true (lt-ltb _ _ (omega arith)))
    ]

pub returns-else-value-base : goal.returns-else-value-base
returns-else-value-base c =
    let a = c.args in
    elim c.if-b-lt58.branch [
      | in-48-to-57 w ↦ digit_decimal a.base a.b (omega arith) (omega arith) false (le-ltb _ _ (omega arith))
      | in-97-to-102 w ↦ digit_letter a.base a.b (omega arith) (omega arith) false (le-ltb _ _ (omega arith))
    ]
