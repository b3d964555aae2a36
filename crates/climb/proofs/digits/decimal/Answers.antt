-- Digits that are there, and start with no zero but a single one.
use mathlib.Core.Path.{◌∙◌, sym}
use borrow.Author.Tests.{eqb-false, eqb-true}
use Rattle.climb.proofs.Numerals.{decimal_empty, decimal_whole, decimal_zero, leads}
use Rattle.climb.proofs.digits.decimal.Goals as goal
use Rattle.climb.proofs.digits.decimal.Goals.{then-is_empty-via-then-is_empty, then-is_empty-via-else-is_empty+then-field-gt1}

pub returns-then-is_empty : goal.returns-then-is_empty
returns-then-is_empty c =
    elim c.then-is_empty.branch [
      | then-is_empty-via-then-is_empty w ↦ decimal_empty c.args.field.now (eqb-true _ _ (sym w.if-is_empty.ensures))
      | then-is_empty-via-else-is_empty+then-field-gt1 w ↦ decimal_zero c.args.field.now w.if-field-gt1.true.0 w.if-field-gt1.true.1
    ]

pub returns : goal.returns
returns c = c.value_of.ensures ∙ decimal_whole c.args.field.now (eqb-false _ _ (sym c.if-is_empty.ensures)) (leads c.args.field.now c.if-field-gt1.either)
