-- By the rule, and each test in turn.
use mathlib.Core.Path.{sym}
use Rattle.climb.proofs.Lines.{field_high, field_kept, field_low, field_none, field_pattern}
use Rattle.climb.proofs.Numerals.{bad_told, value_told_lem}
use Rattle.climb.proofs.line.read_field.Goals as goal
use Rattle.climb.proofs.line.read_field.Goals.{else-least-value-via-then-least-value+else-value-most, else-least-value-via-else-least-value}

pub returns-in-Pattern : goal.returns-in-Pattern
returns-in-Pattern c = λ line. rw (c.pattern.ensures, c.in-Pattern.is) (field_pattern c.args.field.now line)

pub returns-in_err-value-in-Decimal : goal.returns-in_err-value-in-Decimal
returns-in_err-value-in-Decimal c =
    let e = bad_told _ _ (sym c.in_err-value-in-Decimal.ensures) in
    λ line. rw (c.from_residual.ensures, c.in-Decimal.is) (field_none c.args.field.now line c.in-Decimal.least c.in-Decimal.most e)

pub returns-then-value-most : goal.returns-then-value-most
returns-then-value-most c =
    let e = value_told_lem _ _ _ (sym c.in_ok-value-in-Decimal.ensures) in
    λ line. rw c.in-Decimal.is (field_kept c.args.field.now line c.in-Decimal.least c.in-Decimal.most _ e.0 e.1 c.if-least-value.true c.if-value-most.true)

pub returns-else-least-value : goal.returns-else-least-value
returns-else-least-value c =
    let a = c.args in
    let d = c.in-Decimal in
    let e = value_told_lem _ _ _ (sym c.in_ok-value-in-Decimal.ensures) in
    λ line. elim c.else-least-value.branch [
      | else-least-value-via-then-least-value+else-value-most w ↦ rw d.is (field_high a.field.now line d.least d.most _ e.0 e.1 w.if-value-most.false)
      | else-least-value-via-else-least-value w ↦ rw d.is (field_low a.field.now line d.least d.most _ e.0 e.1 w.if-least-value.false)
    ]
