-- The invariant: the number that is left to write after `value` is the whole.
use Prim.Native.Nat.{◌+◌, ◌*◌, ◌<◌}
use mathlib.Core.Path.{◌≡◌, ◌∙◌, sym}
use native.Mathlib.Omega.{arith}
use Rattle.fields.specs.Limits.{any_number}
use Rattle.climb.proofs.Numerals.{number_large, number_more, number_none, number_stopped}
use Rattle.climb.proofs.digits.value_of.Goals as goal

pub returns-in_err-digit : goal.returns-in_err-digit
returns-in_err-digit c =
    let l = c.loop-b in
    let a = c.args in
    c.from_residual.ensures ∙ sym (l.invariant.1 ∙ number_stopped a.base a.digits.now l.b-index l.value (omega arith) c.in_err-digit.ensures)

pub returns-in_err-checked_mul : goal.returns-in_err-checked_mul
returns-in_err-checked_mul c =
    let l = c.loop-b in
    let a = c.args in
    let large : any_number < l.value * a.base + c.in_ok-digit.digit = omega (arith, c.in_err-checked_mul.ensures) in
    c.from_residual-in_err-checked_mul.ensures ∙ sym (l.invariant.1 ∙ number_more a.base a.digits.now l.b-index l.value (omega arith) _ c.in_ok-digit.ensures
    ∙ number_large a.base _ _ c.requires.0 large)

pub returns-in_err-value : goal.returns-in_err-value
returns-in_err-value c =
    let l = c.loop-b in
    let a = c.args in
    let large : any_number < l.value * a.base + c.in_ok-digit.digit = omega (arith, c.in_ok-checked_mul.ensures, c.in_err-value.ensures) in
    c.from_residual-in_err-value.ensures ∙ sym (l.invariant.1 ∙ number_more a.base a.digits.now l.b-index l.value (omega arith) _ c.in_ok-digit.ensures
    ∙ number_large a.base _ _ c.requires.0 large)

pub loop-b-preserved : goal.loop-b-preserved
loop-b-preserved c =
    let l = c.loop-b in
    let a = c.args in
    let e : c.in_ok-value.value ≡ l.value * a.base + c.in_ok-digit.digit = c.in_ok-value.ensures.1 ∙ rw c.in_ok-checked_mul.ensures.1 in
    (omega (arith, e, c.in_ok-value.ensures), rw e (l.invariant.1 ∙ number_more a.base a.digits.now l.b-index l.value (omega arith) _ c.in_ok-digit.ensures))

pub returns : goal.returns
returns c =
    let l = c.loop-b in
    let a = c.args in
    number_none a.base l.value l.b-index a.digits.now l.invariant.0 (omega arith) ∙ sym l.invariant.1
