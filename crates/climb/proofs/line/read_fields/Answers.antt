-- The invariant: the fields that are left, stored after those that were read, are the whole line's.
use Prim.Native.Nat.{◌+◌}
use mathlib.Core.Path.{◌≡◌, ◌∙◌, sym}
use native.Mathlib.Omega.{arith}
use lib.ListN.{drop_of_length-le}
use Rattle.std.specs.Prelude.{None, Some}
use Rattle.climb.specs.Inside.{FoundAt}
use Rattle.climb.specs.Lines.{tab}
use Rattle.climb.proofs.Finding.{found_has, found_or}
use Rattle.climb.proofs.Lines.{fields_bad, fields_ended, fields_missing, fields_more, rules_cons}
use Rattle.climb.proofs.line.read_fields.Goals as goal

pub returns-in_default : goal.returns-in_default
returns-in_default c =
    let l = c.loop-i in
    let a = c.args in
    λ n. sym (l.invariant.1 n ∙ rw (rules_cons a.rules.now l.i c.loop-i-test.true)
    (fields_missing a.line.now l.at l.table (a.to + l.i) n _ _ (found_has tab a.line.now l.at None c.in_default.ensures)))

pub returns-in_default-read_field : goal.returns-in_default-read_field
returns-in_default-read_field c =
    let l = c.loop-i in
    let a = c.args in
    let f : FoundAt tab a.line.now (c.in-Some.stop + 1) c.unwrap_or-end.result = rw c.unwrap_or-end.ensures (found_or tab a.line.now (c.in-Some.stop + 1) _ c.find-in-loop-i.ensures) in
    λ n. sym (l.invariant.1 n ∙ rw (rules_cons a.rules.now l.i c.loop-i-test.true)
    (fields_bad a.line.now l.at l.table (a.to + l.i) n _ _ (c.in-Some.stop + 1) (found_has tab a.line.now l.at (Some c.in-Some.stop) c.in-Some.ensures)
    c.in-Some.ensures.1.after_it (rw f.before_it (c.in_default-read_field.ensures n))))

pub loop-i-preserved : goal.loop-i-preserved
loop-i-preserved c =
    let l = c.loop-i in
    let a = c.args in
    let f : FoundAt tab a.line.now (c.in-Some.stop + 1) c.unwrap_or-end.result = rw c.unwrap_or-end.ensures (found_or tab a.line.now (c.in-Some.stop + 1) _ c.find-in-loop-i.ensures) in
    let next : a.to + (l.i + 1) ≡ a.to + l.i + 1 = omega arith in (
      omega (arith, c.in-Some.ensures.0),
      λ n. rw (c.put.ensures, next) (l.invariant.1 n ∙ rw (rules_cons a.rules.now l.i c.loop-i-test.true)
          (fields_more a.line.now l.at l.table (a.to + l.i) n _ _ (c.in-Some.stop + 1) (found_has tab a.line.now l.at (Some c.in-Some.stop) c.in-Some.ensures)
          c.in-Some.ensures.1.after_it _ (rw f.before_it (c.in-Some-read_field.ensures n)))),
    )

pub returns : goal.returns
returns c =
    let l = c.loop-i in
    let a = c.args in
    let none = drop_of_length-le a.rules.now c.loop-i-test.false in
    λ n. fields_ended a.line.now l.at l.table (a.to + l.i) n _ c.find-2.ensures c.is_none.result c.is_none.ensures ∙ sym (rw none at (l.invariant.1 n))
