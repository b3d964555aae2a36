-- The invariant: the steps that are left, stored after those that were read, are all.
use mathlib.Core.Path.{◌≡◌, ◌∙◌, sym}
use native.Mathlib.Numerals.{unary_clauses}
use native.Mathlib.Omega.{arith}
use Rattle.std.proofs.lemmas.Result.{err_from_is_err_and}
use Rattle.climb.specs.Climb.{split_form, step_from}
use Rattle.climb.proofs.Rows.{items_bad, items_more, items_none, items_over, taken_refused, taken_told}
use Rattle.climb.proofs.steps.read_steps.Goals as goal

pub loop-count-init : goal.loop-count-init
loop-count-init c = (c.requires.1, simp unary_clauses)

pub starts_with-requires : goal.starts_with-requires
starts_with-requires c = c.loop-count.invariant.0.0

pub returns-then-not-starts_with-clause-table_after : goal.returns-then-not-starts_with-clause-table_after
returns-then-not-starts_with-clause-table_after c =
    let l = c.loop-count in
    let a = c.args in
    let e = sym c.starts_with.ensures ∙ c.if-not-starts_with.true in
    sym (l.invariant.1 ∙ items_none split_form.word step_from a.text.now a.most l.count l.table l.next.to l.next.line l.next.at e)

pub returns-then-not-starts_with-clause-taken_within : goal.returns-then-not-starts_with-clause-taken_within
returns-then-not-starts_with-clause-taken_within c = (c.loop-count.invariant.0.0, omega (arith, c.loop-count.invariant.0), omega (arith, c.loop-count.invariant.0))

pub read_step-requires : goal.read_step-requires
read_step-requires c = (c.loop-count.invariant.0.0, omega (arith, c.loop-count.invariant.0), omega (arith, c.loop-count.invariant.0))

pub returns-in_err-next-clause-table_after : goal.returns-in_err-next-clause-table_after
returns-in_err-next-clause-table_after c =
    let l = c.loop-count in
    let a = c.args in
    let p = err_from_is_err_and c.from_residual.result c.from_residual.ensures.1 in
    let e = sym c.starts_with.ensures ∙ c.if-not-starts_with.false in
    let f = taken_refused a.text.now _ l.table l.next.to _ _ c.in_err-next.ensures.table_after in
    rw (p.1, p.2) (sym (l.invariant.1 ∙ items_bad split_form.word step_from a.text.now a.most l.count l.table l.next.to l.next.line l.next.at e _ _ c.loop-count-test.true f))

pub loop-count-preserved : goal.loop-count-preserved
loop-count-preserved c =
    let l = c.loop-count in
    let a = c.args in
    let e = sym c.starts_with.ensures ∙ c.if-not-starts_with.false in
    let f = taken_told a.text.now _ l.table l.next.to _ 1 _ c.in_ok-next.ensures.table_after in
    let w = c.in_ok-next.ensures.place_within in
    let v = l.invariant.0 in (
      (w.0, omega (arith, w, v), omega (arith, w, v)),
      l.invariant.1 ∙ items_more split_form.word step_from a.text.now a.most l.count l.table l.next.to l.next.line l.next.at e 1 _ _ c.loop-count-test.true f,
    )

pub starts_with-requires-2 : goal.starts_with-requires-2
starts_with-requires-2 c = c.loop-count.invariant.0.0

pub returns-then-starts_with-clause-table_after : goal.returns-then-starts_with-clause-table_after
returns-then-starts_with-clause-table_after c =
    let l = c.loop-count in
    let a = c.args in
    let e = sym c.starts_with-2.ensures ∙ c.if-starts_with.true in
    rw (c.bad_line.ensures.0, c.bad_line.ensures.1) (sym (l.invariant.1 ∙ items_over split_form.word step_from a.text.now a.most l.count l.table l.next.to l.next.line l.next.at e c.loop-count-test.false))

pub returns-clause-table_after : goal.returns-clause-table_after
returns-clause-table_after c =
    let l = c.loop-count in
    let a = c.args in
    let e = sym c.starts_with-2.ensures ∙ c.if-starts_with.false in
    let all : l.count ≡ a.most = omega arith in
    rw all at (sym (l.invariant.1 ∙ items_none split_form.word step_from a.text.now a.most l.count l.table l.next.to l.next.line l.next.at e))

pub returns-clause-taken_within : goal.returns-clause-taken_within
returns-clause-taken_within c = (c.loop-count.invariant.0.0, omega (arith, c.loop-count.invariant.0), omega (arith, c.loop-count.invariant.0))
