-- The invariant: what is left of the run, stored from index i on, is the whole run.
use Prim.Native.Nat.{◌*◌, ◌+◌}
use mathlib.Core.Path.{◌∙◌, ◌≡◌, sym}
use native.Mathlib.Numerals.{unary_clauses}
use native.Mathlib.Omega.{arith}
use lib.ListN.{length}
use Rattle.std.proofs.lemmas.Result.{err_from_is_err_and}
use Rattle.mesh.proofs.Runs.{ruled_kept, run_more, run_none, run_refused}
use Rattle.mesh.proofs.run.read_run.Goals as goal

pub loop-i-init : goal.loop-i-init
loop-i-init c = record { reached = omega arith; whole = simp unary_clauses }

pub returns-in_err-value : goal.returns-in_err-value
returns-in_err-value c =
    let l = c.loop-i in
    let a = c.args in
    let p = err_from_is_err_and c.from_residual.result c.from_residual.ensures.1 in
    let e = sym (rw c.rule_at.ensures at c.in_err-value.ensures) in
    rw (p.1, p.2) (sym (l.invariant.whole ∙ run_refused a.rules.now a.s.now (length a.values.now) l.i l.at _ l.values _ _ c.loop-i-test.true e))

pub overflow_add-at : goal.overflow_add-at
overflow_add-at c = omega (arith, (ruled_kept _ _ _ _ (sym c.in_ok-value.ensures)).within)

pub loop-i-preserved : goal.loop-i-preserved
loop-i-preserved c =
    let l = c.loop-i in
    let a = c.args in
    let e = sym (rw c.rule_at.ensures at c.in_ok-value.ensures) in record {
      reached = omega arith;
      whole = l.invariant.whole ∙ run_more a.rules.now a.s.now (length a.values.now) l.i l.at _ l.values _ c.loop-i-test.true e;
    }

pub returns : goal.returns
returns c =
    let l = c.loop-i in
    let a = c.args in
    let z : l.at ≡ a.from + 4 * length a.values.now = omega arith in
    rw z (sym (l.invariant.whole ∙ run_none a.rules.now a.s.now (length a.values.now) l.i l.at _ l.values (omega arith)))
