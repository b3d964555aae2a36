-- The invariant: what is left of the shadings, stored from index i on, is the whole.
use mathlib.Core.Path.{◌∙◌, ap, sym}
use native.Mathlib.Numerals.{unary_clauses}
use native.Mathlib.Omega.{arith}
use lib.ListN.{length, length-set}
use Rattle.std.proofs.lemmas.Result.{err_from_is_err_and}
use Rattle.mesh.proofs.Declarations.{none_length, shadings_more, shadings_none, shadings_refused}
use Rattle.mesh.proofs.shading.read_shadings.Goals as goal

pub loop-i-init : goal.loop-i-init
loop-i-init c = record {
  few = c.requires;
  room = ap length c.no_shadings-shadings.ensures ∙ none_length;
  whole = simp (unary_clauses, c.no_shadings-shadings.ensures);
}

pub returns-in_err-shading : goal.returns-in_err-shading
returns-in_err-shading c =
    let l = c.loop-i in
    let a = c.args in
    let p = err_from_is_err_and c.from_residual.result c.from_residual.ensures.1 in
    let e = sym c.in_err-shading.ensures in
    rw (p.1, p.2) (sym (l.invariant.whole ∙ shadings_refused a.s.now a.count l.i l.at l.shadings _ _ c.loop-i-test.true e))

pub loop-i-preserved : goal.loop-i-preserved
loop-i-preserved c =
    let l = c.loop-i in
    let a = c.args in
    let e = sym c.in_ok-shading.ensures in record {
      few = l.invariant.few;
      room = simp length-set l.invariant.room;
      whole = l.invariant.whole ∙ shadings_more a.s.now a.count l.i l.at l.shadings _ _ c.loop-i-test.true e;
    }

pub returns : goal.returns
returns c =
    let l = c.loop-i in
    let a = c.args in
    sym (l.invariant.whole ∙ shadings_none a.s.now a.count l.i l.at l.shadings (omega arith))
