-- The invariant: what is left of the corners, stored after what was read, is the whole; the pending bits of the state are inverted.
use Prim.Native.Nat.{◌*◌, ◌+◌}
use mathlib.Core.Path.{◌∙◌, ◌≡◌, sym}
use native.Mathlib.Omega.{arith}
use Rattle.std.proofs.lemmas.Result.{err_from_is_err_and}
use Rattle.mesh.specs.Corners.{corner_fields}
use Rattle.mesh.proofs.Corners.{corners_more, corners_none, corners_refused}
use Rattle.mesh.proofs.faces.read_corners.Goals as goal

pub loop-n-init : goal.loop-n-init
loop-n-init c = let z : c.args.at + 0 ≡ c.args.at = omega arith in record { inverted = c.requires.0; whole = rw z }

pub take_field-requires : goal.take_field-requires
take_field-requires c = c.loop-n.invariant.inverted

pub returns-in_err-found : goal.returns-in_err-found
returns-in_err-found c =
    let l = c.loop-n in
    let a = c.args in
    let p = err_from_is_err_and c.from_residual.result c.from_residual.ensures.1 in
    let e = sym c.in_err-found.ensures.result_value in record {
      table_after = rw (p.1, p.2) (sym (l.invariant.whole ∙ corners_refused a.form (3 * corner_fields) l.n a.input.now l.s l.table a.at _ _ c.loop-n-test.true e));
      corners_inverted = rw p.1 tt;
    }

pub loop-n-preserved : goal.loop-n-preserved
loop-n-preserved c =
    let l = c.loop-n in
    let a = c.args in
    let e = sym c.in_ok-found.ensures.result_value in
    let f = l.invariant.whole ∙ corners_more a.form (3 * corner_fields) l.n a.input.now l.s l.table a.at _ _ c.loop-n-test.true e in
    record { inverted = c.in_ok-found.ensures.read_inverted; whole = rw c.put.ensures f }

pub returns : goal.returns
returns c =
    let l = c.loop-n in
    let a = c.args in record {
      table_after = sym (l.invariant.whole ∙ corners_none a.form (3 * corner_fields) l.n a.input.now l.s l.table a.at (omega arith));
      corners_inverted = l.invariant.inverted;
    }
