-- The invariant: what is left of the faces, stored after what was read, is the whole; the pending bits of the state are inverted, and
-- the total is the histogram's sum.
use Prim.Native.Nat.{◌*◌}
use mathlib.Core.List.{◌∷◌, []}
use mathlib.Core.Path.{◌∙◌, sym}
use native.Mathlib.Omega.{arith}
use mir.Syntax.{w32}
use mir.Val.{Fits}
use borrow.Author.Rules.{rules}
use lib.ListN.{get_or}
use Rattle.std.proofs.lemmas.Result.{err_from_is_err_and}
use Rattle.mesh.specs.Corners.{face_words}
use Rattle.mesh.proofs.FaceRuns.{corners_failed, corners_stop, corners_told, face_turn, faces_none, faces_start, fresh_inverted, fresh_total, shading_below, shading_stops}
use Rattle.mesh.proofs.faces.read_faces.Goals as goal

pub loop-i-init : goal.loop-i-init
loop-i-init c =
    let a = c.args in record {
      inverted = fresh_inverted a.input.now c.fresh-s.result c.fresh-s.ensures;
      total = fresh_total c.fresh_histogram-histogram.result c.fresh_histogram-histogram.ensures;
      whole = faces_start a.declaration a.counts (get_or a.counts 0 0) c.fresh_histogram-histogram.result a.input.now c.fresh-s.result a.table.now
          c.fresh_histogram-histogram.ensures c.fresh-s.ensures;
    }

pub take_shading-requires : goal.take_shading-requires
take_shading-requires c = (c.loop-i.invariant.inverted, c.loop-i.invariant.total)

pub returns-in_err-found : goal.returns-in_err-found
returns-in_err-found c =
    let a = c.args in
    let l = c.loop-i in
    let p = err_from_is_err_and c.from_residual.result c.from_residual.ensures.1 in
    let e = sym c.in_err-found.ensures.result_value in
    rw (p.1, p.2) (sym (l.invariant.whole ∙ shading_stops a.declaration a.counts (get_or a.counts 0 0) l.i (l.histogram ∷ []) a.input.now l.s l.table c.loop-i-test.true _ _ e))

pub bounds-declaration-found : goal.bounds-declaration-found
bounds-declaration-found c = omega (arith, shading_below _ _ _ _ _ (sym c.in_ok-found.ensures.result_value), c.requires)

pub read_corners-requires : goal.read_corners-requires
read_corners-requires c =
    let small : Fits w32 (get_or c.args.counts 0 0) = search rules in
    (c.in_ok-found.ensures.read_inverted, omega arith)

pub returns-in_err-s : goal.returns-in_err-s
returns-in_err-s c =
    let a = c.args in
    let l = c.loop-i in
    let p = err_from_is_err_and c.from_residual-in_err-s.result c.from_residual-in_err-s.ensures.1 in
    let e = sym c.in_ok-found.ensures.result_value in
    let f = corners_failed _ _ _ _ _ c.in_err-s.ensures.table_after in
    rw (p.1, p.2) (sym (l.invariant.whole ∙ corners_stop a.declaration a.counts (get_or a.counts 0 0) l.i (l.histogram ∷ []) a.input.now l.s l.table c.loop-i-test.true _ _ e _ _ f))

pub loop-i-preserved : goal.loop-i-preserved
loop-i-preserved c =
    let a = c.args in
    let l = c.loop-i in
    let t = c.in_ok-found.ensures in
    let f = corners_told _ _ _ _ c.in_ok-s.ensures.table_after in
    let g = face_turn a.declaration a.counts (get_or a.counts 0 0) l.i l.histogram a.input.now l.s l.table c.loop-i-test.true _ _ (sym t.result_value) f.0 _ f.1
    _ _ _ c.put.ensures f.2 t.histogram_after.0 in
    record { inverted = c.in_ok-s.ensures.corners_inverted; total = t.histogram_after.1; whole = l.invariant.whole ∙ g }

pub returns : goal.returns
returns c =
    let l = c.loop-i in
    let a = c.args in
    sym (l.invariant.whole ∙ faces_none a.declaration a.counts (get_or a.counts 0 0) l.i (l.histogram ∷ []) a.input.now l.s l.table (face_words * l.i) (omega arith))
