-- The id is read in the dynamic context, and is below the count.
use mathlib.Core.List.{◌∷◌, []}
use Rattle.std.specs.Prelude.{Err, Ok}
use Rattle.std.proofs.lemmas.Result.{err_from_is_err_and}
use Rattle.mesh.proofs.Numbers.{dynamic_after, dynamic_inverted, dynamic_judged, shading_above, shading_read, shading_refused}
use Rattle.mesh.proofs.faces.take_shading.Goals as goal

pub returns-in_err-found : goal.returns-in_err-found
returns-in_err-found c =
    let a = c.args in
    let p = err_from_is_err_and c.from_residual.result c.from_residual.ensures.1 in
    let e = c.in_err-found.ensures in
    let j = dynamic_judged a.input.now a.state c.requires.0 a.histogram.now _ a.total.now _ (Err c.in_err-found.field-0.0) c.requires.1 e in record {
      result_value = rw (p.1, p.2) (shading_refused a.shading_count (a.histogram.now ∷ []) a.input.now a.state _ j);
      read_inverted = rw p.1 tt;
      histogram_after = dynamic_after a.input.now a.state c.requires.0 a.histogram.now _ a.total.now _ (Err c.in_err-found.field-0.0) c.requires.1 e;
    }

pub returns-then-shading_count-found : goal.returns-then-shading_count-found
returns-then-shading_count-found c =
    let a = c.args in
    let e = c.in_ok-found.ensures in
    let j = dynamic_judged a.input.now a.state c.requires.0 a.histogram.now _ a.total.now _ (Ok c.in_ok-found.found) c.requires.1 e in record {
      result_value = shading_above a.shading_count (a.histogram.now ∷ []) a.input.now a.state c.in_ok-found.found j c.if-shading_count-found.true;
      read_inverted = tt;
      histogram_after = dynamic_after a.input.now a.state c.requires.0 a.histogram.now _ a.total.now _ (Ok c.in_ok-found.found) c.requires.1 e;
    }

pub returns : goal.returns
returns c =
    let a = c.args in
    let e = c.in_ok-found.ensures in
    let j = dynamic_judged a.input.now a.state c.requires.0 a.histogram.now _ a.total.now _ (Ok c.in_ok-found.found) c.requires.1 e in record {
      result_value = shading_read a.shading_count (a.histogram.now ∷ []) a.input.now a.state c.in_ok-found.found j c.if-shading_count-found.false;
      read_inverted = dynamic_inverted a.input.now a.state c.requires.0 a.histogram.now _ a.total.now _ (Ok c.in_ok-found.found) c.requires.1 e;
      histogram_after = dynamic_after a.input.now a.state c.requires.0 a.histogram.now _ a.total.now _ (Ok c.in_ok-found.found) c.requires.1 e;
    }
