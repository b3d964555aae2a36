-- Two runs and a field.
use mathlib.Core.Path.{◌≡◌, refl, sym}
use native.Mathlib.Omega.{arith}
use lib.ListN.{get_or, length, replicate, take}
use Rattle.std.proofs.lemmas.List.{length-take-le}
use Rattle.fields.proofs.Judging.{field_within}
use Rattle.mesh.specs.Inside.{rules_from}
use Rattle.mesh.specs.Shading.{layer_limit, shading_rules}
use Rattle.mesh.proofs.Declarations.{dimensions_refused, layers_few, original_refused, shading_done, shading_refused}
use Rattle.mesh.proofs.Runs.{free_failed, free_told, run_failed, run_told}
use Rattle.std.proofs.lemmas.Result.{err_from_is_err_and}
use Rattle.mesh.proofs.shading.read_shading.Goals as goal

pub returns-in_err-at : goal.returns-in_err-at
unfolding rules_from
returns-in_err-at c =
    let a = c.args in
    let p = err_from_is_err_and c.from_residual.result c.from_residual.ensures.1 in
    let e = run_failed shading_rules a.s.now a.from _ _ _ _ c.in_err-at.ensures in
    rw (p.1, p.2) (sym (shading_refused a.s.now a.from _ _ e))

pub slice_bounds-dimensions-end : goal.slice_bounds-dimensions-end
unfolding rules_from
slice_bounds-dimensions-end c =
    let a = c.args in
    let e = run_told shading_rules a.s.now a.from c.read_run.new.values (replicate 2 0) _ _ refl c.in_ok-at.ensures in
    layers_few a.s.now a.from _ e.0

pub slice_bounds-read_run-end-4 : goal.slice_bounds-read_run-end-4
unfolding rules_from
slice_bounds-read_run-end-4 c =
    let a = c.args in
    let e = run_told shading_rules a.s.now a.from c.read_run.new.values (replicate 2 0) _ _ refl c.in_ok-at.ensures in
    sym (length-take-le _ _ (layers_few a.s.now a.from _ e.0))

pub returns-in_err-last : goal.returns-in_err-last
unfolding rules_from
returns-in_err-last c =
    let a = c.args in
    let p = err_from_is_err_and c.from_residual-in_err-last.result c.from_residual-in_err-last.ensures.1 in
    let h = c.read_run.new.values in
    let e = run_told shading_rules a.s.now a.from h (replicate 2 0) _ _ refl c.in_ok-at.ensures in
    let long : length (take (get_or h 1 0) (replicate layer_limit 0)) ≡ get_or h 1 0 = length-take-le _ _ (layers_few a.s.now a.from h e.0) in
    let f = free_failed a.s.now _ _ _ _ long _ _ (rw (long, e.1) at c.in_err-last.ensures) in
    rw (p.1, p.2) (sym (dimensions_refused a.s.now a.from h e.0 _ _ f))

pub returns-in_default : goal.returns-in_default
unfolding rules_from
returns-in_default c =
    let a = c.args in
    let h = c.read_run.new.values in
    let e = run_told shading_rules a.s.now a.from h (replicate 2 0) _ _ refl c.in_ok-at.ensures in
    let long : length (take (get_or h 1 0) (replicate layer_limit 0)) ≡ get_or h 1 0 = length-take-le _ _ (layers_few a.s.now a.from h e.0) in
    let f = free_told a.s.now _ _ _ _ long _ _ (rw (long, e.1) at c.in_ok-last.ensures) in
    rw c.at.ensures (sym (original_refused a.s.now a.from h e.0 _ f.0 _ f.1 _ _ (sym c.in_default.ensures)))

pub overflow_add-result : goal.overflow_add-result
overflow_add-result c = record { fits = omega (arith, field_within 4 _ _ _ (sym c.in-Some.ensures)) }

pub returns : goal.returns
unfolding rules_from
returns c =
    let a = c.args in
    let h = c.read_run.new.values in
    let e = run_told shading_rules a.s.now a.from h (replicate 2 0) _ _ refl c.in_ok-at.ensures in
    let long : length (take (get_or h 1 0) (replicate layer_limit 0)) ≡ get_or h 1 0 = length-take-le _ _ (layers_few a.s.now a.from h e.0) in
    let f = free_told a.s.now _ _ _ _ long _ _ (rw (long, e.1) at c.in_ok-last.ensures) in
    sym (shading_done a.s.now a.from h e.0 _ f.0 _ f.1 _ (sym c.in-Some.ensures))
