-- The name, like the declaration's, and one run of fields.
use Prim.Native.Nat.{◌+◌}
use mathlib.Core.Bool.{not}
use mathlib.Core.Path.{◌∙◌, ◌≡◌, ap, refl, sym}
use native.Mathlib.Omega.{arith}
use lib.ListN.{replicate}
use Rattle.std.proofs.lemmas.Result.{err_from_is_err_and}
use Rattle.mesh.specs.Base.{base_rules}
use Rattle.mesh.specs.Inside.{rules_from}
use Rattle.mesh.proofs.Declarations.{name_before, name_refused}
use Rattle.mesh.proofs.Heads.{head_done, head_refused, head_unlike, head_unnamed, named}
use Rattle.mesh.proofs.Runs.{run_failed, run_told}
use Rattle.mesh.proofs.head.read_head.Goals as goal

pub returns-in_err-end : goal.returns-in_err-end
returns-in_err-end c =
    let a = c.args in
    let p = err_from_is_err_and c.from_residual.result c.from_residual.ensures.1 in
    rw (p.1, p.2) (sym (head_unnamed a.s.now a.name.now a.declaration _ _ (name_refused a.s.now _ _ (sym c.in_err-end.ensures))))

pub returns-then-not-is_same : goal.returns-then-not-is_same
returns-then-not-is_same c =
    let a = c.args in
    let e = name_before a.s.now _ (sym c.in_ok-end.ensures) in
    let n = c.mesh_name.ensures ∙ named a.s.now c.requires in
    let f = ap not (rw n at (sym c.is_same.ensures ∙ c.if-not-is_same.true)) in
    rw c.at.ensures (sym (head_unlike a.s.now a.name.now a.declaration e.0 e.1 f))

pub returns-in_err-next : goal.returns-in_err-next
unfolding base_rules rules_from
returns-in_err-next c =
    let a = c.args in
    let p = err_from_is_err_and c.from_residual-in_err-next.result c.from_residual-in_err-next.ensures.1 in
    let e = name_before a.s.now _ (sym c.in_ok-end.ensures) in
    let n = c.mesh_name.ensures ∙ named a.s.now c.requires in
    let f = ap not (rw n at (sym c.is_same.ensures ∙ c.if-not-is_same.false)) in
    let g = run_failed (base_rules a.declaration) a.s.now (e.0 + 2) _ _ _ _ (rw (c.base_rules.ensures, e.2) at c.in_err-next.ensures) in
    rw (p.1, p.2) (sym (head_refused a.s.now a.name.now a.declaration e.0 e.1 f _ _ g))

pub returns : goal.returns
unfolding base_rules rules_from
returns c =
    let a = c.args in
    let e = name_before a.s.now _ (sym c.in_ok-end.ensures) in
    let n = c.mesh_name.ensures ∙ named a.s.now c.requires in
    let f = ap not (rw n at (sym c.is_same.ensures ∙ c.if-not-is_same.false)) in
    let r = c.read_run in
    let g = run_told (base_rules a.declaration) a.s.now (e.0 + 2) r.new.values (replicate 7 0) _ _ refl (rw (c.base_rules.ensures, e.2) at c.in_ok-next.ensures) in
    let z : c.in_ok-next.next ≡ e.0 + 30 = omega (arith, g.1) in
    rw z (sym (head_done a.s.now a.name.now a.declaration e.0 e.1 f _ g.0))
