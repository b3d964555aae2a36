-- The closing fields are one run; then no byte is left.
use mathlib.Core.Path.{refl, sym}
use lib.ListN.{replicate}
use Rattle.std.proofs.lemmas.Result.{err_from_is_err_and}
use Rattle.mesh.specs.Declaration.{closing_rules}
use Rattle.mesh.specs.Inside.{rules_from}
use Rattle.mesh.proofs.Declarations.{closing_done, closing_left, closing_refused}
use Rattle.mesh.proofs.Runs.{run_failed, run_told}
use Rattle.mesh.proofs.declaration.read_closing.Goals as goal

pub returns-in_err-end : goal.returns-in_err-end
unfolding rules_from
returns-in_err-end c =
    let a = c.args in
    let p = err_from_is_err_and c.from_residual.result c.from_residual.ensures.1 in
    let e = run_failed closing_rules a.s.now a.from _ _ _ _ c.in_err-end.ensures in
    rw (p.1, p.2) (sym (closing_refused a.s.now a.from a.name_size a.head a.shadings _ _ e))

pub returns-then-end-s : goal.returns-then-end-s
unfolding rules_from
returns-then-end-s c =
    let a = c.args in
    let e = run_told closing_rules a.s.now a.from c.read_run.new.values (replicate 14 0) _ _ refl c.in_ok-end.ensures in
    rw c.at.ensures (sym (closing_left a.s.now a.from a.name_size a.head a.shadings _ _ e.0 e.1 c.if-end-s.true))

pub returns : goal.returns
unfolding rules_from
returns c =
    let a = c.args in
    let e = run_told closing_rules a.s.now a.from c.read_run.new.values (replicate 14 0) _ _ refl c.in_ok-end.ensures in
    rw c.with_fields.ensures (sym (closing_done a.s.now a.from a.name_size a.head a.shadings _ _ e.0 e.1 c.if-end-s.false))
