-- A name's end is two bytes after its size.
use mathlib.Core.Path.{sym}
use native.Mathlib.Omega.{arith}
use Rattle.fields.proofs.Judging.{name_within}
use Rattle.mesh.specs.Inside.{name_end}
use Rattle.std.proofs.lemmas.Result.{err_from_is_err_and}
use Rattle.mesh.proofs.run.name_end.Goals as goal

pub returns-in_err-size : goal.returns-in_err-size
unfolding name_end
returns-in_err-size c =
    let p = err_from_is_err_and c.from_residual.result c.from_residual.ensures.1 in
    rw (p.1, p.2, ← c.in_err-size.ensures)

pub overflow_add-result : goal.overflow_add-result
overflow_add-result c = omega (arith, (name_within _ _ _ (sym c.in_ok-size.ensures)).0)

pub returns : goal.returns
unfolding name_end
returns c = rw (← c.in_ok-size.ensures)
