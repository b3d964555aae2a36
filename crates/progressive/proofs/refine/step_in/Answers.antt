-- A list without its form, or counts of no level, refute either way; else the place is a level of the list.
use Rattle.std.proofs.lemmas.Result.{err_from_is_err_and}
use Rattle.progressive.specs.Mesh.{mesh_of}
use Rattle.progressive.proofs.Judgements.{not_asked, unformed}
use Rattle.progressive.proofs.refine.step_in.Goals as goal

pub returns-in_err-list : goal.returns-in_err-list
returns-in_err-list c =
    let a = c.args in
    let p = err_from_is_err_and c.from_residual.result c.from_residual.ensures.1 in
    let judged = rw c.in_err-list.was at c.requires in
    rw (p.1, p.2, judged.1, unformed a.steps.now a.shadings (mesh_of a.faces.now a.positions.now a.counts) judged.0 a.direction)

pub returns-in_err-place : goal.returns-in_err-place
returns-in_err-place c =
    let a = c.args in
    let p = err_from_is_err_and c.from_residual-in_err-place.result c.from_residual-in_err-place.ensures.1 in
    let judged = rw c.in_ok-list.was at c.requires in
    rw (p.1, p.2, not_asked a.steps.now a.shadings (mesh_of a.faces.now a.positions.now a.counts) (rw judged.1 at c.in_err-place.ensures) a.direction)
