-- The present counts fit, so the step's records are within the tables.
use Rattle.std.proofs.Common.{length, arith}
use Rattle.progressive.proofs.Rooms.{Fitting, first_fits}
use Rattle.progressive.proofs.refine.judge_coarsening.Goals as goal
use Rattle.progressive.proofs.refine.judge_coarsening.Goals.{Else-not-both_fit}

present_fits : (c : Else-not-both_fit) → (let a = c.args in Fitting (length a.faces.now) (length a.positions.now) a.present.faces a.present.positions)
present_fits c =
    let a = c.args in
    first_fits (length a.faces.now) (length a.positions.now) a.present.faces a.present.positions a.target.faces a.target.positions
    c.both_fit.ensures c.if-not-both_fit.false

pub shows_laid-requires-clause-face_room : goal.shows_laid-requires-clause-face_room
shows_laid-requires-clause-face_room c = omega (arith, present_fits (goal.at.shows_laid-requires-clause-face_room c).Else-not-both_fit, c.requires)

pub shows_laid-requires-clause-position_room : goal.shows_laid-requires-clause-position_room
shows_laid-requires-clause-position_room c = omega (arith, present_fits (goal.at.shows_laid-requires-clause-position_room c).Else-not-both_fit, c.requires)
