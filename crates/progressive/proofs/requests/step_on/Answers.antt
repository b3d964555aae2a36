-- A walk that was refused stays; else the step's answer is the walk's next.
use Rattle.std.proofs.Common.{[], ◌∷◌, rules}
use Rattle.progressive.specs.Requests.{progress_of}
use Rattle.progressive.specs.Inside.{ask_of}
use Rattle.progressive.proofs.Walking.{one_denied, one_granted, walked_stays}
use Rattle.progressive.proofs.requests.step_on.Goals as goal

pub returns-then-progress-ne0 : goal.returns-then-progress-ne0
returns-then-progress-ne0 c = let a = c.args in walked_stays a.steps.now a.shadings (ask_of a.direction ∷ []) (progress_of a.progress a.faces.now a.positions.now) c.if-progress-ne0.true (search rules)

pub returns-in-Ok : goal.returns-in-Ok
returns-in-Ok c = let a = c.args in one_granted a.steps.now a.shadings (ask_of a.direction) (progress_of a.progress a.faces.now a.positions.now) c.step_in.new.faces c.step_in.new.positions c.if-progress-ne0.false c.in-Ok.ensures (search rules)

pub returns-in-Err : goal.returns-in-Err
returns-in-Err c = let a = c.args in rw c.refused.ensures (one_denied a.steps.now a.shadings (ask_of a.direction) (progress_of a.progress a.faces.now a.positions.now) c.step_in.new.faces c.step_in.new.positions c.if-progress-ne0.false c.in-Err.ensures (search rules))
