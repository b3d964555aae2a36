-- A step of a formed table lies within it, and a clause of the definitions leads to the next.
use Rattle.std.proofs.Common.{ℕ, ap, ◌∙◌, arith}
use Rattle.progressive.specs.StepTable.{new_face_at, step_offset}
use Rattle.progressive.proofs.Formed.{formed, formed_at}
use Rattle.progressive.proofs.Reaching.{Within, step_next, within}
use Rattle.progressive.proofs.levels.pass_step.Goals as goal
use Rattle.progressive.proofs.levels.pass_step.Goals.{Start}

within_of : (c : Start) → Within c.args.steps.now c.args.spot
within_of c = within c.args.steps.now c.args.k c.requires.0 (omega (arith, c.requires.1)) c.requires.2

pub invariant_of-step : goal.invariant_of-step
invariant_of-step c =
    let a = c.args in
    record { within = rw c.requires.2.offset (formed a.steps.now (step_offset a.steps.now a.k) (formed_at a.steps.now a.k c.requires.0 c.requires.1)).head }

pub overflow_add-result : goal.overflow_add-result
overflow_add-result c = omega (arith, (within_of (goal.at.overflow_add-result c).Start).few, c.new_face_count-added.ensures.1)

pub returns : goal.returns
returns c =
    let a = c.args in
    step_next a.steps.now a.k c.requires.2
    (c.new_face_at.ensures ∙ ap (λ (n : ℕ). new_face_at a.steps.now a.spot.offset n) c.new_face_count-added.ensures.0) c.new_face_count-added.ensures.0
