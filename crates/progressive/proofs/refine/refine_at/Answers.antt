-- The place that was located is a level of the table; below the top its step is formed and leads to the target.
use Rattle.std.proofs.Common.{◌≡◌, ℕ, ◌+◌, true, sym, refl, ap, ◌∙◌, arith}
use Rattle.progressive.specs.StepTable.{step_formed}
use Rattle.progressive.specs.Mesh.{mesh_of}
use Rattle.progressive.proofs.Formed.{formed}
use Rattle.progressive.proofs.Reaching.{AtLevel, at_level, next_formed}
use Rattle.progressive.proofs.Judgements.{refined_next, reply_by, top}
use Rattle.progressive.proofs.refine.refine_at.Goals as goal
use Rattle.progressive.proofs.refine.refine_at.Goals.{Else-place-number, Start}

-- the counts are those of a level
level-of : (c : Start) → (let a = c.args in AtLevel a.steps.now a.counts.faces a.counts.positions a.place)
level-of c = let a = c.args in at_level a.steps.now a.counts.faces a.counts.positions a.place c.requires

-- below the top there is a step
next_of : (c : Else-place-number) → (let a = c.args in step_formed a.steps.now a.place.next ≡ true)
next_of c =
    let a = c.args in
    next_formed a.steps.now a.counts.faces a.counts.positions (at_level a.steps.now a.counts.faces a.counts.positions a.place c.requires) c.number.ensures.0 c.if-place-number.false

pub returns-then-place-number : goal.returns-then-place-number
returns-then-place-number c =
    let a = c.args in
    let m = mesh_of a.faces.now a.positions.now a.counts in
    rw (top a.steps.now a.shadings m (level-of (goal.at.returns-then-place-number c).Start) c.number.ensures.0 c.if-place-number.true)

pub overflow_add-target : goal.overflow_add-target
overflow_add-target c = omega (arith, (level-of (goal.at.overflow_add-target c).Start).few_positions)

pub invariant_of-step : goal.invariant_of-step
invariant_of-step c = record { within = (formed c.args.steps.now c.args.place.next (next_of (goal.at.invariant_of-step c).Else-place-number)).head }

pub overflow_add-target-2 : goal.overflow_add-target-2
overflow_add-target-2 c =
    omega (
      arith,
      (level-of (goal.at.overflow_add-target-2 c).Start).few_faces,
      (formed c.args.steps.now c.args.place.next (next_of (goal.at.overflow_add-target-2 c).Else-place-number)).faces,
      c.new_face_count.ensures.0,
    )

pub refine_by-requires : goal.refine_by-requires
refine_by-requires c =
    record {
      formed = next_of (goal.at.refine_by-requires c).Else-place-number;
      faces = ap (λ (x : ℕ). c.args.counts.faces + x) c.new_face_count.ensures.0;
      positions = refl;
    }

pub returns : goal.returns
returns c =
    let a = c.args in
    let m = mesh_of a.faces.now a.positions.now a.counts in
    c.refine_by.ensures
    ∙ reply_by m (sym (refined_next a.steps.now a.shadings m (level-of (goal.at.returns c).Start) c.number.ensures.0 c.if-place-number.false))
