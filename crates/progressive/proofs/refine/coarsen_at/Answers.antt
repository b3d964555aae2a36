-- The place that was located is a level of the table; above the base the step before is formed and leads to the target.
use Rattle.std.proofs.Common.{ℕ, ◌-◌, sym, refl, ap, ◌∙◌, arith}
use Rattle.progressive.specs.Mesh.{mesh_of}
use Rattle.progressive.proofs.Formed.{formed}
use Rattle.progressive.proofs.Reaching.{AboveBase, AtLevel, above_base, at_level}
use Rattle.progressive.proofs.Judgements.{bottom, coarsened_last, reply_by}
use Rattle.progressive.proofs.refine.coarsen_at.Goals as goal
use Rattle.progressive.proofs.refine.coarsen_at.Goals.{Else-place-eq0, Start}

-- the counts are those of a level
level-of : (c : Start) → (let a = c.args in AtLevel a.steps.now a.counts.faces a.counts.positions a.place)
level-of c = let a = c.args in at_level a.steps.now a.counts.faces a.counts.positions a.place c.requires

-- above the base there is a step
above_of : (c : Else-place-eq0) → (let a = c.args in AboveBase a.steps.now a.counts.faces a.counts.positions a.place)
above_of c =
    let a = c.args in
    above_base a.steps.now a.counts.faces a.counts.positions (at_level a.steps.now a.counts.faces a.counts.positions a.place c.requires) c.if-place-eq0.false

pub returns-then-place-eq0 : goal.returns-then-place-eq0
returns-then-place-eq0 c =
    let a = c.args in
    let m = mesh_of a.faces.now a.positions.now a.counts in
    rw (bottom a.steps.now a.shadings m (level-of (goal.at.returns-then-place-eq0 c).Start) c.if-place-eq0.true)

pub overflow_sub-target : goal.overflow_sub-target
overflow_sub-target c = (above_of (goal.at.overflow_sub-target c).Else-place-eq0).positions

pub invariant_of-step : goal.invariant_of-step
invariant_of-step c = record { within = (formed c.args.steps.now c.args.place.last (above_of (goal.at.invariant_of-step c).Else-place-eq0).formed).head }

pub overflow_sub-target-2 : goal.overflow_sub-target-2
overflow_sub-target-2 c = omega (arith, (above_of (goal.at.overflow_sub-target-2 c).Else-place-eq0).faces, c.new_face_count.ensures.0)

pub coarsen_by-requires : goal.coarsen_by-requires
coarsen_by-requires c =
    let above = above_of (goal.at.coarsen_by-requires c).Else-place-eq0 in
    record {
      formed = above.formed;
      faces = omega (arith, above.faces, c.new_face_count.ensures.0);
      positions = omega (arith, above.positions);
    }

pub returns : goal.returns
returns c =
    let a = c.args in
    let m = mesh_of a.faces.now a.positions.now a.counts in
    c.coarsen_by.ensures
    ∙ reply_by m
    (sym (coarsened_last a.steps.now a.shadings m (level-of (goal.at.returns c).Start) c.if-place-eq0.false (ap (λ (x : ℕ). a.counts.faces - x) c.new_face_count.ensures.0) refl))
