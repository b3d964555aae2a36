-- A step that is not formed refutes; else the walk goes on, and step k is noted too, if it is a mark.
use Rattle.std.proofs.Common.{◌≡◌, ℕ, false, true≢false, sym, refl, ap, ◌∙◌, arith}
use Rattle.progressive.specs.StepTable.{new_face_at, step_formed}
use Rattle.progressive.proofs.Formed.{formed, test_failed, walk_ends, walk_fails, walk_few, walk_on, walk_starts}
use Rattle.progressive.proofs.Marking.{noting_done, noting_more, noting_none}
use Rattle.progressive.proofs.form.steps_formed.Goals as goal

pub loop-k-init : goal.loop-k-init
loop-k-init c = record { walked = walk_starts c.args.steps.now c.args.count c.requires.0 c.number-faces.ensures.0; noting = noting_none }

pub invariant_of-step : goal.invariant_of-step
invariant_of-step c = record { within = c.if-steps-offset.false }

pub overflow_add-faces : goal.overflow_add-faces
overflow_add-faces c =
    omega (
      arith,
      walk_few c.args.steps.now c.args.count c.loop-k.invariant.walked,
      c.requires.1,
      c.requires.2,
      c.loop-k-test.true,
      c.new_face_count-added.ensures.1,
    )

pub returns-then-steps-offset : goal.returns-then-steps-offset
returns-then-steps-offset c =
    let a = c.args in
    let inv = c.loop-k.invariant in
    let more = noting_more a.steps.now inv.noting (record { offset = inv.walked.at; faces = inv.walked.counted }) c.note_step.ensures in
    let short : false ≡ step_formed a.steps.now c.loop-k.offset =
    test_failed (step_formed a.steps.now c.loop-k.offset) (λ e. omega (arith, formed a.steps.now c.loop-k.offset e, c.if-steps-offset.true)) in (
      walk_fails a.steps.now a.count inv.walked _ c.loop-k-test.true short refl,
      more.long,
      λ e. absurd (true≢false (sym e)),
    )

pub returns-then-not-step_formed : goal.returns-then-not-step_formed
returns-then-not-step_formed c =
    let a = c.args in
    let inv = c.loop-k.invariant in
    let more = noting_more a.steps.now inv.noting (record { offset = inv.walked.at; faces = inv.walked.counted }) c.note_step.ensures in (
      walk_fails a.steps.now a.count inv.walked _ c.loop-k-test.true c.step_formed.ensures c.if-not-step_formed.true,
      more.long,
      λ e. absurd (true≢false (sym e)),
    )

pub loop-k-preserved : goal.loop-k-preserved
loop-k-preserved c =
    let a = c.args in
    let inv = c.loop-k.invariant in
    record {
      walked =
          walk_on a.steps.now a.count inv.walked c.loop-k-test.true c.step_formed.ensures c.if-not-step_formed.false
          (c.new_face_at-offset.ensures ∙ ap (λ (n : ℕ). new_face_at a.steps.now c.loop-k.offset n) c.new_face_count-added.ensures.0) c.new_face_count-added.ensures.0;
      noting = noting_more a.steps.now inv.noting (record { offset = inv.walked.at; faces = inv.walked.counted }) c.note_step.ensures;
    }

pub returns : goal.returns
returns c =
    let a = c.args in
    let inv = c.loop-k.invariant in (
      walk_ends a.steps.now a.count inv.walked (omega arith),
      inv.noting.long,
      λ _. noting_done inv.noting inv.walked.so_far (omega arith),
    )
