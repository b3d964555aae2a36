-- Each new face is tested, as the code has its place.
use Rattle.std.proofs.Common.{ℕ, ◌+◌, ◌*◌, rules, tests, refl, ◌∙◌}
use Rattle.progressive.specs.StepTable.{new_face_words}
use Rattle.progressive.specs.Rules.{new_face_allowed, new_face_numbers}
use Rattle.progressive.proofs.Allowing.{new_face_test}
use Rattle.progressive.proofs.Ranges.{all_of_range, same_all}
use Rattle.progressive.proofs.rules.new_faces_allowed.Goals as goal

pub returns : goal.returns
returns c =
    let a = c.args in
    let t = a.step.table.now in
    let test = λ (j : ℕ). new_face_allowed t (c.new_face_at-first.result + new_face_words * j) a.shadings a.r c.split.result in
    all_of_range test a.count _ _ _ c.all.ensures.ran refl (λ x q k. search (rules, tests)) (λ x q k. search (rules, tests))
    ∙ same_all test (new_face_numbers t a.step.at a.shadings a.r) a.count
    (λ j h. new_face_test t a.step.at a.shadings a.r j c.new_face_at-first.ensures c.split.ensures refl)
