-- Each record is tested, as the code has the places.
use Rattle.std.proofs.Common.{ℕ, ◌+◌, ◌*◌, rules, tests, refl, ◌∙◌}
use Rattle.mesh.specs.Corners.{face_words}
use Rattle.progressive.specs.StepTable.{new_face_words}
use Rattle.progressive.specs.Inside.{record_shown}
use Rattle.progressive.proofs.Laying.{records_shown}
use Rattle.progressive.proofs.Ranges.{all_of_range}
use Rattle.progressive.proofs.show.records_show.Goals as goal

pub returns : goal.returns
returns c =
    let a = c.args in
    let t = a.step.table.now in
    let test = λ (j : ℕ). record_shown t (c.new_face_at-first.result + new_face_words * j) a.faces.now (a.at + face_words * j) in
    all_of_range test a.count _ _ _ c.all.ensures.ran refl (λ x q k. search (rules, tests)) (λ x q k. search (rules, tests))
    ∙ records_shown t a.step.at a.at a.faces.now a.count c.new_face_at-first.ensures
