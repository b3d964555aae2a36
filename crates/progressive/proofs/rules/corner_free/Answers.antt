-- Each move is tested, as the code has its place.
use Rattle.std.proofs.Common.{ℕ, ◌+◌, ◌*◌, not, ◌&&◌, eqb, get_or, rules, tests, refl, ◌∙◌}
use Rattle.progressive.specs.StepTable.{move_words, step_words}
use Rattle.progressive.specs.Rules.{other_corner}
use Rattle.progressive.proofs.Allowing.{other_named}
use Rattle.progressive.proofs.Ranges.{all_of_range, same_all}
use Rattle.progressive.proofs.rules.corner_free.Goals as goal

pub returns : goal.returns
returns c =
    let a = c.args in
    let t = a.step.table.now in
    let test = λ (j : ℕ). not (eqb a.face (get_or t (a.step.at + step_words + move_words * j) 0) && eqb a.corner (get_or t (a.step.at + step_words + move_words * j + 1) 0)) in
    all_of_range test a.i _ _ _ c.all.ensures.ran refl (λ x q k. search (rules, tests)) (λ x q k. search (rules, tests))
    ∙ same_all test (other_corner t a.step.at a.i) a.i (λ j h. other_named t a.step.at a.i j c.requires refl)
