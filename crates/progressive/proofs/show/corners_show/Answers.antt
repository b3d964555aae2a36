use Rattle.std.proofs.Common.{rules, tests, refl, eqb, get_or}
use Rattle.progressive.specs.Rules.{corner_index}
use Rattle.progressive.proofs.Ranges.{all_of_range}
use Rattle.progressive.proofs.show.corners_show.Goals as goal

pub returns : goal.returns
returns c =
    let a = c.args in
    all_of_range (λ i. eqb (get_or a.faces.now (corner_index a.step.table.now a.step.at i) 0) a.value) a.count _ _ _ c.all.ensures.ran refl
    (λ x q k. search (rules, tests)) (λ x q k. search (rules, tests))
