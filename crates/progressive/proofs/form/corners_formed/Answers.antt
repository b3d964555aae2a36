-- The test of each corner.
use Rattle.std.proofs.Common.{rules, tests, refl}
use Rattle.progressive.specs.StepTable.{corner_formed}
use Rattle.progressive.proofs.Ranges.{all_of_range}
use Rattle.progressive.proofs.form.corners_formed.Goals as goal

pub returns : goal.returns
returns c =
    let a = c.args in
    all_of_range (corner_formed a.step.table.now a.step.at) a.count _ _ _ c.all.ensures.ran refl (λ x q k. search (rules, tests)) (λ x q k. search (rules, tests))
