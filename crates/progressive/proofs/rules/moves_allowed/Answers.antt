use Rattle.std.proofs.Common.{rules, tests, refl}
use Rattle.progressive.specs.Rules.{move_numbers}
use Rattle.progressive.proofs.Ranges.{all_of_range}
use Rattle.progressive.proofs.rules.moves_allowed.Goals as goal

pub returns : goal.returns
returns c =
    let a = c.args in
    all_of_range (move_numbers a.step.table.now a.step.at a.faces) a.count _ _ _ c.all.ensures.ran refl (λ x q k. search (rules, tests)) (λ x q k. search (rules, tests))
