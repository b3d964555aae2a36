-- What is filled is what stores of the value, one after the other, leave.
use Rattle.progressive.proofs.Indexed.{filled_part}
use Rattle.progressive.proofs.lay.fill.Goals as goal

pub returns : goal.returns
returns c = let a = c.args in filled_part a.table.now a.at a.value a.count c.requires (c.fill.ensures.after (λ y e. e))
