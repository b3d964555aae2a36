-- The position refutes, or the absent fields decide.
use Rattle.std.proofs.Common.{sym, ◌∙◌}
use Rattle.progressive.proofs.Indexed.{first-same}
use Rattle.progressive.proofs.Laying.{corner_parts}
use Rattle.progressive.proofs.show.corner_shows.Goals as goal

pub returns-then-faces-at : goal.returns-then-faces-at
returns-then-faces-at c =
    let a = c.args in
    first-same c.if-faces-at.true c.filled.ensures ∙ sym (corner_parts a.faces.now a.at a.position)
