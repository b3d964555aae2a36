use mathlib.Core.Path.{◌≡◌}
use Rattle.rows.specs.Rows.{declared_below}
use Rattle.rows.proofs.declaration_before.Given as goal

abbrev pub invariant-loop-left : goal.invariant-loop-left
invariant-loop-left l = declared_below l.file l.table l.name l.row ≡ declared_below l.file l.table l.name l.left
