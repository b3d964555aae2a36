use Prim.Native.Nat.{◌*◌, ◌+◌, ◌-◌}
use mathlib.Core.Path.{◌≡◌}
use lib.ListN.{drop}
use Rattle.climb.specs.Climb.{rows_from}
use Rattle.climb.specs.Inside.{Within, form_of, stored}
use Rattle.climb.proofs.steps.read_rows.Given as goal

abbrev pub invariant-loop-count : goal.invariant-loop-count
invariant-loop-count l = Within l.text (l.fn.from.line + l.count) (l.fn.from.to + 4 * l.count) l.next
    × (stored 0 l.initial.table l.fn.from.to (rows_from (form_of l.form) l.most l.fn.from.line (drop l.fn.from.at l.text))
    ≡ stored l.count l.table l.next.to (rows_from (form_of l.form) (l.most - l.count) l.next.line (drop l.next.at l.text)))
