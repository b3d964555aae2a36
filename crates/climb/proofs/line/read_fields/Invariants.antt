use Prim.Native.Nat.{ℕ, ◌+◌, ◌≤◌}
use mathlib.Core.Path.{◌≡◌}
use lib.ListN.{drop, length}
use Rattle.climb.specs.Lines.{fields_after}
use Rattle.climb.specs.Inside.{rules_of, stored_fields}
use Rattle.climb.proofs.line.read_fields.Given as goal

abbrev pub invariant-loop-i : goal.invariant-loop-i
invariant-loop-i l = (l.at ≤ length l.line)
    × ((n : ℕ) → stored_fields l.initial.table l.to (fields_after n (rules_of l.rules) l.line)
    ≡ stored_fields l.table (l.to + l.i) (fields_after n (rules_of (drop l.i l.rules)) (drop l.at l.line)))
