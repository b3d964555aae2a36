use Prim.Native.Nat.{◌*◌, ◌+◌, ◌-◌}
use mathlib.Core.Path.{◌≡◌}
use lib.ListN.{drop}
use Rattle.climb.specs.Climb.{steps_from}
use Rattle.climb.specs.Inside.{Within, stored}
use Rattle.climb.proofs.steps.read_steps.Given as goal

abbrev pub invariant-loop-count : goal.invariant-loop-count
invariant-loop-count l = Within l.text (2 + 129 * l.count) (3 + 518 * l.count) l.next
    × (stored 0 l.initial.table l.fn.from.to (steps_from l.most l.fn.from.line (drop l.fn.from.at l.text))
    ≡ stored l.count l.table l.next.to (steps_from (l.most - l.count) l.next.line (drop l.next.at l.text)))
