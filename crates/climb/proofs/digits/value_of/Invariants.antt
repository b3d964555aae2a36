use Prim.Native.Nat.{◌≤◌}
use Rattle.fields.specs.Limits.{any_number}
use mathlib.Core.Path.{◌≡◌}
use lib.ListN.{drop}
use Rattle.climb.proofs.Numerals.{number_after}
use Rattle.climb.proofs.digits.value_of.Given as goal

abbrev pub invariant-loop-b : goal.invariant-loop-b
invariant-loop-b l = (l.value ≤ any_number) × (number_after l.base 0 l.digits ≡ number_after l.base l.value (drop l.b-index l.digits))
