use Prim.Native.Nat.{ℕ, ◌≤◌}
use lib.ListN.{length}
use Rattle.climb.specs.Inside.{FoundAt}
use Rattle.climb.proofs.bytes.find.Given as goal

abbrev pub invariant-loop-i : goal.invariant-loop-i
invariant-loop-i l = (l.i ≤ length l.s) × ((r : ℕ) → FoundAt l.stop l.s l.i r → FoundAt l.stop l.s l.from r)
