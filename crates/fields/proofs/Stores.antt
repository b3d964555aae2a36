-- Numbers stored one after the other. Assumes nothing.
use Prim.Native.Nat.{ℕ, suc, ◌+◌}
use lib.ListN.{length, set}
use lib.Seq.{sets}
use mathlib.Core.List.{List, [], ◌∷◌, ◌++◌}
use mathlib.Core.Path.{◌≡◌}
use native.Mathlib.Nat.{add-zero}
use native.Mathlib.Omega.{arith}

-- what is stored in two parts
pub sets_append : (t : List ℕ) (i : ℕ) (a b : List ℕ) → sets t i (a ++ b) ≡ sets (sets t i a) (i + length a) b
sets_append t i [] b = rw add-zero
sets_append t i (x ∷ a) b =
    let place : i + suc (length a) ≡ suc i + length a = omega arith in
    rw place (sets_append (set t i x) (suc i) a b)
