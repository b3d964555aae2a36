-- The turns of the loop that stores digits. Assumes nothing.
use mathlib.Core.Path.{◌≡◌, ◌∙◌}
use mathlib.Core.List.{List, [], ◌∷◌, ◌++◌}
use Prim.Native.Nat.{ℕ, zero, suc, ◌+◌, ◌-◌, ◌/◌, ◌%◌, ◌<◌}
use native.Mathlib.Omega.{arith}
use lib.ListN.{set}
use lib.Seq.{sets}
use Rattle.text.specs.Digits.{digit_of, digits_of}
use Rattle.fields.proofs.Stores.{sets_append}
use Rattle.text.proofs.Stores.{last_first}
use Rattle.text.proofs.Widths.{digits_length}

-- a turn of the loop that stores digits
pub digits_more : (t : List ℕ) (at base left n : ℕ) → 0 < left
    → sets t at (digits_of base left n) ≡ sets (set t (at + (left - 1)) (digit_of (n % base))) at (digits_of base (left - 1) (n / base))
unfolding digits_of
digits_more t at base zero n h = absurd (omega arith)
digits_more t at base (suc k) n h =
    let e : suc k - 1 ≡ k = omega arith in
    rw e (last_first t at (digits_of base k (n / base)) (digit_of (n % base)) k (digits_length base k (n / base)))

pub digits_none : (t : List ℕ) (at base left n : ℕ) → left ≡ 0 → sets t at (digits_of base left n) ≡ t
unfolding digits_of
digits_none t at base left n e = rw e

-- the digits stored, and then the byte that ends them
pub ended : (t u v : List ℕ) (at base k n x : ℕ) → u ≡ sets t at (digits_of base k n) → v ≡ set u (at + k) x
    → v ≡ sets t at (digits_of base k n ++ (x ∷ []))
ended t u v at base k n x e f = f ∙ rw (sets_append t at (digits_of base k n) (x ∷ []), digits_length base k n, e)
