-- Bytes stored one after the other. Assumes nothing.
use mathlib.Core.Path.{◌≡◌, refl, ap, sym, ◌∙◌}
use mathlib.Core.List.{List, [], ◌∷◌, ◌++◌}
use Prim.Native.Nat.{ℕ, suc, ◌+◌, ◌≤◌, ◌<◌}
use native.Mathlib.Omega.{arith}
use Rattle.fields.proofs.Stores.{sets_append}
use lib.ListN.{length, set, get_or, drop}
use lib.Seq.{sets, length-sets, set_comm, drop-cons, drop-length}

-- what is stored after the first part is stored with it
pub stores_on : (t₀ t₁ : List ℕ) (at : ℕ) (a b : List ℕ) (n : ℕ) → t₁ ≡ sets t₀ at a → n ≡ length a → sets t₁ (at + n) b ≡ sets t₀ at (a ++ b)
stores_on t₀ t₁ at a b n e l = rw (e, l) (sym (sets_append t₀ at a b))

-- what is stored keeps the length
pub stored_length : (u t : List ℕ) (i : ℕ) (a : List ℕ) → u ≡ sets t i a → length u ≡ length t
stored_length u t i a e = ap length e ∙ length-sets t i a

-- a byte past what is stored may be stored first
pub set_sets : (t : List ℕ) (i : ℕ) (a : List ℕ) (j x : ℕ) → i + length a ≤ j → set (sets t i a) j x ≡ sets (set t j x) i a
set_sets t i [] j x h = refl
set_sets t i (y ∷ a) j x h =
    set_sets (set t i y) (suc i) a j x (omega arith) ∙ rw (set_comm t i j y x (λ e. omega arith))

-- the last byte of what is to be stored may be stored first
pub last_first : (t : List ℕ) (i : ℕ) (a : List ℕ) (x k : ℕ) → length a ≡ k → sets t i (a ++ (x ∷ [])) ≡ sets (set t (i + k) x) i a
last_first t i a x k e = sets_append t i a (x ∷ []) ∙ set_sets t i a (i + length a) x (omega arith) ∙ rw e

-- a loop that stores a word: before it, a turn, and after it
pub word_none : (t : List ℕ) (at : ℕ) (w : List ℕ) → sets t at w ≡ sets t (at + 0) w
word_none t at w = let e : at + 0 ≡ at = omega arith in rw e

pub word_turn : (t : List ℕ) (at i : ℕ) (w : List ℕ) → i < length w
    → sets t (at + i) (drop i w) ≡ sets (set t (at + i) (get_or w i 0)) (at + (i + 1)) (drop (i + 1) w)
word_turn t at i w h =
    let e : at + (i + 1) ≡ suc (at + i) = omega arith in
    let f : i + 1 ≡ suc i = omega arith in
    rw (e, f, drop-cons w i 0)

pub word_done : (t : List ℕ) (i j : ℕ) (w : List ℕ) → i ≡ length w → sets t j (drop i w) ≡ t
word_done t i j w e = rw (e, drop-length)
