-- Laws of `all`: what a bounded test tells, and for a loop that tests: one more turn, at the code's i + 1; a failed test; the end.
use mathlib.Core.Path.{◌≡◌, refl, ap, ◌∙◌}
use mathlib.Core.Logic.{⊎_elim}
use mathlib.Core.Bool.{Bool, true, false, and-eq-true_iff, and-false}
use Prim.Native.Nat.{ℕ, zero, suc, ◌+◌, ◌<◌, ◌≤◌}
use native.Mathlib.Numerals.{add-one}
use native.Mathlib.Nat.{eq-or-lt_of_le, le_of_suc-le-suc, not-suc-le-zero}
use native.Mathlib.Omega.{arith}
use Rattle.fields.specs.All.{all}

pub all_at : (p : ℕ → Bool) (n i : ℕ) → all p n ≡ true → i < n → p i ≡ true
all_at p zero i e h = absurd (not-suc-le-zero h)
all_at p (suc n) i e h =
    let both = (and-eq-true_iff (all p n) (p n)).0 e in
    ⊎_elim (λ q. ap p q ∙ both.1) (λ b. all_at p n i both.0 b) (eq-or-lt_of_le (le_of_suc-le-suc h))

pub all_true : (p : ℕ → Bool) (n : ℕ) → ((i : ℕ) → i < n → p i ≡ true) → all p n ≡ true
all_true p zero h = refl
all_true p (suc n) h = rw (all_true p n (λ i l. h i (omega arith)), h n (omega arith))

pub all_more : (p : ℕ → Bool) (i : ℕ) → all p i ≡ true → p i ≡ true → all p (i + 1) ≡ true
all_more p i e h = rw (add-one i, e, h)

pub all_fails : (p : ℕ → Bool) (n i : ℕ) → i < n → p i ≡ false → all p n ≡ false
all_fails p zero i b h = absurd (not-suc-le-zero b)
all_fails p (suc n) i b h =
    ⊎_elim (λ q. rw (← q, h) (and-false (all p i))) (λ c. rw (all_fails p n i c h)) (eq-or-lt_of_le (le_of_suc-le-suc b))

-- the loop's counter at its end
pub all_done : (p : ℕ → Bool) (n i : ℕ) → i ≤ n → n ≤ i → all p i ≡ true → all p n ≡ true
all_done p n i a b e = let q : i ≡ n = omega arith in rw q at e
