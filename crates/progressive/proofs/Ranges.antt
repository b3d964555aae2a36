-- A test of every index of a range is a test by `all`.
use Rattle.std.proofs.Common.{◌≡◌, ℕ, zero, suc, ◌+◌, ◌<◌, Bool, true, false, List, length, get_or, Option, refl, sym, ap, ◌∙◌, arith}
use Rattle.std.specs.Bool.{MatchBool}
use Rattle.std.specs.Fn.{Called}
use Rattle.std.specs.Iterator.{YieldsThen}
use Rattle.std.specs.List.{AllWithin, FoldsTo, HoldsAt, range_with_len}
use Rattle.std.specs.Option.{MatchOption}
use Rattle.std.specs.declared.ops.Range.{Range}
use Rattle.std.proofs.iter.Yields.{nat_range_steps}
use Rattle.std.proofs.lemmas.Iterator.{YieldsList-from_range, cases_from_all}
use Rattle.std.proofs.lemmas.List.FromFn.{get_or-range_with_len, length-range_with_len}
use denote.Param.Members.{Mut}
use Rattle.fields.specs.All.{all}
use Rattle.fields.proofs.All.{all_fails, all_true}

module _ (p : ℕ → Bool) (n : ℕ) where
  at : (i : ℕ) → i < n → get_or (range_with_len 0 n) i 0 ≡ i
  at i b = let none : 0 + i ≡ i = omega arith in get_or-range_with_len 0 n i 0 b ∙ none

  by_cases : (r : Bool) → MatchBool r (AllWithin (λ x. p x ≡ true) (range_with_len 0 n) 0 (length (range_with_len 0 n)))
      ((k : ℕ) × (k < length (range_with_len 0 n)) × HoldsAt (λ x. p x ≡ false) (range_with_len 0 n) k) → r ≡ all p n
  by_cases true h = sym (all_true p n (λ i b. ap p (sym (at i b)) ∙ h i 0 (omega arith) (rw (length-range_with_len 0 n) b)))
  by_cases false h =
      let b : h.0 < n = rw (length-range_with_len 0 n) at h.1 in
      sym (all_fails p n h.0 b (ap p (sym (at h.0 b)) ∙ h.2 0))

  pub all_of_range : {F : Type 0} {g : Mut F (ℕ × Unit {0}) Bool} {s : Range ℕ} (u : Range ℕ) (f : F) (r : Bool)
      → (xs : List ℕ) × (o : Option ℕ) × (j : F) × YieldsThen nat_range_steps s xs o u × FoldsTo (λ a x q. Called g a (x, tt) true q) f xs j
      × MatchOption o (r ≡ true) (λ x. (r ≡ false) × ((h : F) × Called g j (x, tt) false h))
      → s ≡ record { start = 0; end = n }
      → ((x : ℕ) (q : F) → Called g f (x, tt) true q → (q ≡ f) × (p x ≡ true))
      → ((x : ℕ) (q : F) → Called g f (x, tt) false q → p x ≡ false)
      → r ≡ all p n
  all_of_range u f r ran e holds fails = by_cases r (cases_from_all u f r (λ x. p x ≡ true) (λ x. p x ≡ false) ran (YieldsList-from_range 0 n n e (omega arith)) holds fails)

-- tests that agree below a count
pub same_all : (p q : ℕ → Bool) (n : ℕ) → ((i : ℕ) → i < n → p i ≡ q i) → all p n ≡ all q n
same_all p q zero h = refl
same_all p q (suc n) h = rw (same_all p q n (λ i b. h i (omega arith)), h n (omega arith))
