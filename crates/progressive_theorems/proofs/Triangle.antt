-- The rule on a new face's positions, read as 01 states it: they are r, s and some t < r that is not s, in any order.
use mathlib.Core.Path.{◌≡◌, refl, sym}
use mathlib.Core.Logic.{◌⊎◌, inl, inr, ⊎_elim}
use mathlib.Core.Bool.{Bool, true, false}
use Prim.Native.Nat.{ℕ, ◌<◌}
use native.Mathlib.Omega.{arith}
use borrow.Author.Tests.{eqb-true, eqb-false, eq-eqb, ne_eqb, ltb-true, lt-ltb, not-true}
use lib.Dec.{eqb, ltb}
use Rattle.fields.specs.Judged.{pick}
use Rattle.progressive.specs.Rules.{other_position, split_and_other, split_triangle}
use Rattle.progressive.proofs.Indexed.{and_left, and_right}

module _ (r s : ℕ) where
  abbrev pub Other : ℕ → Type 0
  Other t = (t < r) × (t ≡ s → ⊥)

  -- one of the two is s, and the other one a t
  abbrev pub Pair : ℕ → ℕ → Type 0
  Pair a b = ((a ≡ s) × Other b) ⊎ ((b ≡ s) × Other a)

  -- one of the three is r, and the two that are left are a pair
  abbrev pub Triangle : ℕ → ℕ → ℕ → Type 0
  Triangle a b c = ((a ≡ r) × Pair b c) ⊎ ((b ≡ r) × Pair a c) ⊎ ((c ≡ r) × Pair a b)

  taken : (x : Bool) {y z : Bool} → pick x y z ≡ true → ((x ≡ true) × (y ≡ true)) ⊎ ((x ≡ false) × (z ≡ true))
  taken true e = inl (refl, e)
  taken false e = inr (refl, e)

  other_of : (p : ℕ) → other_position r s p ≡ true → Other p
  unfolding other_position
  other_of p e = (ltb-true _ _ (and_left _ _ e), eqb-false _ _ (not-true _ (and_right (ltb p r) _ e)))

  of_other : (p : ℕ) → Other p → other_position r s p ≡ true
  unfolding other_position
  of_other p o = rw (lt-ltb p r o.0, ne_eqb p s o.1)

  never : {X : Type 0} → false ≡ true → X
  never e = absurd (eqb-false 0 0 (sym e) refl)

  pair_of : (a b : ℕ) → split_and_other r s a b ≡ true → Pair a b
  unfolding split_and_other
  pair_of a b e =
      ⊎_elim (λ w. inl (eqb-true _ _ w.0, other_of b w.1))
      (λ w. ⊎_elim (λ v. inr (eqb-true _ _ v.0, other_of a v.1)) (λ v. never v.1) (taken (eqb b s) w.1))
      (taken (eqb a s) e)

  of_pair : (a b : ℕ) → Pair a b → split_and_other r s a b ≡ true
  unfolding split_and_other
  of_pair a b (inl w) = rw (eq-eqb a s w.0) (of_other b w.1)
  of_pair a b (inr w) = rw (ne_eqb a s w.1.1, eq-eqb b s w.0) (of_other a w.1)

  pub triangle_of : (a b c : ℕ) → split_triangle r s a b c ≡ true → Triangle a b c
  unfolding split_triangle
  triangle_of a b c e =
      ⊎_elim (λ w. inl (eqb-true _ _ w.0, pair_of b c w.1))
      (λ w. ⊎_elim (λ v. inr (inl (eqb-true _ _ v.0, pair_of a c v.1)))
      (λ v. ⊎_elim (λ u. inr (inr (eqb-true _ _ u.0, pair_of a b u.1))) (λ u. never u.1) (taken (eqb c r) v.1))
      (taken (eqb b r) w.1))
      (taken (eqb a r) e)

  -- neither of a pair is r
  not_new : s < r → (a b : ℕ) → Pair a b → (a ≡ r → ⊥) × (b ≡ r → ⊥)
  not_new h a b (inl w) = (λ e. omega (arith, w.0), λ e. omega (arith, w.1.0))
  not_new h a b (inr w) = (λ e. omega (arith, w.1.0), λ e. omega (arith, w.0))

  pub of_triangle : s < r → (a b c : ℕ) → Triangle a b c → split_triangle r s a b c ≡ true
  unfolding split_triangle
  of_triangle h a b c (inl w) = rw (eq-eqb a r w.0) (of_pair b c w.1)
  of_triangle h a b c (inr (inl w)) = rw (ne_eqb a r (not_new h a c w.1).0, eq-eqb b r w.0) (of_pair a c w.1)
  of_triangle h a b c (inr (inr w)) =
      rw (ne_eqb a r (not_new h a b w.1).0, ne_eqb b r (not_new h a b w.1).1, eq-eqb c r w.0) (of_pair a b w.1)
