-- How refusals go through a judgement: one law for each form that a definition judges by.
use Prim.Native.Nat.{ℕ, ◌≤◌}
use mathlib.Core.Bool.{Bool, true, false, ◌&&◌, and-eq-true_iff, false≢true}
use mathlib.Core.List.{List, [], ◌∷◌}
use mathlib.Core.Path.{◌≡◌, refl}
use native.Mathlib.Omega.{arith}
use borrow.Author.Tests.{eqb-true}
use lib.Dec.{eqb}
use Rattle.fields.specs.Numbers.{truncated, bad_chain}
use Rattle.fields.specs.Judged.{Judged, done, refused, on_done, refused_if, pick}
use Rattle.fields.specs.Member.{member}
use Rattle.blocks.specs.Chain.{in_chain}
use Rattle.blocks.specs.Walk.{Outcome, and_then, on_judged}
use Rattle.blocks_theorems.specs.Refusals.{Refusing}

module _ {A B : Type 0} (numbers : List ℕ) (end : ℕ) where
  pub on_done_lem : (j : Judged A) (next : A → Judged B) → Refusing numbers end j → ((a : A) → j ≡ done a → Refusing numbers end (next a))
      → Refusing numbers end (on_done j next)
  unfolding Refusing
  on_done_lem (done a) next h k = k a refl
  on_done_lem (refused n p) next h k = h

module _ {A : Type 0} (numbers : List ℕ) (end : ℕ) where
  pub picked : (test : Bool) (i j : Judged A) → (test ≡ true → Refusing numbers end i) → (test ≡ false → Refusing numbers end j)
      → Refusing numbers end (pick test i j)
  picked true i j h k = h refl
  picked false i j h k = k refl

  pub refused_if_lem : (test : Bool) (n p : ℕ) (j : Judged A) → member n numbers ≡ true → p ≤ end → (test ≡ false → Refusing numbers end j)
      → Refusing numbers end (refused_if test n p j)
  unfolding Refusing
  refused_if_lem test n p j m h k = picked test (refused n p) j (λ _. (m, h)) k

  pub judged_next : (j : Judged A) (next : A → Outcome) → Refusing numbers end j → ((a : A) → j ≡ done a → Refusing numbers end (next a).ending)
      → Refusing numbers end (on_judged j next).ending
  unfolding Refusing
  judged_next (done a) next h k = k a refl
  judged_next (refused n p) next h k = h

pub and_then_lem : (numbers : List ℕ) (end : ℕ) (first second : Outcome) → Refusing numbers end first.ending → Refusing numbers end second.ending
    → Refusing numbers end (and_then first second).ending
unfolding and_then
and_then_lem numbers end first second h k = by first.ending refl h
  where
    by : (j : Judged (Unit {0})) → first.ending ≡ j → Refusing numbers end j → Refusing numbers end (and_then first second).ending
    by (done u) e h = rw e k
    by (refused n p) e h = rw e h

-- every one of these numbers is one of those
abbrev pub all_in : List ℕ → List ℕ → Bool
all_in [] others = true
all_in (n ∷ more) others = member n others && all_in more others

in_both : (these others : List ℕ) (n : ℕ) → all_in these others ≡ true → member n these ≡ true → member n others ≡ true
in_both [] others n e m = absurd (false≢true m)
in_both (x ∷ more) others n e m =
    let both = (and-eq-true_iff (member x others) (all_in more others)).0 e in
    by both.0 (in_both more others n both.1) (eqb n x) refl m
  where
    by : member x others ≡ true → (member n more ≡ true → member n others ≡ true) → (t : Bool) → eqb n x ≡ t → pick t true (member n more) ≡ true
        → member n others ≡ true
    by here later true q m = rw (eqb-true n x q) here
    by here later false q m = later m

pub wider : {A : Type 0} (these others : List ℕ) (end end' : ℕ) (j : Judged A) → all_in these others ≡ true → end ≤ end' → Refusing these end j
    → Refusing others end' j
unfolding Refusing
wider these others end end' (done a) e l h = tt
wider these others end end' (refused n p) e l h = (in_both these others n e h.0, omega (arith, h.1))

-- what is refused inside a chain: 7 for 1
pub in_chain_lem : {A : Type 0} (numbers : List ℕ) (end : ℕ) (j : Judged A) → member bad_chain numbers ≡ true → Refusing (truncated ∷ numbers) end j
    → Refusing numbers end (in_chain j)
unfolding Refusing
in_chain_lem numbers end (done a) k h = tt
in_chain_lem numbers end (refused n p) k h = by (eqb n truncated) h.0
  where
    by : (t : Bool) → pick t true (member n numbers) ≡ true → (member (pick t bad_chain n) numbers ≡ true) × (p ≤ end)
    by true m = (k, h.1)
    by false m = (m, h.1)
