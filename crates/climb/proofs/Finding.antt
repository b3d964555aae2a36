-- Bytes one by one: a search goes on past any other byte.
use Prim.Native.Nat.{ℕ, suc, ◌+◌, ◌-◌, ◌≤◌, ◌<◌}
use mathlib.Core.Path.{◌≡◌, ◌∙◌, ap, refl}
use mathlib.Core.Bool.{Bool, true, false, ◌&&◌}
use mathlib.Core.List.{List, ◌∷◌}
use native.Mathlib.Numerals.{add-one}
use native.Mathlib.Omega.{arith}
use borrow.Author.Tests.{eq-eqb, le-ltb, lt-ltb, ne_eqb}
use lib.ListN.{drop, drop_of_length-le, get_or, length}
use lib.Seq.{drop-cons}
use Rattle.std.specs.Prelude.{Option, Some, None}
use Rattle.std.specs.Option.{is_some, unwrap_or}
use Rattle.climb.specs.Lines.{has, past, until}
use Rattle.climb.specs.Inside.{Found, FoundAt}

pub and-false : (t : Bool) → (t && false) ≡ false
and-false true = refl
and-false false = refl

pub and-true : (t : Bool) → (t && true) ≡ t
and-true true = refl
and-true false = refl

-- ---- the next byte of a kind

module _ (stop : ℕ) (s : List ℕ) (i : ℕ) where
  pub found_here : i < length s → get_or s i 0 ≡ stop → FoundAt stop s i i
  unfolding until has past
  found_here h e =
      let z : i - i ≡ 0 = omega arith in
      record {
        low = omega arith;
        high = omega arith;
        before_it = rw (drop-cons s i 0 h, eq-eqb _ _ e, z);
        there = rw (drop-cons s i 0 h, eq-eqb _ _ e, lt-ltb _ _ h);
        after_it = rw (drop-cons s i 0 h, eq-eqb _ _ e, add-one);
      }

  pub found_none : i ≤ length s → length s ≤ i → FoundAt stop s i (length s)
  unfolding until has past
  found_none h h' =
      let z : length s - i ≡ 0 = omega arith in
      let l : length s ≤ length s + 1 = omega arith in
      let same : length s ≤ length s = omega arith in
      record {
        low = h;
        high = same;
        before_it = rw (drop_of_length-le s h', z);
        there = rw (drop_of_length-le s h', le-ltb _ _ same);
        after_it = rw (drop_of_length-le s h', drop_of_length-le s l);
      }

  pub found_more : i < length s → (get_or s i 0 ≡ stop → ⊥) → (r : ℕ) → FoundAt stop s (i + 1) r → FoundAt stop s i r
  unfolding until has past
  found_more h n r f =
      let low : suc i ≤ r = omega (arith, f.low) in
      let z : r - i ≡ suc (r - suc i) = omega arith in
      record {
        low = omega arith;
        high = f.high;
        before_it = rw (drop-cons s i 0 h, ne_eqb _ _ n, z) (ap (λ (l : List ℕ). get_or s i 0 ∷ l) (rw add-one at f.before_it));
        there = rw (drop-cons s i 0 h, ne_eqb _ _ n) (rw add-one at f.there);
        after_it = rw (drop-cons s i 0 h, ne_eqb _ _ n) (rw (add-one i) at f.after_it);
      }

module _ (stop : ℕ) (s : List ℕ) (from : ℕ) where
  -- the next byte's index, or the length
  pub found_or : (r : Option ℕ) → Found stop s from r → FoundAt stop s from (unwrap_or r (length s))
  found_or (Some r) f = f.1
  found_or None f = f

  -- whether there is one
  pub found_has : (r : Option ℕ) → Found stop s from r → has stop (drop from s) ≡ is_some r
  found_has (Some r) f = f.1.there ∙ lt-ltb _ _ f.0
  found_has None f = let same : length s ≤ length s = omega arith in f.there ∙ le-ltb _ _ same
