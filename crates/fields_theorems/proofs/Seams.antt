-- Lists that stand in a list: what begins at an offset is what `drop` leaves there, so each law follows from one of `drop` over an append.
use Prim.Native.Nat.{ℕ, suc, ◌+◌, ◌≤◌, ◌<◌}
use lib.ListN.{drop, get_or, length, length-append, length-drop}
use lib.Seq.{drop-append_seam, drop-drop, get_or-drop}
use mathlib.Core.List.{List, [], ◌∷◌, ◌++◌}
use mathlib.Core.Path.{◌≡◌, ap, refl, sym, ◌∙◌}
use native.Mathlib.Nat.{add-zero}
use native.Mathlib.Numerals.{add-one}
use native.Mathlib.Omega.{arith}

module _ {A : Type 0} (s part rest : List A) (at : ℕ) (here : drop at s ≡ part ++ rest) where
  -- what follows a part begins where the part ends
  pub past : (n : ℕ) → length part ≡ n → drop (at + n) s ≡ rest
  past n e = sym (drop-drop n at s) ∙ rw (here, ← e) (drop-append_seam part rest)

  -- a part that is not empty lies within the list
  pub within : 0 < length part → at + length part ≤ length s
  within h = omega (arith, length-drop at s, length-append part rest, ap length here)

-- the element at an offset
pub first_at : {A : Type 0} (s : List A) (a : A) (rest : List A) (at : ℕ) (d : A) → drop at s ≡ a ∷ rest → get_or s at d ≡ a
first_at s a rest at d here = ap (λ (i : ℕ). get_or s i d) (sym (add-zero at)) ∙ sym (get_or-drop at s 0 d) ∙ ap (λ (l : List _). get_or l 0 d) here

-- what follows it
pub second_at : {A : Type 0} (s : List A) (a : A) (rest : List A) (at : ℕ) → drop at s ≡ a ∷ rest → drop (suc at) s ≡ rest
second_at s a rest at here = rw (← add-one at) (past s (a ∷ []) rest at here 1 refl)
