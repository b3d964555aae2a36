-- A number that is one of a list, as a match tells it. Assumes nothing.
use mathlib.Core.Path.{◌≡◌, refl}
use mathlib.Core.Logic.{◌⊎◌, inl, inr}
use mathlib.Core.Bool.{Bool, true, false}
use mathlib.Core.List.{List, [], ◌∷◌}
use Prim.Native.Nat.{ℕ}
use borrow.Author.Tests.{eq-eqb, ne_eqb}
use lib.Dec.{eqb}
use Rattle.fields.specs.Judged.{pick}
use Rattle.fields.specs.Member.{member}

-- x is y or one of the list
abbrev pub OneOf : ℕ → ℕ → List ℕ → Type 0
OneOf x y [] = x ≡ y
OneOf x y (z ∷ zs) = (x ≡ y) ⊎ OneOf x z zs

either : (t u : Bool) → u ≡ true → pick t true u ≡ true
either true u e = refl
either false u e = e

pub one_of : (x y : ℕ) (zs : List ℕ) → OneOf x y zs → member x (y ∷ zs) ≡ true
one_of x y [] e = rw (eq-eqb x y e)
one_of x y (z ∷ zs) (inl e) = rw (eq-eqb x y e)
one_of x y (z ∷ zs) (inr o) = either (eqb x y) (member x (z ∷ zs)) (one_of x z zs o)

pub none_of : (x y : ℕ) (zs : List ℕ) → (OneOf x y zs → ⊥) → member x (y ∷ zs) ≡ false
none_of x y [] n = rw (ne_eqb x y n)
none_of x y (z ∷ zs) n = rw (ne_eqb x y (λ e. n (inl e))) (none_of x z zs (λ o. n (inr o)))
