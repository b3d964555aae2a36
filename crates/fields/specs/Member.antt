-- A number that is one of a list.
use Rattle.std.specs.Prelude.{ℕ, Bool, true, false, List, [], ◌∷◌, eqb}
use Rattle.fields.specs.Judged.{pick}

abbrev pub member : ℕ → List ℕ → Bool
member x [] = false
member x (y ∷ ys) = pick (eqb x y) true (member x ys)
