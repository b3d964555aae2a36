-- Values that stand in a list.
use Prim.Native.Nat.{ℕ, suc}
use lib.ListN.{drop, length}
use mathlib.Core.List.{List, [], ◌∷◌, ◌++◌}
use mathlib.Core.Path.{◌≡◌, refl}
use Rattle.fields_theorems.proofs.Seams.{first_at, second_at}
use Rattle.mesh.specs.Run.{values_of}

-- so many values at an offset
pub values_at : (s vs rest : List ℕ) (at n : ℕ) → drop at s ≡ vs ++ rest → length vs ≡ n → values_of s at n ≡ vs
values_at s vs rest at n here e = rw (← e) (all_at vs at here)
  where
    all_at : (vs : List ℕ) (at : ℕ) → drop at s ≡ vs ++ rest → values_of s at (length vs) ≡ vs
    all_at [] at here = refl
    all_at (v ∷ vs) at here = rw (first_at s v (vs ++ rest) at 0 here, all_at vs (suc at) (second_at s v (vs ++ rest) at here))
