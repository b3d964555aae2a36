-- A face's corners, field by field, and its words as they are stored.
use Prim.Native.Nat.{ℕ, suc, ◌+◌, ◌-◌, ◌%◌, ◌≤◌, ◌<◌}
use mathlib.Core.Path.{◌≡◌}
use mathlib.Core.List.{List}
use native.Mathlib.Numerals.{add-one}
use native.Mathlib.Omega.{arith}
use lib.ListN.{set}
use Rattle.fields.specs.Judged.{done, refused}
use Rattle.coder.specs.declared.interval.Coder.{Coder}
use Rattle.mesh.specs.Corners.{corner_fields}
use Rattle.mesh.specs.Faces.{corners_from, field_from}
use Rattle.mesh.specs.Inside.{stored_words}
use Rattle.mesh.specs.declared.faces.CornerForm.{CornerForm}
use Rattle.mesh.proofs.Chains.{on_mapped}

module _ (form : CornerForm) (count n : ℕ) (d : List ℕ) (s : Coder) (table : List ℕ) (at : ℕ) where
  pub corners_more : (v : ℕ) (t : Coder) → n < count → field_from form (n % corner_fields) d s ≡ done (record { value = v; state = t })
      → stored_words table (at + n) (corners_from form (count - n) n d s)
      ≡ stored_words (set table (at + n) v) (at + (n + 1)) (corners_from form (count - (n + 1)) (n + 1) d t)
  unfolding corners_from
  corners_more v t h e =
      let k : count - n ≡ suc (count - (n + 1)) = omega arith in
      let p : at + (n + 1) ≡ suc (at + n) = omega arith in
      rw (k, corners_from, e, p, add-one) (on_mapped (corners_from form (count - suc n) (suc n) d t) _ _)

  pub corners_refused : (number p : ℕ) → n < count → field_from form (n % corner_fields) d s ≡ refused number p
      → stored_words table (at + n) (corners_from form (count - n) n d s) ≡ refused number p
  unfolding corners_from
  corners_refused number p h e =
      let k : count - n ≡ suc (count - (n + 1)) = omega arith in
      rw (k, corners_from, e)

  pub corners_none : count ≤ n → stored_words table (at + n) (corners_from form (count - n) n d s) ≡ done (record { value = table; state = s })
  unfolding corners_from
  corners_none h =
      let k : count - n ≡ 0 = omega arith in
      rw (k, corners_from)
