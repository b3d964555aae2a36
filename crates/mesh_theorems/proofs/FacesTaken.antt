-- The numbers of faces within their counts are such as their contexts take, and a face has few symbols.
use Prim.Native.Nat.{ℕ, zero, suc, ◌+◌, ◌*◌, ◌-◌, ◌%◌, ◌≤◌}
use mathlib.Core.Bool.{Bool, true, false}
use mathlib.Core.List.{List, [], ◌∷◌, ◌++◌}
use native.Mathlib.Omega.{arith}
use lib.Dec.{ltb}
use lib.ListN.{drop, get_or, length, take}
use Rattle.fields.specs.Limits.{largest_count}
use Rattle.fields.specs.Judged.{pick}
use Rattle.coder_theorems.specs.Runs.{AllTyped, Number, dynamic, most_symbols, static}
use Rattle.coder_theorems.specs.Enough.{AllTake, all_symbols}
use Rattle.mesh.specs.Shading.{shading_limit}
use Rattle.mesh.specs.Corners.{corner_fields, face_words, form_of, range_of}
use Rattle.mesh.specs.declared.declaration.Declaration.{Declaration}
use Rattle.mesh.specs.declared.faces.CornerForm.{CornerForm}
use Rattle.mesh_theorems.specs.CornerInfo.{Index, face_indices}
use Rattle.mesh_theorems.specs.Below.{FaceBelow, FacesBelow, IndexBelow, IndicesBelow}
use Rattle.mesh_theorems.specs.FaceNumbers.{face_numbers, faces_numbers, index_number, index_numbers}
use Rattle.mesh_theorems.proofs.CornerInfo.{AsRead, face_length, face_read}

-- numbers of their calls' types, which their contexts take, of at most so many symbols
pub record Fine (most : ℕ) (ns : List Number) : Type 0 where
  pub typed : AllTyped ns
  pub takes : AllTake 1 ns
  pub few : all_symbols ns ≤ most

fine_append : (a b most : ℕ) (ms ns : List Number) → a + b ≤ most → Fine a ms → Fine b ns → Fine most (ms ++ ns)
unfolding AllTyped AllTake
fine_append a b most [] ns h f g = record { typed = g.typed; takes = g.takes; few = omega (arith, g.few) }
fine_append a b most (m ∷ ms) ns h f g =
    let k = most_symbols m.context in
    let left : Fine (a - k) ms = record { typed = f.typed.1; takes = f.takes.1; few = omega (arith, f.few) } in
    let rest = fine_append (a - k) b (most - k) ms ns (omega (arith, f.few)) left g in
    record { typed = (f.typed.0, rest.typed); takes = (f.takes.0, rest.takes); few = omega (arith, f.few, rest.few) }

-- ---- the indices of a face

abbrev index_symbols : ℕ
index_symbols = most_symbols (static 0)

index-fine : (w count : ℕ) → count ≤ largest_count → (p : Bool) → IndexBelow p w count → Fine index_symbols (pick p (index_number count w ∷ []) [])
unfolding AllTyped AllTake
index-fine w count small true b = record { typed = (omega arith, tt); takes = (b, tt); few = omega arith }
index-fine w count small false b = record { typed = tt; takes = tt; few = omega arith }

indices_fine : (form : CornerForm) (is : List Index) (ws : List ℕ) (n : ℕ) → ((field : ℕ) → range_of form field ≤ largest_count) → AsRead form n is
    → IndicesBelow is ws → Fine (index_symbols * length is) (index_numbers is ws)
unfolding AllTyped AllTake AsRead IndicesBelow index_numbers
indices_fine form [] [] n small a b = record { typed = tt; takes = tt; few = omega arith }
indices_fine form [] (w ∷ ws) n small a b = absurd b
indices_fine form (i ∷ is) [] n small a b = absurd b
indices_fine form (i ∷ is) (w ∷ ws) n small a b =
    let low : i.count ≤ largest_count = rw a.0 (small (n % corner_fields)) in
    fine_append index_symbols (index_symbols * length is) _ (pick i.present (index_number i.count w ∷ []) []) (index_numbers is ws) (omega arith)
    (index-fine w i.count low i.present b.0) (indices_fine form is ws (suc n) small a.1 b.1)

-- ---- faces

-- a shading id, and the indices of three corners
abbrev pub face_symbols : ℕ
face_symbols = most_symbols (dynamic 0) + index_symbols * (3 * corner_fields)

module _ (declaration : Declaration) (counts : List ℕ) (shadings : declaration.shading_count ≤ shading_limit)
    (small : (i : ℕ) → get_or counts i 0 ≤ largest_count) where
  face-fine : (words : List ℕ) → FaceBelow declaration counts words → Fine face_symbols (face_numbers declaration counts words)
  unfolding AllTyped AllTake FaceBelow face_numbers range_of
  face-fine [] b = absurd b
  face-fine (id ∷ corners) b =
      let form = form_of declaration counts id in
      let low : (field : ℕ) → range_of form field ≤ largest_count = λ field. small (pick (ltb field 4) (field + 1) 5) in
      let rest = indices_fine form (face_indices declaration counts id) corners 0 low (face_read declaration counts id) b.1 in
      record {
        typed = (omega arith, rest.typed);
        takes = ((omega arith, omega arith), rest.takes);
        few = omega (arith, rest.few, face_length declaration counts id);
      }

  -- The numbers of faces within their counts.
  pub faces_fine : (n : ℕ) (words : List ℕ) → FacesBelow declaration counts n words → Fine (face_symbols * n) (faces_numbers declaration counts n words)
  unfolding AllTyped AllTake FacesBelow faces_numbers
  faces_fine zero words b = record { typed = tt; takes = tt; few = omega arith }
  faces_fine (suc left) words b =
      fine_append face_symbols (face_symbols * left) _ (face_numbers declaration counts (take face_words words))
      (faces_numbers declaration counts left (drop face_words words)) (omega arith) (face-fine (take face_words words) b.0)
      (faces_fine left (drop face_words words) b.1)
