-- Every number that is handed out is within the mesh: the coder hands out no static number that is not below its range, the shading id is
-- judged, and an absent field is written as such.
use Prim.Native.Nat.{ℕ, zero, suc, ◌*◌, ◌%◌, ◌<◌}
use mathlib.Core.Bool.{Bool, true, false, not}
use mathlib.Core.List.{List, [], ◌∷◌, ◌++◌}
use mathlib.Core.Path.{◌≡◌, ◌∙◌, refl, ap, sym}
use native.Mathlib.Omega.{arith}
use borrow.Author.Tests.{leb-false}
use lib.Dec.{leb}
use lib.ListN.{drop, get_or, length, length-append, take, take-append-drop}
use lib.Seq.{drop_at, take_at}
use Rattle.fields.specs.Judged.{Judged, done, refused, pick}
use Rattle.fields.specs.Numbers.{no_room, out_of_range}
use Rattle.fields.proofs.Judging.{not_done, passed, same_done, value_before}
use Rattle.coder.specs.Reading.{Taken, take_static}
use Rattle.coder.specs.declared.interval.Coder.{Coder}
use Rattle.coder_theorems.specs.Runs.{Histograms, call_read}
use Rattle.coder_theorems.proofs.Calls.{taken_done}
use Rattle.coder_theorems.proofs.States.{take_static_below}
use Rattle.mesh.specs.Corners.{absent, corner_fields, face_words, form_of, present, range_of, shading_context}
use Rattle.mesh.specs.Faces.{Coded, coded_number, corners_from, face_from, faces_from, faces_of, field_from, placed_at, shading_from}
use Rattle.mesh.specs.Base.{InPart, Mesh, Tables, base_of, has_room, head_of, in_part, lengths_of, mesh_of, pool_words, pools_at, read, sized, tables_after}
use Rattle.mesh.specs.Declaration.{declaration_of, mesh_name}
use Rattle.mesh.specs.declared.base.Part.{Part}
use Rattle.mesh.specs.declared.base.Part as part
use Rattle.mesh.specs.declared.declaration.Declaration.{Declaration}
use Rattle.mesh.specs.declared.faces.CornerForm.{CornerForm}
use Rattle.mesh_theorems.specs.Below.{FaceBelow, FacesBelow, IndexBelow, IndicesBelow}
use Rattle.mesh_theorems.specs.CornerInfo.{Index, face_indices}
use Rattle.mesh_theorems.proofs.CornerInfo.{AsRead, face_length, face_read}

-- ---- a field

-- a number that the coder read was done
coded_done : (t : Taken) (c : Coded ℕ) → coded_number t ≡ done c → (t.done ≡ true) × (t.value ≡ c.value)
coded_done t c e = go t.done refl e
  where
    go : (b : Bool) → t.done ≡ b → pick b (done (record { value = t.value; state = t.state })) (refused t.number 0) ≡ done c
        → (t.done ≡ true) × (t.value ≡ c.value)
    go true q h = (q, ap (λ (x : Coded ℕ). x.value) (same_done h))
    go false q h = not_done h

static_done : (range : ℕ) (d : List ℕ) (s : Coder) → (take_static true range d s).done ≡ true → (take_static true range d s).value < range
unfolding take_static
static_done range d s e = take_static_below true range d s (taken_done _ _ s e)

field_below : (form : CornerForm) (field : ℕ) (d : List ℕ) (s : Coder) (c : Coded ℕ) → field_from form field d s ≡ done c
    → IndexBelow (present form field) c.value (range_of form field)
unfolding field_from call_read
field_below form field d s c e = go (present form field) e
  where
    go : (b : Bool) → pick b (coded_number (take_static true (range_of form field) d s)) (done (record { value = absent; state = s })) ≡ done c
        → IndexBelow b c.value (range_of form field)
    go true h =
        let r = coded_done (take_static true (range_of form field) d s) c h in
        rw (← r.1) (static_done (range_of form field) d s r.0)
    go false h = sym (ap (λ (x : Coded ℕ). x.value) (same_done h))

-- ---- the corners of a face

-- what is read for these indices
corners_below : (form : CornerForm) (d : List ℕ) (is : List Index) (n : ℕ) (s : Coder) (c : Coded (List ℕ)) → AsRead form n is
    → corners_from form (length is) n d s ≡ done c → IndicesBelow is c.value
unfolding corners_from AsRead IndicesBelow
corners_below form d [] n s c a e =
    let v : [] ≡ c.value = ap (λ (x : Coded (List ℕ)). x.value) (same_done e) in
    rw (← v) tt
corners_below form d (i ∷ is) n s c a e =
    let f = value_before (field_from form (n % corner_fields) d s) _ c e in
    let r = value_before (corners_from form (length is) (suc n) d f.0.state) _ c f.2 in
    let v : (f.0.value ∷ r.0.value) ≡ c.value = ap (λ (x : Coded (List ℕ)). x.value) (same_done r.2) in
    let ih = corners_below form d is (suc n) f.0.state r.0 a.1 r.1 in
    rw (← v) (rw a.0 (field_below form (n % corner_fields) d s f.0 f.1), ih)

-- a number for each index
indices_length : (is : List Index) (ws : List ℕ) → IndicesBelow is ws → length ws ≡ length is
unfolding IndicesBelow
indices_length [] [] b = refl
indices_length [] (w ∷ ws) b = absurd b
indices_length (i ∷ is) [] b = absurd b
indices_length (i ∷ is) (w ∷ ws) b = ap suc (indices_length is ws b.1)

-- ---- a face

face_corners : (declaration : Declaration) (counts : List ℕ) (id : ℕ) (d : List ℕ) (s : Coder) (c : Coded (List ℕ))
    → corners_from (form_of declaration counts id) (3 * corner_fields) 0 d s ≡ done c → IndicesBelow (face_indices declaration counts id) c.value
face_corners declaration counts id d s c e =
    corners_below (form_of declaration counts id) d (face_indices declaration counts id) 0 s c (face_read declaration counts id)
    (rw (← face_length declaration counts id) at e)

face_below : (declaration : Declaration) (counts : List ℕ) (hs : Histograms) (d : List ℕ) (s : Coder) (c : Coded (List ℕ))
    → face_from declaration counts hs d s ≡ done c → FaceBelow declaration counts c.value
unfolding face_from shading_from FaceBelow
face_below declaration counts hs d s c e =
    let count = declaration.shading_count in
    let x = value_before (shading_from count hs d s) _ c e in
    let y = value_before (coded_number (call_read d s hs shading_context).result) _ x.0 x.1 in
    let z = passed (leb count y.0.value) out_of_range 0 _ x.0 y.2 in
    let w : y.0 ≡ x.0 = same_done z.1 in
    let id = x.0.value in
    let form = form_of declaration counts id in
    let r = value_before (corners_from form (3 * corner_fields) 0 d x.0.state) _ c x.2 in
    let v : (id ∷ r.0.value) ≡ c.value = ap (λ (x : Coded (List ℕ)). x.value) (same_done r.2) in
    let small : y.0.value < count = leb-false count y.0.value z.0 in
    rw (← v) (rw w at small, face_corners declaration counts id d x.0.state r.0 r.1)

-- a face has all its words
record_length : (declaration : Declaration) (counts words : List ℕ) → FaceBelow declaration counts words → length words ≡ face_words
unfolding FaceBelow
record_length declaration counts [] b = absurd b
record_length declaration counts (id ∷ ws) b = ap suc (indices_length (face_indices declaration counts id) ws b.1 ∙ face_length declaration counts id)

-- ---- faces

-- Of every face that is read, the shading id and each number that is present is below its count, and each other word is 0xFFFFFFFF.
pub faces_below : (declaration : Declaration) (counts : List ℕ) (n : ℕ) (hs : Histograms) (d : List ℕ) (s : Coder) (words : List ℕ)
    → faces_from declaration counts n hs d s ≡ done words → FacesBelow declaration counts n words
unfolding faces_from FacesBelow
faces_below declaration counts zero hs d s words e = sym (same_done e)
faces_below declaration counts (suc left) hs d s words e =
    let hs' = (call_read d s hs shading_context).histograms in
    let f = value_before (face_from declaration counts hs d s) _ words e in
    let r = value_before (faces_from declaration counts left hs' d f.0.state) _ words f.2 in
    let v : f.0.value ++ r.0 ≡ words = same_done r.2 in
    let b = face_below declaration counts hs d s f.0 f.1 in
    let whole = record_length declaration counts f.0.value b in
    let ih = faces_below declaration counts left hs' d f.0.state r.0 r.1 in
    rw (← v) (rw (take_at f.0.value r.0 face_words whole) b, rw (drop_at f.0.value r.0 face_words whole) ih)

-- So many faces have so many words.
pub below_length : (declaration : Declaration) (counts : List ℕ) (n : ℕ) (words : List ℕ) → FacesBelow declaration counts n words
    → length words ≡ face_words * n
unfolding FacesBelow
below_length declaration counts zero words b = rw b (omega arith)
below_length declaration counts (suc left) words b =
    let first = record_length declaration counts (take face_words words) b.0 in
    let rest = below_length declaration counts left (drop face_words words) b.1 in
    omega (arith, first, rest, length-append (take face_words words) (drop face_words words), ap length (take-append-drop face_words words))

-- ---- a mesh

pub placed_done : (place : ℕ) (j : Judged (List ℕ)) (words : List ℕ) → placed_at place j ≡ done words → j ≡ done words
placed_done place (done a) words e = e
placed_done place (refused n p) words e = not_done e

-- a part that was judged
pub part_before : {A B : Type 0} (p : Part) (j : Judged A) (next : A → InPart B) (b : B) → in_part p j next ≡ read b
    → (a : A) × (j ≡ done a) × (next a ≡ read b)
part_before p (done a) next b e = (a, refl, e)
part_before p (refused n k) next b e = let z : ◌≡◌ {A = ℕ} 0 1 = cc in absurd (omega arith)

pub base_faces : (s name : List ℕ) (declaration : Declaration) (lengths : List ℕ) (m : Mesh) → base_of s name declaration lengths ≡ done m
    → FacesBelow m.declaration m.counts (get_or m.counts 0 0) m.faces
unfolding base_of faces_of
base_faces s name declaration lengths m e =
    let head = value_before (head_of s name declaration) _ m e in
    let counts = head.0.value in
    let n = get_or counts 0 0 in
    let room = passed (not (has_room lengths counts)) no_room 0 _ m head.2 in
    let pools = value_before (pools_at (pool_words counts) s head.0.next) _ m room.1 in
    let start = pools.0.next in
    let faces = value_before (placed_at start (faces_of declaration counts n (drop start s))) _ m pools.2 in
    let coded = placed_done start (faces_of declaration counts n (drop start s)) faces.0 faces.1 in
    rw (← same_done faces.2) (faces_below declaration counts n _ (drop start s) _ faces.0 coded)

mesh_faces : (d s lengths : List ℕ) (m : Mesh) → mesh_of d s lengths ≡ read m
    → FacesBelow m.declaration m.counts (get_or m.counts 0 0) m.faces
unfolding mesh_of
mesh_faces d s lengths m e =
    let a = part_before part.TheVariants.Declaration (sized d) _ m e in
    let b = part_before part.TheVariants.Continuation (sized s) _ m a.2 in
    let c = part_before part.TheVariants.Declaration (declaration_of d) _ m b.2 in
    let f = part_before part.TheVariants.Continuation (base_of s (mesh_name d) c.0 lengths) _ m c.2 in
    let same : f.0 ≡ m = cc in
    rw (← same) (base_faces s (mesh_name d) c.0 lengths f.0 f.1)

-- In the table of faces that the caller gets back, the records of the base's faces hold only such numbers.
pub handed_out_below : (d s : List ℕ) (t : Tables) (m : Mesh) → mesh_of d s (lengths_of t) ≡ read m
    → FacesBelow m.declaration m.counts (get_or m.counts 0 0)
    (take (face_words * get_or m.counts 0 0) (tables_after (mesh_of d s (lengths_of t)) t).faces)
unfolding tables_after
handed_out_below d s t m e =
    let b = mesh_faces d s (lengths_of t) m e in
    let size = below_length m.declaration m.counts (get_or m.counts 0 0) m.faces b in
    rw (e, take_at m.faces _ (face_words * get_or m.counts 0 0) size) b
