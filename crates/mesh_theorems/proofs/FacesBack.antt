-- Faces that the coder's writer wrote are read back: the round trip says what each of the reader's calls gives, and the reader of faces makes
-- just these calls, one after the other.
use Prim.Native.Nat.{ℕ, zero, suc, ◌*◌, ◌%◌, ◌≤◌}
use mathlib.Core.Bool.{Bool, true, false}
use mathlib.Core.List.{List, [], ◌∷◌, ◌++◌, append_assoc, map}
use mathlib.Core.Path.{◌≡◌, refl, ap, sym}
use borrow.Author.Tests.{lt-leb}
use lib.ListN.{drop, get_or, length, take, take-append-drop}
use Rattle.fields.specs.Limits.{largest_count, largest_file}
use Rattle.fields.specs.Judged.{Judged, done, pick}
use Rattle.coder.specs.Histogram.{fresh_histogram}
use Rattle.coder.specs.Interval.{fresh}
use Rattle.coder.specs.declared.interval.Coder.{Coder}
use Rattle.coder_theorems.specs.Runs.{AllKeep, Called, Histograms, Number, ReadCall, Step, after_steps, begun, call_read, context_in, end_call, number_in, read_back, read_calls, taken_calls, write_calls}
use Rattle.coder_theorems.proofs.RoundTrip.{round_trip}
use Rattle.mesh.specs.Shading.{shading_limit}
use Rattle.mesh.specs.Corners.{absent, corner_fields, face_words, field_context, form_of, present, range_of, shading_context}
use Rattle.mesh.specs.Faces.{Coded, coded_number, corners_from, face_from, faces_from, faces_of, field_from, shading_from}
use Rattle.mesh.specs.declared.declaration.Declaration.{Declaration}
use Rattle.mesh.specs.declared.faces.CornerForm.{CornerForm}
use Rattle.mesh_theorems.specs.CornerInfo.{Index, face_indices}
use Rattle.mesh_theorems.specs.Below.{FaceBelow, FacesBelow, IndexBelow, IndicesBelow}
use Rattle.mesh_theorems.specs.FaceNumbers.{face_numbers, faces_numbers, index_number, index_numbers}
use Rattle.mesh_theorems.proofs.CornerInfo.{AsRead, face_length, face_read}
use Rattle.mesh_theorems.proofs.FacesTaken.{faces_fine}

-- ---- calls that give these numbers

-- each call is done and gives its number
Gives : List ℕ → Coder → Histograms → List Number → Type 0
Gives d s hs [] = Unit {0}
Gives d s hs (x ∷ xs) =
    let r : ReadCall = call_read d s hs x.context in
    (coded_number r.result ≡ done (record { value = x.value; state = r.result.state })) × Gives d r.result.state r.histograms xs

first_given : (r : ReadCall) (v : ℕ) (t : Coder) (hs : Histograms)
    → r ≡ record { result = record { number = 0; done = true; value = v; state = t }; histograms = hs }
    → coded_number r.result ≡ done (record { value = v; state = r.result.state })
first_given r v t hs e = rw e

calls_give : (d : List ℕ) (took : List Called) (s : Coder) (hs : Histograms)
    → read_calls d s hs (map context_in took) ≡ map read_back took → Gives d s hs (map number_in took)
unfolding read_calls Gives
calls_give d [] s hs e = tt
calls_give d (c ∷ took) s hs e =
    let r = call_read d s hs c.number.context in
    let first : r ≡ read_back c = cc in
    let rest : read_calls d r.result.state r.histograms (map context_in took) ≡ map read_back took = cc in
    (first_given r c.number.value _ _ first, calls_give d took r.result.state r.histograms rest)

-- ---- a field

-- a value, and from the state after it the calls that give what is left
Leads : {A : Type 0} → Judged (Coded A) → A → List ℕ → Histograms → List Number → Type 0
Leads j v d hs rest = (t : Coder) × (j ≡ done (record { value = v; state = t })) × Gives d t hs rest

field_back : (form : CornerForm) (field w : ℕ) (d : List ℕ) (s : Coder) (hs : Histograms) (rest : List Number)
    → IndexBelow (present form field) w (range_of form field)
    → Gives d s hs (pick (present form field) (index_number (range_of form field) w ∷ []) [] ++ rest)
    → Leads (field_from form field d s) w d hs rest
unfolding field_from call_read Gives Leads
field_back form field w d s hs rest b g = go (present form field) b g
  where
    go : (p : Bool) → IndexBelow p w (range_of form field) → Gives d s hs (pick p (index_number (range_of form field) w ∷ []) [] ++ rest)
        → Leads (pick p (coded_number (call_read d s [] (field_context form field)).result) (done (record { value = absent; state = s }))) w d hs rest
    go true b g = (_, g.0, g.1)
    go false b g = (s, rw b refl, g)

-- ---- the corners of a face

corners_back : (form : CornerForm) (d : List ℕ) (is : List Index) (ws : List ℕ) (n : ℕ) (s : Coder) (hs : Histograms) (rest : List Number)
    → AsRead form n is → IndicesBelow is ws → Gives d s hs (index_numbers is ws ++ rest) → Leads (corners_from form (length is) n d s) ws d hs rest
unfolding corners_from AsRead IndicesBelow index_numbers Leads
corners_back form d [] [] n s hs rest a b g = (s, refl, g)
corners_back form d [] (w ∷ ws) n s hs rest a b g = absurd b
corners_back form d (i ∷ is) [] n s hs rest a b g = absurd b
corners_back form d (i ∷ is) (w ∷ ws) n s hs rest a b g =
    let field = n % corner_fields in
    let f = field_back form field w d s hs (index_numbers is ws ++ rest) (rw a.0 at b.0) (rw (append_assoc, a.0) at g) in
    let r = corners_back form d is ws (suc n) f.0 hs rest a.1 b.1 f.2 in
    (r.0, rw (f.1, r.1) refl, r.2)

-- ---- a face

face_back : (declaration : Declaration) (counts words d : List ℕ) (s : Coder) (hs : Histograms) (rest : List Number)
    → FaceBelow declaration counts words → Gives d s hs (face_numbers declaration counts words ++ rest)
    → Leads (face_from declaration counts hs d s) words d (call_read d s hs shading_context).histograms rest
unfolding face_from shading_from FaceBelow face_numbers Gives Leads
face_back declaration counts [] d s hs rest b g = absurd b
face_back declaration counts (shading ∷ corners) d s hs rest b g =
    let r = call_read d s hs shading_context in
    let form = form_of declaration counts shading in
    let is = face_indices declaration counts shading in
    let c = corners_back form d is corners 0 r.result.state r.histograms rest (face_read declaration counts shading) b.1 g.1 in
    let read : corners_from form (3 * corner_fields) 0 d r.result.state ≡ done (record { value = corners; state = c.0 })
    = rw (face_length declaration counts shading) at c.1 in
    (c.0, rw (g.0, lt-leb declaration.shading_count shading b.0, read) refl, c.2)

-- ---- faces

faces_back : (declaration : Declaration) (counts : List ℕ) (n : ℕ) (words d : List ℕ) (s : Coder) (hs : Histograms)
    → FacesBelow declaration counts n words → Gives d s hs (faces_numbers declaration counts n words)
    → faces_from declaration counts n hs d s ≡ done words
unfolding faces_from FacesBelow faces_numbers Leads
faces_back declaration counts zero words d s hs b g = ap done (sym b)
faces_back declaration counts (suc left) words d s hs b g =
    let own = take face_words words in
    let rest = drop face_words words in
    let hs' = (call_read d s hs shading_context).histograms in
    let f = face_back declaration counts own d s hs (faces_numbers declaration counts left rest) b.0 g in
    let r = faces_back declaration counts left rest d f.0 hs' b.1 f.2 in
    rw (f.1, r) (ap done (take-append-drop face_words words))

-- Faces whose numbers the coder's writer took, in whatever buffers, and ended are read back, whatever follows them.
pub faces_read_back : (declaration : Declaration) (counts : List ℕ) (n : ℕ) (words : List ℕ) (steps : List Step) (buffer rest : List ℕ)
    → FacesBelow declaration counts n words → declaration.shading_count ≤ shading_limit → ((i : ℕ) → get_or counts i 0 ≤ largest_count)
    → (let start = begun buffer (fresh_histogram ∷ []) in
    let ended = end_call (after_steps start steps) in
    let d = take ended.used ended.bytes ++ rest in
    AllKeep start steps → map number_in (taken_calls (write_calls start steps)) ≡ faces_numbers declaration counts n words → ended.number ≡ 0
    → length d ≤ largest_file → faces_of declaration counts n d ≡ done words)
unfolding faces_of
faces_read_back declaration counts n words steps buffer rest b few small keep coded e short =
    let hs = fresh_histogram ∷ [] in
    let took = taken_calls (write_calls (begun buffer hs) steps) in
    let back = round_trip steps hs buffer rest (rw coded (faces_fine declaration counts few small n words b).typed) keep e short in
    faces_back declaration counts n words _ fresh hs b (rw coded at (calls_give _ took fresh hs back))
