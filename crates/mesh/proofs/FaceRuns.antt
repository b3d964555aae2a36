-- Faces one after the other: a shading id, its corners, and the words as they are stored.
use Rattle.std.specs.Prelude.{Result, Ok, Err}
use Prim.Native.Nat.{ℕ, zero, suc, ◌+◌, ◌-◌, ◌*◌, ◌%◌, ◌≤◌, ◌<◌}
use mathlib.Core.Path.{◌≡◌, ◌∙◌, ap, subst, sym}
use mathlib.Core.List.{List, [], ◌∷◌, ◌++◌}
use native.Mathlib.Nat.{not-suc-le-zero}
use native.Mathlib.Numerals.{add-one}
use native.Mathlib.Omega.{arith}
use borrow.Author.Tests.{leb-false}
use lib.Dec.{leb}
use lib.ListN.{length, length-append, set}
use lib.Seq.{sets}
use Rattle.fields.specs.Judged.{Judged, done, refused}
use Rattle.fields.specs.Numbers.{out_of_range}
use Rattle.fields.proofs.Stores.{sets_append}
use Rattle.fields.proofs.Judging.{not_done, passed, refusal_before, same_done, value_before}
use Rattle.coder.specs.Bytes.{bit_at}
use Rattle.coder.specs.Histogram.{Histogram, fresh_histogram, sum}
use Rattle.coder.specs.Interval.{Inverted, fresh}
use Rattle.coder.specs.Reading.{taken_histogram}
use Rattle.coder.specs.declared.interval.Coder.{Coder}
use Rattle.coder_theorems.specs.Runs.{Histograms, call_read}
use Rattle.mesh.specs.Corners.{corner_fields, face_words, form_of, shading_context}
use Rattle.mesh.specs.Faces.{Coded, coded_number, corners_from, face_from, faces_from, faces_of, field_from, shading_from}
use Rattle.mesh.specs.Inside.{faces_given, stored_faces, stored_words}
use Rattle.mesh.specs.declared.declaration.Declaration.{Declaration}
use Rattle.mesh.specs.declared.faces.CornerForm.{CornerForm}
use Rattle.fields.specs.declared.refusal.Fault.{Fault}
use Rattle.mesh.proofs.Chains.{on_mapped}

-- ---- corners

-- as many words as fields
pub corners_length : (form : CornerForm) (left n : ℕ) (d : List ℕ) (s : Coder) (r : Coded (List ℕ)) → corners_from form left n d s ≡ done r
    → length r.value ≡ left
unfolding corners_from
corners_length form zero n d s r e = ap (λ (c : Coded (List ℕ)). length c.value) (sym (same_done e))
corners_length form (suc left) n d s r e =
    let f = value_before (field_from form (n % corner_fields) d s) _ r e in
    let g = value_before (corners_from form left (suc n) d f.0.state) _ r f.2 in
    let same : r ≡ record { value = f.0.value ∷ g.0.value; state = g.0.state } = cc in
    ap (λ (c : Coded (List ℕ)). length c.value) same ∙ ap suc (corners_length form left (suc n) d f.0.state g.0 g.1)

-- what a caller learns of corners that were read, or refused
module _ (table : List ℕ) (at : ℕ) (j : Judged (Coded (List ℕ))) where
  pub corners_told : (c : Coded (List ℕ)) → done c ≡ stored_words table at j
      → (w : List ℕ) × (j ≡ done (record { value = w; state = c.state })) × (c.value ≡ sets table at w)
  corners_told c e =
      let g = value_before j _ c (sym e) in
      let same : ◌≡◌ {A = Coded (List ℕ)} (record { value = sets table at g.0.value; state = g.0.state }) c = cc in
      let state : g.0.state ≡ c.state = ap (λ (x : Coded (List ℕ)). x.state) same in
      (g.0.value, g.1 ∙ ap (λ (x : Coder). done (record { value = g.0.value; state = x })) state, sym (ap (λ (x : Coded (List ℕ)). x.value) same))

  pub corners_failed : (n p : ℕ) → refused n p ≡ stored_words table at j → j ≡ refused n p
  corners_failed n p e = refusal_before j _ n p (sym e)

-- ---- shadings

-- an id that was read is below the shading count
pub shading_below : (count : ℕ) (hs : Histograms) (d : List ℕ) (s : Coder) (r : Coded ℕ) → shading_from count hs d s ≡ done r → r.value < count
unfolding shading_from
shading_below count hs d s r e =
    let f = value_before (coded_number (call_read d s hs shading_context).result) _ r e in
    let g = passed (leb count f.0.value) out_of_range 0 _ r f.2 in
    let same : f.0 ≡ r = cc in
    let v : f.0.value ≡ r.value = ap (λ (x : Coded ℕ). x.value) same in
    omega (arith, leb-false count f.0.value g.0)

-- ---- the loop

module _ (declaration : Declaration) (counts : List ℕ) (count i : ℕ) (hs : Histograms) (d : List ℕ) (s : Coder) (table : List ℕ) (h : i < count) where
  abbrev left : List ℕ → ℕ → ℕ → Histograms → Coder → Judged (List ℕ)
  left t at n hists state = stored_faces t at (faces_from declaration counts n hists d state)

  pub shading_stops : (n p : ℕ) → shading_from declaration.shading_count hs d s ≡ refused n p → left table (face_words * i) (count - i) hs s ≡ refused n p
  unfolding faces_from face_from
  shading_stops n p e =
      let k : count - i ≡ suc (count - (i + 1)) = omega arith in
      rw (k, faces_from, e)

  module _ (id : ℕ) (t : Coder) (e : shading_from declaration.shading_count hs d s ≡ done (record { value = id; state = t })) where
    pub corners_stop : (n p : ℕ) → corners_from (form_of declaration counts id) (3 * corner_fields) 0 d t ≡ refused n p
        → left table (face_words * i) (count - i) hs s ≡ refused n p
    unfolding faces_from face_from
    corners_stop n p f =
        let k : count - i ≡ suc (count - (i + 1)) = omega arith in
        rw (k, faces_from, e, f)

    face_more : (words : List ℕ) (u : Coder) → corners_from (form_of declaration counts id) (3 * corner_fields) 0 d t ≡ done (record { value = words; state = u })
        → left table (face_words * i) (count - i) hs s
        ≡ left (sets (set table (face_words * i) id) (face_words * i + 1) words) (face_words * (i + 1)) (count - (i + 1)) (call_read d s hs shading_context).histograms u
    unfolding faces_from face_from
    face_more words u f =
        let k : count - i ≡ suc (count - (i + 1)) = omega arith in
        let many : length words ≡ 3 * corner_fields = corners_length (form_of declaration counts id) (3 * corner_fields) 0 d t _ f in
        let p : face_words * (i + 1) ≡ face_words * i + suc (length words) = omega arith in
        rw (k, faces_from, e, f, p, add-one i, add-one (face_words * i)) (on_mapped (faces_from declaration counts (count - suc i) _ d u) _ _ ∙ simp sets_append)

-- the same with what the caller's table and the histogram then hold
pub face_turn : (declaration : Declaration) (counts : List ℕ) (count i : ℕ) (h : Histogram) (d : List ℕ) (s : Coder) (table : List ℕ) → i < count
    → (id : ℕ) (t : Coder) → shading_from declaration.shading_count (h ∷ []) d s ≡ done (record { value = id; state = t })
    → (words : List ℕ) (u : Coder) → corners_from (form_of declaration counts id) (3 * corner_fields) 0 d t ≡ done (record { value = words; state = u })
    → (put out : List ℕ) (later : Histogram) → put ≡ set table (face_words * i) id → out ≡ sets put (face_words * i + 1) words → later ≡ taken_histogram h d s
    → stored_faces table (face_words * i) (faces_from declaration counts (count - i) (h ∷ []) d s)
    ≡ stored_faces out (face_words * (i + 1)) (faces_from declaration counts (count - (i + 1)) (later ∷ []) d u)
unfolding call_read
face_turn declaration counts count i h d s table less id t e words u f put out later p q r =
    face_more declaration counts count i (h ∷ []) d s table less id t e words u f ∙ rw (q, p, r)

pub faces_none : (declaration : Declaration) (counts : List ℕ) (count i : ℕ) (hs : Histograms) (d : List ℕ) (s : Coder) (table : List ℕ) (at : ℕ)
    → count ≤ i → stored_faces table at (faces_from declaration counts (count - i) hs d s) ≡ done table
unfolding faces_from
faces_none declaration counts count i hs d s table at h =
    let k : count - i ≡ 0 = omega arith in
    rw (k, faces_from)

-- ---- the start

pub fresh_inverted : (d : List ℕ) (s : Coder) → s ≡ fresh → Inverted s (bit_at d)
fresh_inverted d s e = subst (λ (x : Coder). Inverted x (bit_at d)) (sym e) (λ i h. absurd (not-suc-le-zero h))

pub fresh_total : (h : Histogram) → h ≡ fresh_histogram → 1 ≡ sum h
unfolding sum
fresh_total h e = rw e

pub faces_start : (declaration : Declaration) (counts : List ℕ) (count : ℕ) (h : Histogram) (d : List ℕ) (s : Coder) (table : List ℕ)
    → h ≡ fresh_histogram → s ≡ fresh
    → stored_faces table 0 (faces_of declaration counts count d) ≡ stored_faces table 0 (faces_from declaration counts (count - 0) (h ∷ []) d s)
unfolding faces_of
faces_start declaration counts count h d s table e f =
    let z : count - 0 ≡ count = omega arith in
    rw (z, e, f)

-- ---- what a caller learns

-- as many words as the faces take
faces_long : (declaration : Declaration) (counts : List ℕ) (n : ℕ) (hs : Histograms) (d : List ℕ) (s : Coder) (words : List ℕ)
    → faces_from declaration counts n hs d s ≡ done words → length words ≡ face_words * n
unfolding faces_from face_from
faces_long declaration counts zero hs d s words e = let same : words ≡ [] = cc in ap length same
faces_long declaration counts (suc n) hs d s words e =
    let f = value_before (face_from declaration counts hs d s) _ words e in
    let g = value_before (faces_from declaration counts n (call_read d s hs shading_context).histograms d f.0.state) _ words f.2 in
    let same : words ≡ f.0.value ++ g.0 = cc in
    let i = value_before (shading_from declaration.shading_count hs d s) _ f.0 f.1 in
    let c = value_before (corners_from (form_of declaration counts i.0.value) (3 * corner_fields) 0 d i.0.state) _ f.0 i.2 in
    let face : f.0 ≡ record { value = i.0.value ∷ c.0.value; state = c.0.state } = cc in
    let one : length f.0.value ≡ face_words
    = ap (λ (x : Coded (List ℕ)). length x.value) face ∙ ap suc (corners_length _ (3 * corner_fields) 0 d i.0.state c.0 c.1) in
    omega (arith, simp length-append at (ap length same), faces_long declaration counts n _ d f.0.state g.0 g.1)

pub faces_length : (declaration : Declaration) (counts : List ℕ) (n : ℕ) (d words : List ℕ) → faces_of declaration counts n d ≡ done words
    → length words ≡ face_words * n
unfolding faces_of
faces_length declaration counts n d words e = faces_long declaration counts n _ d _ words e

module _ (table : List ℕ) (j : Judged (List ℕ)) where
  pub faces_failed : (n p : ℕ) → refused n p ≡ stored_faces table 0 j → j ≡ refused n p
  faces_failed n p e = refusal_before j _ n p (sym e)

  pub faces_told : (after : List ℕ) → done after ≡ stored_faces table 0 j → (words : List ℕ) × (j ≡ done words)
  faces_told after e = let g = value_before j _ after (sym e) in (g.0, g.1)

-- faces that can be read stand in the table
pub faces_stored : (r : Result (Unit {0}) Fault) (after table words : List ℕ) (j : Judged (List ℕ)) → faces_given r after ≡ stored_faces table 0 j
    → j ≡ done words → after ≡ sets table 0 words
faces_stored r after table words j e f = go r (e ∙ ap (stored_faces table 0) f)
  where
    go : (x : Result (Unit {0}) Fault) → faces_given x after ≡ done (sets table 0 words) → after ≡ sets table 0 words
    go (Ok none) g = cc
    go (Err fault) g = not_done g
