-- Laws of what a step shows and writes, over plain values: what the functions that compare and store cite. Each unfolds one definition.
use Rattle.std.proofs.Common.{◌≡◌, ℕ, zero, suc, ◌+◌, ◌-◌, ◌*◌, ◌/◌, ◌%◌, ◌<◌, ◌≤◌, ◌&&◌, eqb, List, get_or, set, sym, refl, ◌∙◌, arith, ne_eqb}
use native.Mathlib.Numerals.{unary_clauses}
use Rattle.fields.specs.All.{all}
use Rattle.mesh.specs.Corners.{absent, corner_fields, face_words}
use Rattle.progressive.specs.Indexed.{always, from, shows, writes}
use Rattle.progressive.specs.StepTable.{move_count, new_face_at, new_face_count, new_face_words, split_of}
use Rattle.progressive.specs.Rules.{corner_index}
use Rattle.progressive.specs.Laying.{laid_faces, new_face_field, new_face_number, undone_faces}
use Rattle.progressive.specs.Inside.{FacesStep, corner_field, corner_shown, record_shown, with_record}
use Rattle.progressive.proofs.Indexed.{Written, length_writes, shows_on, shows_parts, values_with, writes_on, writes_with}
use Rattle.progressive.proofs.Corners.{corner_below}
use Rattle.progressive.proofs.Formed.{face_place}

-- a field of a new record that is none of the four given ones
field_absent : (t : List ℕ) (at q : ℕ) → (q ≡ 0 → ⊥) → (q ≡ 1 → ⊥) → (q ≡ 1 + corner_fields → ⊥) → (q ≡ 1 + 2 * corner_fields → ⊥) → absent ≡ new_face_field t at q
unfolding new_face_field
field_absent t at q a b c d = rw (ne_eqb q 0 a, ne_eqb q 1 b, ne_eqb q (1 + corner_fields) c, ne_eqb q (1 + 2 * corner_fields) d)

-- number q of the record of new face j
number_of_face : (t : List ℕ) (o j q : ℕ) → q < face_words → new_face_field t (new_face_at t o j) q ≡ new_face_number t o (face_words * j + q)
unfolding new_face_number
number_of_face t o j q h =
    let face : (face_words * j + q) / face_words ≡ j = omega arith in
    let field : (face_words * j + q) % face_words ≡ q = omega arith in
    rw (face, field)

-- ---- a record, as the code writes it: absent throughout, then the given fields from the last to the first

abbrev stored_fields : List ℕ → ℕ → List ℕ → ℕ → List ℕ
stored_fields t at l i =
    let third : List ℕ = set l (i + (1 + 2 * corner_fields)) (get_or t (at + 3) 0) in
    let second : List ℕ = set third (i + (1 + corner_fields)) (get_or t (at + 2) 0) in
    set (set second (i + 1) (get_or t (at + 1) 0)) i (get_or t at 0)

fields_given : (t : List ℕ) (at i n : ℕ) (faces : List ℕ) → 1 + 2 * corner_fields < n
    → stored_fields t at (writes (from i) (always absent) faces n) i ≡ writes (from i) (new_face_field t at) faces n
unfolding new_face_field
fields_given t at i n faces h =
    let third : ℕ → ℕ = values_with (always absent) (1 + 2 * corner_fields) (get_or t (at + 3) 0) in
    let second : ℕ → ℕ = values_with third (1 + corner_fields) (get_or t (at + 2) 0) in
    let first : ℕ → ℕ = values_with second 1 (get_or t (at + 1) 0) in
    let start : i + 0 ≡ i = omega arith in
    rw (
      ← writes_with i (always absent) (1 + 2 * corner_fields) (get_or t (at + 3) 0) faces n (omega arith),
      ← writes_with i third (1 + corner_fields) (get_or t (at + 2) 0) faces n (omega arith),
      ← writes_with i second 1 (get_or t (at + 1) 0) faces n (omega arith),
    )
    (rw start at (sym (writes_with i first 0 (get_or t at 0) faces n (omega arith))))

pub record_written : (t : List ℕ) (at : ℕ) (faces : List ℕ) (i : ℕ) {filled : List ℕ} → filled ≡ writes (from i) (always absent) faces face_words
    → stored_fields t at filled i ≡ with_record t at faces i
unfolding with_record
record_written t at faces i e = rw e (fields_given t at i face_words faces (omega arith))

-- the records of the new faces before face j, then its own
pub records_written : (t : List ℕ) (o at j : ℕ) {l cur after : List ℕ} {first : ℕ} → Written (from at) (new_face_number t o) l cur (face_words * j) → first ≡ new_face_at t o 0
    → after ≡ with_record t (first + new_face_words * j) cur (at + face_words * j) → Written (from at) (new_face_number t o) l after (face_words * (j + 1))
unfolding with_record
records_written t o at j {l} {cur} {after} w em e =
    let start = at + face_words * j in
    let fields = new_face_field t (new_face_at t o j) in
    let more : face_words * j + face_words ≡ face_words * (j + 1) = omega arith in
    let now-is : after ≡ writes (from start) fields cur face_words = rw (← face_place t o j em) e in
    record {
      is = now-is ∙ rw (w.is, writes_on at (new_face_number t o) fields l (face_words * j) face_words (number_of_face t o j), more);
      long = rw (now-is, length_writes (from start) fields cur face_words) w.long;
    }

-- ---- a record, as the code compares it: the shading, then a corner after the other, each its position and absent fields

pub corner_parts : (faces : List ℕ) (i p : ℕ) → corner_shown faces i p ≡ (eqb (get_or faces i 0) p && shows (from (i + 1)) (always absent) faces (corner_fields - 1))
unfolding corner_shown
corner_parts faces i p =
    let start : i + 0 ≡ i = omega arith in
    shows_on i (corner_field p) (always absent) faces 1 (corner_fields - 1) (λ q h. rw (ne_eqb (1 + q) 0 (λ e. omega arith))) ∙ rw start

-- field q of corner k, from the record's start on
corner_value : (t : List ℕ) (at k base q : ℕ) → k ≤ 2 → base ≡ 1 + corner_fields * k → q < corner_fields
    → corner_field (new_face_field t at base) q ≡ new_face_field t at (base + q)
corner_value t at k base zero h is b = simp unary_clauses
corner_value t at k base (suc q) h is b =
    rw (ne_eqb (suc q) 0 (λ e. omega arith)) (field_absent t at (base + suc q) (λ e. omega arith) (λ e. omega arith) (λ e. omega arith) (λ e. omega arith))

pub record_parts : (t : List ℕ) (at : ℕ) (faces : List ℕ) (i : ℕ)
    → record_shown t at faces i
    ≡ (eqb (get_or faces i 0) (get_or t at 0) && (corner_shown faces (i + 1) (get_or t (at + 1) 0)
    && (corner_shown faces (i + (1 + corner_fields)) (get_or t (at + 2) 0) && corner_shown faces (i + (1 + 2 * corner_fields)) (get_or t (at + 3) 0))))
unfolding record_shown corner_shown new_face_field
record_parts t at faces i =
    shows_parts i (new_face_field t at) (corner_field (get_or t (at + 1) 0)) (corner_field (get_or t (at + 2) 0)) (corner_field (get_or t (at + 3) 0)) faces corner_fields
    (λ q h. corner_value t at 0 1 q (omega arith) refl h)
    (λ q h. corner_value t at 1 (1 + corner_fields) q (omega arith) refl h)
    (λ q h. corner_value t at 2 (1 + 2 * corner_fields) q (omega arith) refl h)

-- the records of the first n new faces, one after the other
pub records_shown : (t : List ℕ) (o at : ℕ) (faces : List ℕ) (n : ℕ) {first : ℕ} → first ≡ new_face_at t o 0
    → all (λ j. record_shown t (first + new_face_words * j) faces (at + face_words * j)) n ≡ shows (from at) (new_face_number t o) faces (face_words * n)
unfolding record_shown
records_shown t o at faces zero e = refl
records_shown t o at faces (suc n) e =
    let more : face_words * n + face_words ≡ face_words * suc n = omega arith in
    rw (records_shown t o at faces n e, face_place t o n e, ← more)
    (sym (shows_on at (new_face_number t o) (new_face_field t (new_face_at t o n)) faces (face_words * n) face_words (number_of_face t o n)))

-- ---- the writes to the faces table, as the code makes them

pub laid_faces_lem : (t : List ℕ) (o : ℕ) (faces : List ℕ) (f r : ℕ) {moved after : List ℕ} {m n : ℕ} → m ≡ move_count t o → n ≡ new_face_count t o
    → moved ≡ writes (corner_index t o) (always r) faces m → after ≡ writes (from (face_words * f)) (new_face_number t o) moved (face_words * n) → after ≡ laid_faces t o faces f r
unfolding laid_faces
laid_faces_lem t o faces f r em en a b = rw (← em, ← en, ← a) b

pub undone_faces_lem : (t : List ℕ) (o : ℕ) (faces : List ℕ) (f : ℕ) {cleared after : List ℕ} {s m n : ℕ} → s ≡ split_of t o → m ≡ move_count t o → n ≡ new_face_count t o
    → cleared ≡ writes (from (face_words * f)) (always 0) faces (face_words * n) → after ≡ writes (corner_index t o) (always s) cleared m → after ≡ undone_faces t o faces f
unfolding undone_faces
undone_faces_lem t o faces f es em en a b = rw (← es, ← em, ← en, ← a) b

pub corners_inside : {t : List ℕ} {o room f r m : ℕ} → FacesStep t o room f r → m ≡ move_count t o → (i : ℕ) → i < m → corner_index t o i < room
corners_inside {t} {o} {room} {f} s em i h = omega (arith, s.room, corner_below t o f s.formed s.moves i (rw em at h))
