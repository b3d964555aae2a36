-- Coded faces are refused with 1 or 10 only, and a mesh with one of its numbers: a reader that begins fresh goes from states that it takes to
-- states that it takes, as long as its bits can be counted, and a face has few bits.
use Prim.Native.Nat.{ℕ, zero, suc, ◌+◌, ◌*◌, ◌%◌, ◌^◌, ◌≤◌, ◌<◌}
use mathlib.Core.Bool.{Bool, true, false, not, false≢true}
use mathlib.Core.List.{List, [], ◌∷◌}
use mathlib.Core.Path.{◌≡◌, refl}
use native.Mathlib.Omega.{arith}
use borrow.Author.Tests.{eqb-true, ltb-false}
use lib.Dec.{eqb, leb, ltb}
use lib.ListN.{drop, get_or, length, length-drop}
use Rattle.fields.specs.Limits.{largest_count, largest_file}
use Rattle.fields.specs.Numbers.{no_room, out_of_range, over_limit, truncated}
use Rattle.fields.specs.Member.{member}
use Rattle.fields.specs.Judged.{Judged, done, refused, on_done, pick, refused_if}
use Rattle.fields.proofs.Judging.{passed}
use Rattle.coder.specs.Histogram.{fresh_histogram, histogram_formed, sum}
use Rattle.coder.specs.Interval.{fresh}
use Rattle.coder.specs.Reading.{Taken}
use Rattle.coder.specs.declared.interval.Coder.{Coder}
use Rattle.coder_theorems.specs.Runs.{Histograms, call_read, static}
use Rattle.coder_theorems.specs.Faults.{AllFormed, NoFault, most_bits}
use Rattle.coder_theorems.proofs.Steady.{Sound, Steady, fresh_steady, went}
use Rattle.mesh.specs.Declaration.{declaration_of, mesh_name}
use Rattle.mesh.specs.Corners.{absent, corner_fields, field_context, form_of, present, shading_context}
use Rattle.mesh.specs.Faces.{Coded, coded_number, corners_from, face_from, faces_from, faces_of, field_from, placed_at, shading_from}
use Rattle.mesh.specs.Base.{InPart, base_of, has_room, head_of, in_part, mesh_of, pool_words, pools_at, read, refused_in, sized}
use Rattle.mesh.specs.declared.declaration.Declaration.{Declaration}
use Rattle.mesh.specs.declared.faces.CornerForm.{CornerForm}
use Rattle.mesh.specs.declared.base.Part.{Part}
use Rattle.mesh.specs.declared.base.Part as part
use Rattle.mesh.proofs.Refusals.{Listed, Numbered, after, declaration_numbered, head_numbered, pools_numbered, sized_numbered, unless}
use Rattle.mesh_theorems.specs.Refusals.{mesh_numbers}
use Rattle.mesh_theorems.proofs.SmallCounts.{counts_small}

-- ---- judging that stays steady

-- a value leaves a state that the reader takes, of so many bits; a refusal is 1 or 10
abbrev Goes : {A : Type 0} → List ℕ → ℕ → Judged (Coded A) → Type 0
Goes d most (done c) = Steady d c.state most
Goes d most (refused k p) = NoFault false k

later : {d : List ℕ} {s : Coder} {used : ℕ} (most : ℕ) → Steady d s used → used ≤ most → Steady d s most
later most st h = record { small = st.small; reading = st.reading; inverted = st.inverted; few = omega (arith, st.few) }

goes_on : {A B : Type 0} (d : List ℕ) (used most : ℕ) (j : Judged (Coded A)) (next : Coded A → Judged (Coded B)) → Goes d used j
    → ((c : Coded A) → Steady d c.state used → Goes d most (next c)) → Goes d most (on_done j next)
goes_on d used most (done c) next g f = f c g
goes_on d used most (refused k p) next g f = g

number_goes : (d : List ℕ) (most : ℕ) (t : Taken) → Steady d t.state most → Sound t → Goes d most (coded_number t)
number_goes d most t st sound = go t.done sound
  where
    go : (b : Bool) → NoFault b t.number → Goes d most (pick b (done (record { value = t.value; state = t.state })) (refused t.number 0))
    go true e = st
    go false e = e

-- a refusal is 1 or 10
abbrev SoundIf : {A : Type 0} → Judged A → Type 0
SoundIf (done a) = Unit {0}
SoundIf (refused k p) = NoFault false k

sound_done : {A B : Type 0} (j : Judged A) (v : A → B) → SoundIf j → SoundIf (on_done j λ a. done (v a))
sound_done (done a) v s = tt
sound_done (refused k p) v s = s

pub fresh_formed : AllFormed (fresh_histogram ∷ [])
unfolding AllFormed histogram_formed sum
fresh_formed = (refl, tt)

-- ---- a face

abbrev field_bits : ℕ
field_bits = most_bits (static 0)

abbrev face_bits : ℕ
face_bits = most_bits shading_context + field_bits * (3 * corner_fields)

module _ (d : List ℕ) where
  field_goes : (form : CornerForm) (field : ℕ) (s : Coder) (used : ℕ) → Steady d s used → used < 2 ^ 32
      → Goes d (used + field_bits) (field_from form field d s)
  unfolding field_from
  field_goes form field s used st few = go (present form field)
    where
      go : (b : Bool) → Goes d (used + field_bits)
          (pick b (coded_number (call_read d s [] (field_context form field)).result) (done (record { value = absent; state = s })))
      go true =
          let w = went d s [] (field_context form field) used st (unfold AllFormed in tt) tt few in
          number_goes d (used + field_bits) (call_read d s [] (field_context form field)).result w.steady w.sound
      go false = later (used + field_bits) st (omega arith)

  corners_go : (form : CornerForm) (most left n : ℕ) (s : Coder) (used : ℕ) → Steady d s used → used + field_bits * left ≤ most → most < 2 ^ 32
      → Goes d most (corners_from form left n d s)
  unfolding corners_from
  corners_go form most zero n s used st h few = later most st (omega arith)
  corners_go form most (suc left) n s used st h few =
      goes_on d (used + field_bits) most (field_from form (n % corner_fields) d s) _
      (field_goes form (n % corner_fields) s used st (omega arith)) λ field on.
      goes_on d most most (corners_from form left (suc n) d field.state) _
      (corners_go form most left (suc n) field.state (used + field_bits) on (omega arith) few) λ rest on'. on'

  -- the first of the histograms is cShading's
  module _ (declaration : Declaration) (counts : List ℕ) where
    face_goes : (most : ℕ) (hs : Histograms) (s : Coder) (used : ℕ) → Steady d s used → AllFormed hs → 0 < length hs → used + face_bits ≤ most
        → most < 2 ^ 32 → Goes d most (face_from declaration counts hs d s)
    unfolding face_from shading_from
    face_goes most hs s used st a some h few =
        let w = went d s hs shading_context used st a some (omega arith) in
        let mid = used + most_bits shading_context in
        let count = declaration.shading_count in
        let coded = (call_read d s hs shading_context).result in
        goes_on d mid most (shading_from count hs d s) _
        (goes_on d mid mid (coded_number coded) _ (number_goes d mid coded w.steady w.sound) λ shading on.
        judged mid shading on (leb count shading.value)) λ shading on.
        let form = form_of declaration counts shading.value in
        goes_on d most most (corners_from form (3 * corner_fields) 0 d shading.state) _
        (corners_go form most (3 * corner_fields) 0 shading.state mid on (omega arith) few) λ corners on'. on'
      where
        judged : (mid : ℕ) (shading : Coded ℕ) → Steady d shading.state mid → (b : Bool) → Goes d mid (refused_if b out_of_range 0 (done shading))
        judged mid shading on true = refl
        judged mid shading on false = on

    faces_go : (most n : ℕ) (hs : Histograms) (s : Coder) (used : ℕ) → Steady d s used → AllFormed hs → 0 < length hs → used + face_bits * n ≤ most
        → most < 2 ^ 32 → SoundIf (faces_from declaration counts n hs d s)
    unfolding faces_from
    faces_go most zero hs s used st a some h few = tt
    faces_go most (suc left) hs s used st a some h few =
        let w = went d s hs shading_context used st a some (omega arith) in
        let next = (call_read d s hs shading_context).histograms in
        sound_on (face_from declaration counts hs d s) _ (face_goes (used + face_bits) hs s used st a some (omega arith) (omega arith)) λ face on.
        sound_done (faces_from declaration counts left next d face.state) _
        (faces_go most left next face.state (used + face_bits) on w.formed (rw w.same some) (omega arith) few)
      where
        sound_on : (j : Judged (Coded (List ℕ))) (next : Coded (List ℕ) → Judged (List ℕ)) → Goes d (used + face_bits) j
            → ((c : Coded (List ℕ)) → Steady d c.state (used + face_bits) → SoundIf (next c)) → SoundIf (on_done j next)
        sound_on (done c) next g f = f c g
        sound_on (refused k p) next g f = g

-- Whatever the bytes are, up to 16 MiB, coded faces, up to 65,536, are refused with 1 or 10 only, never with 9 or 18.
pub faces_sound : (declaration : Declaration) (counts : List ℕ) (n : ℕ) (d : List ℕ) → n ≤ largest_count → length d ≤ largest_file
    → (k p : ℕ) → faces_of declaration counts n d ≡ refused k p → member k (truncated ∷ out_of_range ∷ []) ≡ true
unfolding faces_of
faces_sound declaration counts n d few small k p e =
    let hs = fresh_histogram ∷ [] in
    let s = faces_go d declaration counts (face_bits * n) n hs fresh 0 (fresh_steady d small) fresh_formed (omega arith) (omega arith) (omega arith) in
    rw e at s

-- ---- a mesh

-- 1 and 10 are numbers of a mesh
face_listed : (k : ℕ) → member k (truncated ∷ out_of_range ∷ []) ≡ true → Listed k
face_listed k e = go (eqb k truncated) (eqb k out_of_range) refl refl e
  where
    go : (a b : Bool) → eqb k truncated ≡ a → eqb k out_of_range ≡ b → pick a true (pick b true false) ≡ true → Listed k
    go true b f g e = let one : k ≡ truncated = eqb-true _ _ f in rw one
    go false true f g e = let ten : k ≡ out_of_range = eqb-true _ _ g in rw ten
    go false false f g e = absurd (false≢true e)

placed_numbered : (place : ℕ) (j : Judged (List ℕ)) → ((k p : ℕ) → j ≡ refused k p → Listed k) → Numbered (placed_at place j)
placed_numbered place (done a) f = tt
placed_numbered place (refused k p) f = f k p refl

base_numbered : (s name : List ℕ) (declaration : Declaration) (lengths : List ℕ) → length s ≤ largest_file
    → Numbered (base_of s name declaration lengths)
unfolding base_of
base_numbered s name declaration lengths small =
    after (head_of s name declaration) _ (head_numbered s name declaration) λ head e.
    let counts = head.value in
    let n = get_or counts 0 0 in
    unless (not (has_room lengths counts)) no_room 0 _ refl
    (after (pools_at (pool_words counts) s head.next) _ (pools_numbered (pool_words counts) s head.next) λ pools f.
    let rest = drop pools.next s in
    let within : length rest ≤ largest_file = simp length-drop (omega arith) in
    after (placed_at pools.next (faces_of declaration counts n rest)) _
    (placed_numbered pools.next (faces_of declaration counts n rest) λ k p g.
    face_listed k (faces_sound declaration counts n rest (counts_small s name declaration head e 0) within k p g)) λ faces g. tt)

-- the same of an answer with its part
abbrev PartNumbered : {A : Type 0} → InPart A → Type 0
PartNumbered (read a) = Unit {0}
PartNumbered (refused_in q k p) = Listed k

part_numbered : {A B : Type 0} (q : Part) (j : Judged A) (next : A → InPart B) → Numbered j → ((a : A) → j ≡ done a → PartNumbered (next a))
    → PartNumbered (in_part q j next)
part_numbered q (done a) next g f = f a refl
part_numbered q (refused k p) next g f = g

sized_small : (s : List ℕ) (u : Unit {0}) → sized s ≡ done u → length s ≤ largest_file
sized_small s u e = ltb-false largest_file (length s) (passed (ltb largest_file (length s)) over_limit 0 _ u e).0

whole_numbered : (d s lengths : List ℕ) → PartNumbered (mesh_of d s lengths)
unfolding mesh_of
whole_numbered d s lengths =
    part_numbered part.TheVariants.Declaration (sized d) _ (sized_numbered d) λ u e.
    part_numbered part.TheVariants.Continuation (sized s) _ (sized_numbered s) λ v f.
    part_numbered part.TheVariants.Declaration (declaration_of d) _ (declaration_numbered d) λ declaration g.
    part_numbered part.TheVariants.Continuation (base_of s (mesh_name d) declaration lengths) _
    (base_numbered s (mesh_name d) declaration lengths (sized_small s v f)) λ m h. tt

-- Whatever is lent, a mesh that is refused has one of 01's numbers 1, 8, 9, 10, 11, 12 and 17: never 0, and never 18.
pub mesh_sound : (d s lengths : List ℕ) (q : Part) (n p : ℕ) → mesh_of d s lengths ≡ refused_in q n p → member n mesh_numbers ≡ true
mesh_sound d s lengths q n p e = rw e at (whole_numbered d s lengths)
