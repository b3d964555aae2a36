-- Pools and faces of a continuation. A run of fields that are not judged is cut only by the end of the bytes.
use Rattle.std.specs.Prelude.{Result, Ok, Err, ltb}
use Prim.Native.Nat.{ℕ, zero, suc, ◌+◌, ◌-◌, ◌*◌, ◌/◌, ◌≤◌, ◌<◌}
use mathlib.Core.Path.{◌≡◌, ◌∙◌, ap, refl, sym}
use mathlib.Core.Bool.{true, false, not}
use mathlib.Core.Logic.{⊎_elim}
use mathlib.Core.List.{List, [], ◌∷◌, ◌++◌}
use native.Mathlib.Decide.{dec_lt}
use native.Mathlib.Nat.{eq-or-lt_of_le}
use native.Mathlib.Omega.{arith}
use borrow.Author.Tests.{le-ltb, lt-ltb, ltb-false}
use mir.Syntax.{w8}
use mir.Val.{Fits}
use lib.ListN.{drop, get_or, length, length-replicate, replicate, take}
use lib.Seq.{sets}
use Rattle.fields.specs.Field.{field_at, little_endian}
use Rattle.fields.specs.Judged.{done, refused, on_done}
use Rattle.fields.specs.Limits.{any_number, largest_file}
use Rattle.fields.specs.Name.{name_at, name_part, same}
use Rattle.fields.specs.Numbers.{bad_name, no_room, over_limit, truncated}
use Rattle.fields.specs.declared.refusal.Refusal.{Refusal}
use Rattle.fields.specs.declared.refusal.Fault.{Fault}
use Rattle.fields.proofs.Judging.{name_within, passed, value_before}
use Rattle.mesh.specs.Run.{ruled_at, run_at, unjudged, values_of}
use Rattle.mesh.specs.Base.{InPart, Mesh, Tables, answered, base_of, base_rules, has_room, head_of, lengths_of, mesh_of, sized, pool_words, pools_at, read, refused_in, table_of, tables_after, words_in}
use Rattle.mesh.specs.Declaration.{declaration_of, mesh_name}
use Rattle.mesh.specs.Faces.{faces_of}
use Rattle.mesh.specs.Inside.{ContentsFit, FacesFit, JudgedFits, base_faces, contents_at, counts_from, ended_given, faces_given, faces_in, faces_start, mesh_from, placed, pool_at, pool_numbers, rules_from, stored_faces, stored_run, words_before, words_or}
use Rattle.mesh.specs.declared.declaration.Declaration.{Declaration}
use Rattle.mesh.specs.declared.run.Ended.{Ended}
use Rattle.mesh.specs.declared.base.Part.{Part}
use Rattle.mesh.specs.declared.base.Part as part
use Rattle.mesh.specs.declared.base.MeshRefusal.{MeshRefusal}
use Rattle.mesh.proofs.Chains.{ended_value, sets_full, stored_cleared, to_end}
use Rattle.mesh.proofs.FaceRuns.{faces_length, faces_stored}
use Rattle.mesh.proofs.Heads.{rules_length}
use Rattle.mesh.proofs.Rooms.{room_at}
use Rattle.mesh.proofs.Runs.{run_length, run_within, unjudged_rules}

-- a list of bytes
abbrev pub Bytes : List ℕ → Type 0
Bytes s = (i : ℕ) → Fits w8 (get_or s i 0)

-- a number of four bytes
word_small : (s : List ℕ) (at : ℕ) → Bytes s → little_endian 4 s at ≤ any_number
unfolding little_endian
word_small s at b = omega (arith, b at, b (suc at), b (suc (suc at)), b (suc (suc (suc at))))

-- ---- fields that are not judged

module _ (s : List ℕ) (b : Bytes s) where
  free_field : (at : ℕ) → at + 4 ≤ length s → ruled_at unjudged s at ≡ done (little_endian 4 s at)
  unfolding ruled_at field_at
  free_field at h = rw (le-ltb _ _ h, le-ltb _ _ (word_small s at b), le-ltb (little_endian 4 s at) 0 (omega arith))

  free_cut : (at : ℕ) → length s < at + 4 → ruled_at unjudged s at ≡ refused truncated at
  unfolding ruled_at field_at
  free_cut at h = rw (lt-ltb _ _ h)

  -- a run within the bytes
  pub run_whole : (n at : ℕ) → at + 4 * n ≤ length s → run_at (replicate n unjudged) s at ≡ done (words_or (run_at (replicate n unjudged) s at))
  unfolding run_at
  run_whole zero at h = refl
  run_whole (suc n) at h = rw (free_field at (omega arith), run_whole n (at + 4) (omega arith))

  -- a run that passes their end
  pub run_cut : (n at : ℕ) → at ≤ length s → length s < at + 4 * n → run_at (replicate n unjudged) s at ≡ refused truncated (at + (length s - at) / 4 * 4)
  unfolding run_at
  run_cut zero at h l = absurd (omega arith)
  run_cut (suc n) at h l = go (dec_lt (length s) (at + 4)) (run_cut n (at + 4))
    where
      go : Dec (length s < at + 4)
          → (at + 4 ≤ length s → length s < at + 4 + 4 * n → run_at (replicate n unjudged) s (at + 4) ≡ refused truncated (at + 4 + (length s - (at + 4)) / 4 * 4))
          → on_done (ruled_at unjudged s at) (λ v. on_done (run_at (replicate n unjudged) s (at + 4)) (λ vs. done (v ∷ vs)))
          ≡ refused truncated (at + (length s - at) / 4 * 4)
      go (yes c) ih = let z : at + (length s - at) / 4 * 4 ≡ at = omega arith in rw (free_cut at c, z)
      go (no c) ih =
          let z : at + 4 + (length s - (at + 4)) / 4 * 4 ≡ at + (length s - at) / 4 * 4 = omega arith in
          rw (free_field at (omega arith), ih (omega arith) (omega arith), z)

-- ---- pools one after the other

total : List ℕ → ℕ
total [] = 0
total (w ∷ ws) = w + total ws

pool_lists : List ℕ → List ℕ → ℕ → List (List ℕ)
pool_lists [] s at = []
pool_lists (w ∷ ws) s at = words_or (run_at (replicate w unjudged) s at) ∷ pool_lists ws s (at + 4 * w)

module _ (s : List ℕ) (b : Bytes s) where
  pools_whole : (ws : List ℕ) (at : ℕ) → at + 4 * total ws ≤ length s
      → pools_at ws s at ≡ done (record { value = pool_lists ws s at; next = at + 4 * total ws })
  unfolding pools_at total pool_lists
  pools_whole [] at h = let z : at + 0 ≡ at = omega arith in rw z
  pools_whole (w ∷ ws) at h =
      let z : at + 4 * (w + total ws) ≡ at + 4 * w + 4 * total ws = omega arith in
      rw (run_whole s b w at (omega arith), pools_whole ws (at + 4 * w) (omega arith), z)

  pools_cut : (ws : List ℕ) (at : ℕ) → at ≤ length s → length s < at + 4 * total ws → pools_at ws s at ≡ refused truncated (at + (length s - at) / 4 * 4)
  unfolding pools_at total
  pools_cut [] at h l = absurd (omega arith)
  pools_cut (w ∷ ws) at h l = go (dec_lt (length s) (at + 4 * w)) (pools_cut ws (at + 4 * w))
    where
      go : Dec (length s < at + 4 * w)
          → (at + 4 * w ≤ length s → length s < at + 4 * w + 4 * total ws
          → pools_at ws s (at + 4 * w) ≡ refused truncated (at + 4 * w + (length s - (at + 4 * w)) / 4 * 4))
          → pools_at (w ∷ ws) s at ≡ refused truncated (at + (length s - at) / 4 * 4)
      go (yes c) ih = rw (run_cut s b w at h c)
      go (no c) ih =
          let z : at + 4 * w + (length s - (at + 4 * w)) / 4 * 4 ≡ at + (length s - at) / 4 * 4 = omega arith in
          rw (run_whole s b w at (omega arith), ih (omega arith) (omega arith), z)

-- the pools of a base mesh
total_words : (counts : List ℕ) → total (pool_words counts) ≡ words_before counts 5
unfolding total words_before
total_words counts = omega arith

module _ (s : List ℕ) (counts : List ℕ) (at : ℕ) where
  abbrev numbers : List (List ℕ)
  numbers = pool_numbers s at counts 0 ∷ pool_numbers s at counts 1 ∷ pool_numbers s at counts 2 ∷ pool_numbers s at counts 3 ∷ pool_numbers s at counts 4 ∷ []

  same_lists : pool_lists (pool_words counts) s at ≡ numbers
  unfolding pool_lists pool_numbers words_before
  same_lists =
      let a : at + 4 * 0 ≡ at = omega arith in
      let p : at + 4 * (0 + words_in counts 1) ≡ at + 4 * words_in counts 1 = omega arith in
      let q : at + 4 * (0 + words_in counts 1 + words_in counts 2) ≡ at + 4 * words_in counts 1 + 4 * words_in counts 2 = omega arith in
      let r : at + 4 * (0 + words_in counts 1 + words_in counts 2 + words_in counts 3) ≡ at + 4 * words_in counts 1 + 4 * words_in counts 2 + 4 * words_in counts 3 = omega arith in
      let t : at + 4 * (0 + words_in counts 1 + words_in counts 2 + words_in counts 3 + words_in counts 4)
      ≡ at + 4 * words_in counts 1 + 4 * words_in counts 2 + 4 * words_in counts 3 + 4 * words_in counts 4 = omega arith in
      rw (a, p, q, r, t)

-- ---- pools and faces

module _ (s : List ℕ) (declaration : Declaration) (counts : List ℕ) (at : ℕ) (b : Bytes s) where
  pub contents_cut : at ≤ length s → length s < faces_start at counts → contents_at s declaration counts at ≡ refused truncated (at + (length s - at) / 4 * 4)
  unfolding contents_at
  contents_cut h l = rw (pools_cut s b (pool_words counts) at h (omega (arith, total_words counts)))

  module _ (h : faces_start at counts ≤ length s) where
    pools : pools_at (pool_words counts) s at ≡ done (record { value = numbers s counts at; next = faces_start at counts })
    pools =
        pools_whole s b (pool_words counts) at (omega (arith, total_words counts)) ∙ rw (total_words counts, same_lists s counts at)

    pub contents_refused : (n p : ℕ) → faces_in s declaration counts at ≡ refused n p → contents_at s declaration counts at ≡ refused n (faces_start at counts)
    unfolding contents_at
    contents_refused n p e = rw (pools, e)

    pub contents_done : (words : List ℕ) → faces_in s declaration counts at ≡ done words → contents_at s declaration counts at ≡ done (mesh_from s declaration counts at)
    unfolding contents_at mesh_from base_faces
    contents_done words e = rw (pools, e)

-- faces that were read are those of the mesh
pub faces_coded : (s : List ℕ) (declaration : Declaration) (counts : List ℕ) (at : ℕ) (words : List ℕ) → faces_in s declaration counts at ≡ done words
    → faces_in s declaration counts at ≡ done (base_faces s declaration counts at)
unfolding base_faces
faces_coded s declaration counts at words e = rw e

-- the faces after w words of pools
pub faces_there : (s : List ℕ) (declaration : Declaration) (counts : List ℕ) (at w : ℕ) → w ≡ words_before counts 5
    → faces_of declaration counts (get_or counts 0 0) (take (length s - (at + 4 * w)) (drop (at + 4 * w) s)) ≡ faces_in s declaration counts at
faces_there s declaration counts at w p = rw (to_end s (at + 4 * w), p)

-- ---- tables that are filled

-- a pool's words end where the next pool starts
pub pool_within : (counts : List ℕ) (at k : ℕ) → pool_at at counts k + 4 * words_in counts (suc k) ≡ pool_at at counts (suc k)
unfolding words_before
pool_within counts at k = omega arith

-- a pool's words in a part of its table that is just as long
pub pool_read : (s : List ℕ) → Bytes s → (at : ℕ) (counts : List ℕ) (k : ℕ) (r : Result ℕ Refusal) (part after : List ℕ) (from end : ℕ)
    → from ≡ pool_at at counts k → length part ≡ words_in counts (suc k) → from + 4 * length part ≤ length s
    → ended_given r after ≡ stored_run part 0 end (run_at (rules_from [] 0 (length part)) s from) → after ≡ pool_numbers s at counts k
unfolding pool_numbers
pool_read s b at counts k r part after from end p q within e =
    let whole = run_whole s b (length part) from within in
    let vs : List ℕ = words_or (run_at (replicate (length part) unjudged) s from) in
    let g : ended_given r after ≡ done (record { value = sets part 0 vs; next = end })
    = e ∙ rw (unjudged_rules (length part) 0) (ap (stored_run part 0 end) whole) in
    let long : length vs ≡ length part = run_length _ s from vs whole ∙ length-replicate (length part) unjudged in
    rw (← p, ← q) (ended_value r after _ g ∙ sets_full part vs long)

pub faces_filled : (s : List ℕ) (declaration : Declaration) (counts : List ℕ) (at : ℕ) (r : Result (Unit {0}) Fault) (table after out : List ℕ) (w : ℕ)
    → w ≡ words_before counts 5 → FacesFit s declaration counts at (length table)
    → faces_given r after ≡ stored_faces table 0 (faces_of declaration counts (get_or counts 0 0) (take (length s - (at + 4 * w)) (drop (at + 4 * w) s)))
    → out ≡ take (words_in counts 0) after ++ replicate (length after - words_in counts 0) 0
    → out ≡ table_of (base_faces s declaration counts at) table
faces_filled s declaration counts at r table after out w p fit e f =
    let g = e ∙ ap (stored_faces table 0) (faces_there s declaration counts at w p) in
    let words = base_faces s declaration counts at in
    let long : length words ≡ words_in counts 0 = faces_length declaration counts (get_or counts 0 0) _ words fit.coded in
    stored_cleared table after out words (words_in counts 0) (faces_stored r after table words _ g fit.coded) long fit.room f

-- ---- a continuation

module _ (s name : List ℕ) (declaration : Declaration) (lengths : List ℕ) where
  pub base_refused : (n p : ℕ) → head_of s name declaration ≡ refused n p → base_of s name declaration lengths ≡ refused n p
  unfolding base_of
  base_refused n p e = rw e

  module _ (counts : List ℕ) (at : ℕ) (e : head_of s name declaration ≡ done (record { value = counts; next = at })) where
    pub base_full : has_room lengths counts ≡ false → base_of s name declaration lengths ≡ refused no_room 0
    unfolding base_of
    base_full f = rw (e, f)

    pub base_contents : has_room lengths counts ≡ true → base_of s name declaration lengths ≡ contents_at s declaration counts at
    unfolding base_of contents_at
    base_contents f = rw (e, f)

-- the pools start within the bytes
pub head_within : (s name : List ℕ) (declaration : Declaration) (h : Ended (List ℕ)) → head_of s name declaration ≡ done h → h.next ≤ length s
unfolding head_of
head_within s name declaration h e =
    let size = value_before (name_at s 0) _ h e in
    let alike = passed (not (same (name_part s 0) name)) bad_name 0 _ h size.2 in
    let fields = value_before (run_at (base_rules declaration) s (size.0 + 2)) _ h alike.1 in
    let end : h ≡ record { value = values_of fields.0 1 6; next = size.0 + 30 } = cc in
    let n = name_within s 0 size.0 size.1 in
    let w = run_within (base_rules declaration) s (size.0 + 2) fields.0 (omega (arith, n.0)) fields.1 in
    omega (arith, w, rules_length declaration, ap (λ (x : Ended (List ℕ)). x.next) end)

-- ---- what is judged fits

pub contents_fit : (s : List ℕ) (declaration : Declaration) (counts : List ℕ) (at : ℕ) (lengths : List ℕ) (r : Result (Ended (List ℕ)) Refusal)
    → ContentsFit s declaration counts at r → has_room lengths counts ≡ true → JudgedFits s declaration lengths r
contents_fit s declaration counts at lengths r fit room head f =
    let k = fit head f in
    let at_room = room_at lengths counts room in
    rw (k.0, k.1) (record { within = k.2; room = at_room 0 (omega arith); coded = k.3 }, at_room)

-- the words before a later pool are not fewer
before_le : (counts : List ℕ) (k m : ℕ) → k ≤ m → words_before counts k ≤ words_before counts m
unfolding words_before
before_le counts k zero h = let z : k ≡ 0 = omega arith in rw z (omega arith)
before_le counts k (suc m) h =
    ⊎_elim (λ (e : k ≡ suc m). rw e (omega arith)) (λ (l : k < suc m). omega (arith, before_le counts k m (omega arith))) (eq-or-lt_of_le h)

-- what filling the table of a pool asks
pub pool_fits : (s : List ℕ) (declaration : Declaration) (t : Tables) (r : Result (Ended (List ℕ)) Refusal) → JudgedFits s declaration (lengths_of t) r
    → (head : Ended (List ℕ)) → r ≡ Ok head → (k : ℕ) → k < 5
    → (k < 5) × (pool_at head.next head.value (suc k) ≤ length s) × (words_in head.value (suc k) ≤ get_or (lengths_of t) (suc k) 0)
pool_fits s declaration t r fits head e k h =
    let f = fits head e in
    (h, omega (arith, f.0.within, before_le head.value (suc k) 5 (omega arith)), f.1 (suc k) (omega arith))

-- ---- answers and tables

-- a refusal is answered, and leaves the tables
pub answered_refused : (j : InPart Mesh) (p : Part) (n place : ℕ) (t : Tables) → j ≡ refused_in p n place
    → (refused_in p n place ≡ answered j) × (t ≡ tables_after j t)
unfolding tables_after
answered_refused j p n place t e = (rw e, rw e)

ok-not-err : {A E : Type 0} {a : A} {e : E} → ◌≡◌ {A = Result A E} (Ok a) (Err e) → ⊥
ok-not-err h = cc

-- an answer on a part, by its two cases
module _ {A : Type 0} (p : Part) (r : Result A Refusal) where
  pub placed_refused : (f : MeshRefusal) → Err f ≡ placed p r → (r ≡ Err f.refusal) × (f.part ≡ p)
  placed_refused f e = go r e
    where
      go : (x : Result A Refusal) → Err f ≡ placed p x → (x ≡ Err f.refusal) × (f.part ≡ p)
      go (Ok a) h = absurd (ok-not-err (sym h))
      go (Err x) h = let same : f ≡ record { part = p; refusal = x } = cc in (rw same, rw same)

  pub placed_done : (a : A) → Ok a ≡ placed p r → r ≡ Ok a
  placed_done a e = go r e
    where
      go : (x : Result A Refusal) → Ok a ≡ placed p x → x ≡ Ok a
      go (Ok b) h = let same : b ≡ a = cc in rw same
      go (Err x) h = absurd (ok-not-err h)

-- a part of a good size
pub sized_small : (s : List ℕ) → sized s ≡ done tt → length s ≤ largest_file
sized_small s e = ltb-false largest_file (length s) (passed (ltb largest_file (length s)) over_limit 0 _ tt e).0

module _ (d s lengths : List ℕ) where
  pub mesh_large : (n p : ℕ) → sized d ≡ refused n p → mesh_of d s lengths ≡ refused_in part.TheVariants.Declaration n p
  unfolding mesh_of
  mesh_large n p e = rw e

  module _ (small : sized d ≡ done tt) where
    pub base_large : (n p : ℕ) → sized s ≡ refused n p → mesh_of d s lengths ≡ refused_in part.TheVariants.Continuation n p
    unfolding mesh_of
    base_large n p e = rw (small, e)

    module _ (short : sized s ≡ done tt) where
      pub mesh_undeclared : (n p : ℕ) → declaration_of d ≡ refused n p → mesh_of d s lengths ≡ refused_in part.TheVariants.Declaration n p
      unfolding mesh_of
      mesh_undeclared n p e = rw (small, short, e)

      module _ (declaration : Declaration) (e : declaration_of d ≡ done declaration) where
        pub mesh_refused : (n p : ℕ) → base_of s (mesh_name d) declaration lengths ≡ refused n p
            → mesh_of d s lengths ≡ refused_in part.TheVariants.Continuation n p
        unfolding mesh_of
        mesh_refused n p f = rw (small, short, e, f)

        pub mesh_done : (m : Mesh) → base_of s (mesh_name d) declaration lengths ≡ done m → mesh_of d s lengths ≡ read m
        unfolding mesh_of
        mesh_done m f = rw (small, short, e, f)

-- a mesh that was judged is answered, and stands in the tables
pub answered_read : (s : List ℕ) (declaration : Declaration) (counts : List ℕ) (at : ℕ) (j : InPart Mesh) (t u : Tables)
    → j ≡ read (mesh_from s declaration counts at)
    → u.faces ≡ table_of (base_faces s declaration counts at) t.faces
    → u.positions ≡ table_of (pool_numbers s at counts 0) t.positions
    → u.normals ≡ table_of (pool_numbers s at counts 1) t.normals
    → u.diffuse ≡ table_of (pool_numbers s at counts 2) t.diffuse
    → u.specular ≡ table_of (pool_numbers s at counts 3) t.specular
    → u.texture ≡ table_of (pool_numbers s at counts 4) t.texture
    → (read (counts_from counts declaration.shading_count) ≡ answered j) × (u ≡ tables_after j t)
unfolding tables_after mesh_from
answered_read s declaration counts at j t u e f p n d sp x = (rw e, rw (e, ← f, ← p, ← n, ← d, ← sp, ← x))
