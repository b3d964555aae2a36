-- Every mesh within the limits has bytes from which it is read back: the coder's writer takes the numbers of its faces in a buffer that is long
-- enough, and the whole is not too large.
use Prim.Native.Nat.{ℕ, ◌+◌, ◌*◌, ◌≤◌}
use mathlib.Core.Bool.{true}
use mathlib.Core.List.{List, [], ◌∷◌, ◌++◌, append-nil, map}
use mathlib.Core.Path.{◌≡◌, ap, refl}
use native.Mathlib.Omega.{arith}
use lib.ListN.{get_or, length, length-append, length-replicate, length-take, replicate, take}
use Rattle.fields.specs.Limits.{largest_count, largest_file}
use Rattle.fields_theorems.specs.Encoding.{number_bytes, name_bytes}
use Rattle.fields_theorems.proofs.FieldsBack.{length_number_bytes, length_word_bytes}
use Rattle.coder.specs.Histogram.{fresh_histogram, sum}
use Rattle.coder_theorems.specs.Runs.{AllKeep, after_steps, end_call, number_in, put, taken_calls, write_calls}
use Rattle.coder_theorems.specs.Enough.{enough}
use Rattle.coder_theorems.proofs.Taking.{all-taken}
use Rattle.mesh.specs.Shading.{shading_limit}
use Rattle.mesh.specs.Base.{Mesh, Tables, answered, counts_of, has_room, lengths_of, mesh_of, pool_words, read, tables_after}
use Rattle.mesh.specs.declared.declaration.Declaration.{Declaration}
use Rattle.mesh_theorems.specs.Below.{FacesBelow}
use Rattle.mesh_theorems.specs.Encoding.{Stated, base_bytes, declaration_bytes, pool_bytes, word_bytes}
use Rattle.mesh_theorems.specs.FaceNumbers.{coded_faces, faces_numbers, fresh_faces, numbers_of}
use Rattle.mesh_theorems.proofs.BaseBack.{at_most}
use Rattle.mesh_theorems.proofs.FacesTaken.{face_symbols, faces_fine}
use Rattle.mesh_theorems.proofs.ReadBack.{mesh_read_back}
use Rattle.mesh_theorems.proofs.Sound.{fresh_formed}

-- Any faces within their counts are taken by the coder's writer, and ended, in any buffer that is long enough.
pub faces_written : (declaration : Declaration) (counts : List ℕ) (n : ℕ) (words buffer : List ℕ) → FacesBelow declaration counts n words
    → declaration.shading_count ≤ shading_limit → ((i : ℕ) → get_or counts i 0 ≤ largest_count)
    → (let numbers = faces_numbers declaration counts n words in
    let start = fresh_faces buffer in
    let ended = end_call (after_steps start (map put numbers)) in
    enough numbers ≤ length buffer → length buffer ≤ largest_file
    → AllKeep start (map put numbers)
    × (map number_in (taken_calls (write_calls start (map put numbers))) ≡ numbers)
    × (ended.number ≡ 0)
    × (ended.used ≤ length buffer))
faces_written declaration counts n words buffer below few small room short =
    all-taken (faces_numbers declaration counts n words) (fresh_histogram ∷ []) buffer fresh_formed (faces_fine declaration counts few small n words below).takes
    room short

-- ---- the whole is not too large

pools_length : (pools : List (List ℕ)) → length (pool_bytes pools) ≡ 4 * sum (map length pools)
unfolding pool_bytes sum
pools_length [] = refl
pools_length (pool ∷ more) = omega (arith, length-append (word_bytes pool) (pool_bytes more), length_word_bytes pool, pools_length more)

base_length : (name : List ℕ) (m : Mesh) (coded : List ℕ) → Stated name m
    → length (base_bytes name m coded) ≡ length name + 30 + 4 * sum (pool_words m.counts) + length coded
unfolding base_bytes name_bytes
base_length name m coded h =
    let pools = pool_bytes m.pools in
    let counts = word_bytes (0 ∷ m.counts) in
    omega (
      arith,
      length-append (number_bytes 2 (length name) ++ name) (counts ++ (pools ++ coded)),
      length-append (number_bytes 2 (length name)) name,
      length_number_bytes 2 (length name),
      length-append counts (pools ++ coded),
      length-append pools coded,
      length_word_bytes (0 ∷ m.counts),
      h.six,
      pools_length m.pools,
      ap sum h.pooled,
    )

module _ (name : List ℕ) (m : Mesh) (h : Stated name m) (below : FacesBelow m.declaration m.counts (get_or m.counts 0 0) m.faces) where
  small_counts : (i : ℕ) → get_or m.counts i 0 ≤ largest_count
  small_counts i = at_most largest_count m.counts i h.small

  -- a face has at most so many symbols, of two bytes each
  coded_room : enough (numbers_of m) ≤ 2 * (face_symbols * get_or m.counts 0 0 + 4)
  coded_room = let f = (faces_fine m.declaration m.counts h.declared.few small_counts (get_or m.counts 0 0) m.faces below).few in omega arith

  room_fits : enough (numbers_of m) ≤ largest_file
  room_fits = omega (arith, coded_room, small_counts 0)

  -- as they are coded in a buffer of just that room, the whole is not too large
  coded_fits : (n : ℕ) (bytes : List ℕ) → n ≤ enough (numbers_of m) → length (base_bytes name m (take n bytes)) ≤ largest_file
  unfolding sum
  coded_fits n bytes few =
      omega (
        arith,
        base_length name m (take n bytes) h,
        length-take n bytes,
        coded_room,
        h.declared.short,
        small_counts 0,
        small_counts 1,
        small_counts 2,
        small_counts 3,
        small_counts 4,
        small_counts 5,
      )

-- Every mesh within the limits comes back: of its declaration and its base mesh laid out in bytes, with the faces as the coder's writer takes and
-- ends them, a caller of `read_mesh` whose tables have room gets just that mesh, its counts as the answer, and its faces and pools in the tables.
pub mesh_written : (name : List ℕ) (m : Mesh) (t : Tables) → Stated name m
    → FacesBelow m.declaration m.counts (get_or m.counts 0 0) m.faces → has_room (lengths_of t) m.counts ≡ true
    → (let j = mesh_of (declaration_bytes name m.declaration) (base_bytes name m (coded_faces m)) (lengths_of t) in
    (answered j ≡ read (counts_of m)) × (tables_after j t ≡ tables_after (read m) t))
unfolding coded_faces
mesh_written name m t h below room =
    let buffer : List ℕ = replicate (enough (numbers_of m)) 0 in
    let long : length buffer ≡ enough (numbers_of m) = length-replicate (enough (numbers_of m)) 0 in
    let w = faces_written m.declaration m.counts (get_or m.counts 0 0) m.faces buffer below h.declared.few (small_counts name m h below)
    (omega (arith, long)) (omega (arith, long, room_fits name m h below)) in
    let ended = end_call (after_steps (fresh_faces buffer) (map put (numbers_of m))) in
    let fits = coded_fits name m h below ended.used ended.bytes (omega (arith, long, w.3)) in
    rw (append-nil (take ended.used ended.bytes)) at
    (mesh_read_back name m t (map put (numbers_of m)) buffer [] h below room w.0 w.1 w.2 (rw (append-nil (take ended.used ended.bytes)) fits))
