-- A mesh is read back: its declaration and its base mesh are, and both are short enough to be read.
use Prim.Native.Nat.{ℕ, ◌≤◌}
use lib.ListN.{get_or, length, length-append, take}
use mathlib.Core.Bool.{true}
use mathlib.Core.List.{List, [], ◌∷◌, ◌++◌, map}
use mathlib.Core.Path.{◌≡◌, ap}
use native.Mathlib.Omega.{arith}
use borrow.Author.Tests.{le-ltb}
use Rattle.fields.specs.Limits.{largest_count, largest_file}
use Rattle.fields.specs.Judged.{done}
use Rattle.coder.specs.Histogram.{fresh_histogram}
use Rattle.coder_theorems.specs.Runs.{AllKeep, Step, after_steps, begun, end_call, number_in, taken_calls, write_calls}
use Rattle.mesh.specs.Faces.{faces_of}
use Rattle.mesh.specs.Base.{InPart, Mesh, Tables, answered, counts_of, has_room, lengths_of, mesh_of, read, tables_after}
use Rattle.mesh_theorems.specs.Below.{FacesBelow}
use Rattle.mesh_theorems.specs.FaceNumbers.{faces_numbers}
use Rattle.mesh_theorems.specs.Encoding.{Stated, base_bytes, declaration_bytes, name_bytes, pool_bytes, word_bytes}
use Rattle.mesh_theorems.proofs.DeclarationBack.{declaration_back, declaration_name, declaration_sized}
use Rattle.mesh_theorems.proofs.BaseBack.{at_most, base_back}
use Rattle.mesh_theorems.proofs.FacesBack.{faces_read_back}

-- A declaration and a base mesh within the limits are read to exactly the mesh that they state, where the tables have room and the faces are read
-- from what was coded.
mesh_back : (name : List ℕ) (m : Mesh) (coded lengths : List ℕ) → Stated name m → has_room lengths m.counts ≡ true
    → length (base_bytes name m coded) ≤ largest_file
    → faces_of m.declaration m.counts (get_or m.counts 0 0) coded ≡ done m.faces
    → mesh_of (declaration_bytes name m.declaration) (base_bytes name m coded) lengths ≡ read m
unfolding mesh_of
mesh_back name m coded lengths h room small faces =
    let d = declaration_bytes name m.declaration in
    let s = base_bytes name m coded in
    let declared = h.declared in
    rw (
      le-ltb largest_file (length d) (declaration_sized name m.declaration declared),
      le-ltb largest_file (length s) small,
      declaration_back name m.declaration declared,
      declaration_name name m.declaration declared,
      base_back name m coded lengths h room faces,
    )

-- what is coded is no longer than the whole
coded_short : (name : List ℕ) (m : Mesh) (coded : List ℕ) → length coded ≤ length (base_bytes name m coded)
unfolding base_bytes
coded_short name m coded =
    let a = pool_bytes m.pools ++ coded in
    let b = word_bytes (0 ∷ m.counts) ++ a in
    omega (arith, length-append (name_bytes name) b, length-append (word_bytes (0 ∷ m.counts)) a, length-append (pool_bytes m.pools) coded)

-- What a declaration and a base mesh within the limits state is read back: the declaration's fields, the head and the pools as they are laid out,
-- and after them the faces, whose numbers the coder's writer took, in whatever buffers, and ended; any bytes may follow. For every such mesh, and
-- for tables that have room, a caller of `read_mesh` gets just that mesh: its counts as the answer, and its faces and pools in the six tables.
pub mesh_read_back : (name : List ℕ) (m : Mesh) (t : Tables) (steps : List Step) (buffer rest : List ℕ) → Stated name m
    → FacesBelow m.declaration m.counts (get_or m.counts 0 0) m.faces → has_room (lengths_of t) m.counts ≡ true
    → (let start = begun buffer (fresh_histogram ∷ []) in
    let ended = end_call (after_steps start steps) in
    let continuation = base_bytes name m (take ended.used ended.bytes ++ rest) in
    let j = mesh_of (declaration_bytes name m.declaration) continuation (lengths_of t) in
    AllKeep start steps
    → map number_in (taken_calls (write_calls start steps)) ≡ faces_numbers m.declaration m.counts (get_or m.counts 0 0) m.faces
    → ended.number ≡ 0 → length continuation ≤ largest_file → (answered j ≡ read (counts_of m)) × (tables_after j t ≡ tables_after (read m) t))
mesh_read_back name m t steps buffer rest h below room keep coded e small =
    let small_counts : (i : ℕ) → get_or m.counts i 0 ≤ largest_count = λ i. at_most largest_count m.counts i h.small in
    let ended = end_call (after_steps (begun buffer (fresh_histogram ∷ [])) steps) in
    let d : List ℕ = take ended.used ended.bytes ++ rest in
    let short : length d ≤ largest_file = omega (arith, small, coded_short name m d) in
    let whole = mesh_back name m d (lengths_of t) h room small
    (faces_read_back m.declaration m.counts (get_or m.counts 0 0) m.faces steps buffer rest below h.declared.few small_counts keep coded e
    short) in
    (ap answered whole, ap (λ (j : InPart Mesh). tables_after j t) whole)
