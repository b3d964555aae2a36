-- The base mesh (01, "Mesh declaration and base mesh"; clause 9.6.1.2): name, chain index and six base counts, then 12, the pools, the faces.
use Rattle.std.specs.Prelude.{ℕ, ◌+◌, ◌*◌, Bool, not, List, [], ◌∷◌, leb, ltb, drop, get_or, length, replicate, Result, Ok, Err}
use Rattle.fields.specs.All.{all}
use Rattle.fields.specs.Limits.{largest_count, largest_file}
use Rattle.fields.specs.Numbers.{bad_name, fault_number, no_room, over_limit}
use Rattle.fields.specs.Judged.{Judged, done, refused, on_done, pick, refused_if}
use Rattle.fields.specs.Name.{name_at, name_part, same}
use Rattle.mesh.specs.Run.{filled, run_at, unjudged, up_to, values_of}
use Rattle.mesh.specs.Declaration.{declaration_of, mesh_name}
use Rattle.mesh.specs.Corners.{face_words}
use Rattle.mesh.specs.Faces.{faces_of, placed_at}
use Rattle.std.specs.Borrow.{MutBor}
use Rattle.mesh.specs.declared.run.Rule.{Rule}
use Rattle.mesh.specs.declared.tables.Tables as lent
use Rattle.mesh.specs.declared.run.Ended.{Ended}
use Rattle.mesh.specs.declared.declaration.Declaration.{Declaration}
use Rattle.mesh.specs.declared.base.MeshCounts.{MeshCounts}
use Rattle.mesh.specs.declared.base.Part.{Part}
use Rattle.mesh.specs.declared.base.Part as part
use Rattle.mesh.specs.declared.base.MeshRefusal.{MeshRefusal}

-- ---- the head

abbrev pub smaller : ℕ → ℕ → ℕ
smaller a b = pick (ltb a b) a b

-- a base count: at most the limit (else 9), from least to most (else 11)
abbrev pub base_count : ℕ → ℕ → Rule
base_count least most = record { limit = largest_count; least = least; most = most }

-- the fields after the name: "none above the declared one, positions equal to minimum resolution, else 11"
unfoldable pub base_rules : Declaration → List Rule
base_rules declaration =
    -- chain index: 0, else 11
    up_to 0 ∷
    -- faces
    base_count 0 (stated 0) ∷
    -- positions
    base_count declaration.minimum_resolution (smaller (stated 1) declaration.minimum_resolution) ∷
    -- normals, diffuse colors, specular colors, texture coordinates
    base_count 0 (stated 2) ∷ base_count 0 (stated 3) ∷ base_count 0 (stated 4) ∷ base_count 0 (stated 5) ∷ []
  where
    stated : ℕ → ℕ
    stated i = get_or declaration.counts i 0

-- the six base counts, and where the pools start, after the name and seven fields; a name unlike the declaration's is 8
unfoldable pub head_of : List ℕ → List ℕ → Declaration → Judged (Ended (List ℕ))
head_of s name declaration =
    on_done (name_at s 0) λ size.
    refused_if (not (same (name_part s 0) name)) bad_name 0
    (on_done (run_at (base_rules declaration) s (size + 2)) λ fields.
    done (record { value = values_of fields 1 6; next = size + 30 }))

-- ---- tables and pools

-- "positions 3 .. numbers each"
abbrev pub position_words : ℕ
position_words = 3

-- the numbers of an entry in each table: faces, positions, normals, diffuse colors, specular colors, texture coordinates
abbrev pub widths : List ℕ
widths = face_words ∷ position_words ∷ 3 ∷ 4 ∷ 4 ∷ 4 ∷ []

abbrev pub table_count : ℕ
table_count = 6

-- the words that table i is to hold
abbrev pub words_in : List ℕ → ℕ → ℕ
words_in counts i = get_or widths i 0 * get_or counts i 0

-- of tables of these lengths, table i has room
abbrev pub table_fits : List ℕ → List ℕ → ℕ → Bool
table_fits lengths counts i = leb (words_in counts i) (get_or lengths i 0)

-- tables of these lengths have room
abbrev pub has_room : List ℕ → List ℕ → Bool
has_room lengths counts = all (table_fits lengths counts) table_count

-- the words of the five pools
abbrev pub pool_words : List ℕ → List ℕ
pool_words counts = words_in counts 1 ∷ words_in counts 2 ∷ words_in counts 3 ∷ words_in counts 4 ∷ words_in counts 5 ∷ []

-- "pools, F32 bit patterns", so many words in each, one after the other
unfoldable pub pools_at : List ℕ → List ℕ → ℕ → Judged (Ended (List (List ℕ)))
pools_at [] s at = done (record { value = []; next = at })
pools_at (words ∷ more) s at =
    on_done (run_at (replicate words unjudged) s at) λ pool.
    on_done (pools_at more s (at + 4 * words)) λ rest.
    done (record { value = pool ∷ rest.value; next = rest.next })

-- ---- the mesh

-- what a declaration and a continuation state
pub record Mesh : Type 0 where
  pub declaration : Declaration
  pub counts : List ℕ
  pub pools : List (List ℕ)
  pub faces : List ℕ

-- a continuation under its declaration, for tables of these lengths; "12 is judged after the six counts and before the pools"
unfoldable pub base_of : List ℕ → List ℕ → Declaration → List ℕ → Judged Mesh
base_of s name declaration lengths =
    on_done (head_of s name declaration) λ head.
    let counts = head.value in
    refused_if (not (has_room lengths counts)) no_room 0
    (on_done (pools_at (pool_words counts) s head.next) λ pools.
    on_done (placed_at pools.next (faces_of declaration counts (get_or counts 0 0) (drop pools.next s))) λ faces.
    done (record { declaration = declaration; counts = counts; pools = pools.value; faces = faces }))

-- a value, or a refusal with the part that its place counts from: "a place counts from its own part's start"
pub data InPart (A : Type 0) : Type 0 where
  read : A → InPart A
  refused_in : Part → ℕ → ℕ → InPart A

-- 01's number of it
abbrev pub mesh_number : {A : Type 0} → InPart A → ℕ
mesh_number (read a) = 0
mesh_number (refused_in p n place) = n

abbrev pub in_part : {A B : Type 0} → Part → Judged A → (A → InPart B) → InPart B
in_part p (done a) next = next a
in_part p (refused n place) next = refused_in p n place

-- "a file, mesh data or coder buffer above 16 MiB (place 0, judged first)"
abbrev pub sized : List ℕ → Judged (Unit {0})
sized s = refused_if (ltb largest_file (length s)) over_limit 0 (done tt)

-- "both lengths are judged first (9), then all the declaration, then the continuation"
unfoldable pub mesh_of : List ℕ → List ℕ → List ℕ → InPart Mesh
mesh_of d s lengths =
    in_part part.TheVariants.Declaration (sized d) λ _.
    in_part part.TheVariants.Continuation (sized s) λ _.
    in_part part.TheVariants.Declaration (declaration_of d) λ declaration.
    in_part part.TheVariants.Continuation (base_of s (mesh_name d) declaration lengths) read

-- ---- the answer, and the six tables

abbrev pub counts_of : Mesh → MeshCounts
counts_of m = record {
  faces = get_or m.counts 0 0;
  positions = get_or m.counts 1 0;
  normals = get_or m.counts 2 0;
  diffuse = get_or m.counts 3 0;
  specular = get_or m.counts 4 0;
  texture = get_or m.counts 5 0;
  shadings = m.declaration.shading_count;
}

-- 01's number, part and place, or the counts, of each case
abbrev pub mesh_given : Result MeshCounts MeshRefusal → InPart MeshCounts
mesh_given (Ok counts) = read counts
mesh_given (Err e) = refused_in e.part (fault_number e.refusal.fault) e.refusal.place

abbrev pub answered : InPart Mesh → InPart MeshCounts
answered (read m) = read (counts_of m)
answered (refused_in p n place) = refused_in p n place

-- the caller's tables
pub record Tables : Type 0 where
  pub faces : List ℕ
  pub positions : List ℕ
  pub normals : List ℕ
  pub diffuse : List ℕ
  pub specular : List ℕ
  pub texture : List ℕ

abbrev pub tables : List ℕ → List ℕ → List ℕ → List ℕ → List ℕ → List ℕ → Tables
tables faces positions normals diffuse specular texture =
    record { faces = faces; positions = positions; normals = normals; diffuse = diffuse; specular = specular; texture = texture }

-- the tables that are lent, and as they are left
abbrev pub held : lent.Tables → Tables
held t = tables t.faces.now t.positions.now t.normals.now t.diffuse.now t.specular.now t.texture.now

abbrev pub Slice : Type 0
Slice = MutBor (List ℕ)

abbrev pub left : Slice × (Slice × (Slice × (Slice × (Slice × (Slice × Unit {0}))))) → Tables
left t = tables t.0.now t.1.0.now t.1.1.0.now t.1.1.1.0.now t.1.1.1.1.0.now t.1.1.1.1.1.0.now

abbrev pub lengths_of : Tables → List ℕ
lengths_of t =
    length t.faces ∷ length t.positions ∷ length t.normals ∷ length t.diffuse ∷ length t.specular ∷ length t.texture ∷ []

-- a mesh that is read into tables
abbrev pub mesh_in : List ℕ → List ℕ → Tables → InPart Mesh
mesh_in d s t = mesh_of d s (lengths_of t)

-- "On success all room past the base is set to 0"
abbrev pub table_of : List ℕ → List ℕ → List ℕ
table_of words table = filled (length table) 0 words

-- the tables after an answer: a refusal leaves them as they were
unfoldable pub tables_after : InPart Mesh → Tables → Tables
tables_after (read m) t = record {
  faces = table_of m.faces t.faces;
  positions = table_of (get_or m.pools 0 []) t.positions;
  normals = table_of (get_or m.pools 1 []) t.normals;
  diffuse = table_of (get_or m.pools 2 []) t.diffuse;
  specular = table_of (get_or m.pools 3 []) t.specular;
  texture = table_of (get_or m.pools 4 []) t.texture;
}
tables_after (refused_in p n place) t = t
