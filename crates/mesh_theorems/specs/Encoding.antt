-- How a declaration and a base mesh within 01's limits are laid out in bytes. Nothing here is read by a program: the theorems say that what is
-- laid out so is read back.
use Rattle.std.specs.Prelude.{ℕ, ◌≤◌, ◌<◌, List, [], ◌∷◌, ◌++◌, map, ◌≡◌, get_or, length, take}
use Rattle.fields.specs.Limits.{any_number, largest_count, longest_name}
pub use Rattle.fields_theorems.specs.Encoding.{name_bytes, word_bytes}
use Rattle.mesh.specs.Run.{filled}
use Rattle.mesh.specs.Shading.{layer_limit, no_shading, shading_limit}
use Rattle.mesh.specs.Base.{Mesh, pool_words}
use Rattle.mesh.specs.declared.shading.Shading.{Shading}
use Rattle.mesh.specs.declared.declaration.Declaration.{Declaration}

-- ---- a declaration: "fields in the order of clause 9.6.1, from name to bone count"

-- attributes, layer count, a dimension for each layer, original shading id
unfoldable pub shading_fields : Shading → List ℕ
shading_fields s = s.attributes ∷ s.layer_count ∷ (take s.layer_count s.dimensions ++ (s.original_id ∷ []))

-- the same of shadings one after the other
unfoldable pub shadings_fields : List Shading → List ℕ
shadings_fields [] = []
shadings_fields (s ∷ more) = shading_fields s ++ shadings_fields more

-- the shadings that a declaration states, without the room past them
abbrev pub stated_shadings : Declaration → List Shading
stated_shadings d = take d.shading_count d.shadings

-- chain index, mesh attributes, the six counts, shading count
unfoldable pub opening_fields : Declaration → List ℕ
opening_fields d = d.chain_index ∷ d.attributes ∷ (d.counts ++ (d.shading_count ∷ []))

-- minimum and maximum resolution, quality factors, inverse quants, normal parameters, bone count
unfoldable pub closing_fields : Declaration → List ℕ
closing_fields d =
    d.minimum_resolution ∷ d.maximum_resolution ∷
    (d.quality_factors ++ (d.inverse_quants ++ (d.normal_parameters ++ (d.bone_count ∷ []))))

-- all fields after the name
unfoldable pub declaration_fields : Declaration → List ℕ
declaration_fields d = opening_fields d ++ (shadings_fields (stated_shadings d) ++ closing_fields d)

-- the data of a declaration
unfoldable pub declaration_bytes : List ℕ → Declaration → List ℕ
declaration_bytes name d = name_bytes name ++ word_bytes (declaration_fields d)

-- ---- a base mesh: "name, chain index, base counts ..; then pools, F32 bit patterns", then the coded faces

-- the pools one after the other
unfoldable pub pool_bytes : List (List ℕ) → List ℕ
pool_bytes [] = []
pool_bytes (pool ∷ more) = word_bytes pool ++ pool_bytes more

-- the data of a continuation; its chain index is 0
unfoldable pub base_bytes : List ℕ → Mesh → List ℕ → List ℕ
base_bytes name m coded = name_bytes name ++ (word_bytes (0 ∷ m.counts) ++ (pool_bytes m.pools ++ coded))

-- ---- within the limits

-- what holds of each
unfoldable pub All : {A : Type 0} → (A → Type 0) → List A → Type 0
All p [] = Unit {0}
All p (a ∷ more) = p a × All p more

-- at most so much
abbrev pub UpTo : ℕ → ℕ → Type 0
UpTo most v = v ≤ most

-- so many numbers that each fit a U32
pub record Words (n : ℕ) (vs : List ℕ) : Type 0 where
  pub many : length vs ≡ n
  pub small : All (UpTo any_number) vs

-- a table with so much room, whose first n entries are used; the rest holds `empty`
pub record Used (A : Type 0) (room : ℕ) (empty : A) (n : ℕ) (table : List A) : Type 0 where
  pub many : length (take n table) ≡ n
  pub rest : table ≡ filled room empty (take n table)

-- "texture layers per shading 2"; "shading attributes bit 0 diffuse, bit 1 specular; other bits of either 0"
pub record Shadeable (s : Shading) : Type 0 where
  pub flags : s.attributes ≤ 3
  pub few : s.layer_count ≤ layer_limit
  pub layers : Used ℕ layer_limit 0 s.layer_count s.dimensions
  pub dimensions : All (UpTo any_number) (take s.layer_count s.dimensions)
  pub original : s.original_id ≤ any_number

-- "Each pool and the face count 65,536. Shadings 64, .. name 255 bytes"; "mesh attributes bit 0 means no normals"; chain index and bone count 0
pub record Declarable (name : List ℕ) (d : Declaration) : Type 0 where
  pub short : length name ≤ longest_name
  pub named : d.name_size ≡ length name
  pub chained : d.chain_index ≡ 0
  pub flags : d.attributes ≤ 1
  pub six : length d.counts ≡ 6
  pub small : All (UpTo largest_count) d.counts
  pub few : d.shading_count ≤ shading_limit
  pub listed : Used Shading shading_limit no_shading d.shading_count d.shadings
  pub shaded : All Shadeable (stated_shadings d)
  -- "fields on which this page sets no rule"
  pub minimum : d.minimum_resolution ≤ any_number
  pub maximum : d.maximum_resolution ≤ any_number
  pub qualities : Words 3 d.quality_factors
  pub quants : Words 5 d.inverse_quants
  pub parameters : Words 3 d.normal_parameters
  pub boneless : d.bone_count ≡ 0

-- "none above the declared one, positions equal to minimum resolution"; the faces are stated by what is coded
pub record Stated (name : List ℕ) (m : Mesh) : Type 0 where
  pub declared : Declarable name m.declaration
  pub six : length m.counts ≡ 6
  pub small : All (UpTo largest_count) m.counts
  pub below : (i : ℕ) → i < 6 → get_or m.counts i 0 ≤ get_or m.declaration.counts i 0
  pub positions : get_or m.counts 1 0 ≡ m.declaration.minimum_resolution
  pub pooled : map length m.pools ≡ pool_words m.counts
  pub words : All (All (UpTo any_number)) m.pools
