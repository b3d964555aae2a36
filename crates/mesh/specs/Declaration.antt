-- The mesh declaration (clause 9.6.1.1; 01, "Mesh declaration and base mesh"): "fields in the order of clause 9.6.1, from name to bone
-- count".
use Rattle.std.specs.Prelude.{ℕ, ◌+◌, List, [], ◌∷◌, ltb, get_or, length}
use Rattle.fields.specs.Limits.{largest_count, largest_file}
use Rattle.fields.specs.Numbers.{bytes_left, over_limit}
use Rattle.fields.specs.Judged.{Judged, done, on_done, pick, refused_if}
use Rattle.fields.specs.Name.{name_at, name_part}
use Rattle.mesh.specs.Run.{filled, limited, run_at, unjudged, up_to, values_of}
use Rattle.mesh.specs.Shading.{no_shading, shading_limit, shadings_at}
use Rattle.mesh.specs.declared.run.Rule.{Rule}
use Rattle.mesh.specs.declared.shading.Shading.{Shading}
use Rattle.mesh.specs.declared.declaration.Declaration.{Declaration}

-- the fields after the name
abbrev pub opening_rules : List Rule
opening_rules =
    -- chain index: 0, else 11
    up_to 0 ∷
    -- "Mesh attributes bit 0 means no normals; .. other bits of either 0, else 11"
    up_to 1 ∷
    -- counts of faces, positions, normals, diffuse colors, specular colors, texture coordinates
    limited largest_count ∷ limited largest_count ∷ limited largest_count ∷ limited largest_count ∷ limited largest_count ∷ limited largest_count ∷
    -- shading count
    limited shading_limit ∷ []

-- the fields after the shadings
abbrev pub closing_rules : List Rule
closing_rules =
    -- minimum and final maximum resolution
    unjudged ∷ unjudged ∷
    -- quality factors of positions, normals, texture coordinates
    unjudged ∷ unjudged ∷ unjudged ∷
    -- inverse quants of positions, normals, texture coordinates, diffuse colors, specular colors
    unjudged ∷ unjudged ∷ unjudged ∷ unjudged ∷ unjudged ∷
    -- normal crease, normal update and normal tolerance parameter
    unjudged ∷ unjudged ∷ unjudged ∷
    -- bone count: "bone count not 0" is 9
    limited 0 ∷ []

-- the declaration with these fields
abbrev pub declaration_with : ℕ → List ℕ → List Shading → List ℕ → Declaration
declaration_with size head shadings tail = record {
  name_size = size;
  chain_index = get_or head 0 0;
  attributes = get_or head 1 0;
  counts = values_of head 2 6;
  shading_count = get_or head 8 0;
  shadings = shadings;
  minimum_resolution = get_or tail 0 0;
  maximum_resolution = get_or tail 1 0;
  quality_factors = values_of tail 2 3;
  inverse_quants = values_of tail 5 5;
  normal_parameters = values_of tail 10 3;
  bone_count = get_or tail 13 0;
}

-- a declaration's data: the name takes its size and 2 bytes, the nine fields after it 36, the fourteen last ones 56
unfoldable pub declaration_of : List ℕ → Judged Declaration
declaration_of s =
    refused_if (ltb largest_file (length s)) over_limit 0
    (on_done (name_at s 0) λ size.
    on_done (run_at opening_rules s (size + 2)) λ head.
    on_done (shadings_at (get_or head 8 0) s (size + 38)) λ shadings.
    on_done (run_at closing_rules s shadings.next) λ tail.
    refused_if (ltb (shadings.next + 56) (length s)) bytes_left (shadings.next + 56)
    (done (declaration_with size head (filled shading_limit no_shading shadings.value) tail)))

-- the name, as a part of the caller's bytes; none where the data is above its limit
unfoldable pub mesh_name : List ℕ → List ℕ
mesh_name s = pick (ltb largest_file (length s)) [] (name_part s 0)
