-- The shading descriptions of a mesh declaration (clause 9.6.1.1.3.9; 003: Texture Coord Dimensions stands once for each layer).
use Rattle.std.specs.Prelude.{ℕ, zero, suc, ◌+◌, ◌*◌, List, [], ◌∷◌, get_or, replicate}
use Rattle.fields.specs.Judged.{Judged, done, on_done}
use Rattle.fields.specs.Field.{field_at}
use Rattle.mesh.specs.Run.{filled, limited, run_at, unjudged, up_to}
use Rattle.mesh.specs.declared.run.Rule.{Rule}
use Rattle.mesh.specs.declared.run.Ended.{Ended}
use Rattle.mesh.specs.declared.shading.Shading.{Shading}

-- "Shadings 64, texture layers per shading 2"
abbrev pub shading_limit : ℕ
shading_limit = 64

abbrev pub layer_limit : ℕ
layer_limit = 2

abbrev pub no_shading : Shading
no_shading = record { attributes = 0; layer_count = 0; dimensions = replicate layer_limit 0; original_id = 0 }

unfoldable pub no_shadings : List Shading
no_shadings = replicate shading_limit no_shading

-- "shading attributes bit 0 diffuse, bit 1 specular; other bits of either 0, else 11"; and the layer count
abbrev pub shading_rules : List Rule
shading_rules = up_to 3 ∷ limited layer_limit ∷ []

-- after them a dimension for each layer, and the original shading id
unfoldable pub shading_at : List ℕ → ℕ → Judged (Ended Shading)
shading_at s at =
    on_done (run_at shading_rules s at) λ head.
    let layers = get_or head 1 0 in
    let last = at + 8 + 4 * layers in
    on_done (run_at (replicate layers unjudged) s (at + 8)) λ dimensions.
    on_done (field_at 4 s last) λ original.
    done (record {
      value = record {
        attributes = get_or head 0 0;
        layer_count = layers;
        dimensions = filled layer_limit 0 dimensions;
        original_id = original;
      };
      next = last + 4;
    })

-- so many, one after the other
unfoldable pub shadings_at : ℕ → List ℕ → ℕ → Judged (Ended (List Shading))
shadings_at zero s at = done (record { value = []; next = at })
shadings_at (suc n) s at =
    on_done (shading_at s at) λ shading.
    on_done (shadings_at n s shading.next) λ rest.
    done (record { value = shading.value ∷ rest.value; next = rest.next })
