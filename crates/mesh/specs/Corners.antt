-- A face's record (01: "A face's record is 19 numbers: shading, then per corner six"), and which fields a corner has.
use Rattle.std.specs.Prelude.{ℕ, zero, suc, ◌+◌, ◌*◌, ◌/◌, ◌%◌, Bool, true, List, [], eqb, ltb, get_or}
use Rattle.fields.specs.Judged.{pick}
use Rattle.coder_theorems.specs.Runs.{Context, static, dynamic}
use Rattle.mesh.specs.Shading.{layer_limit}
use Rattle.mesh.specs.declared.shading.Shading.{Shading}
use Rattle.mesh.specs.declared.declaration.Declaration.{Declaration}
use Rattle.mesh.specs.declared.faces.CornerForm.{CornerForm}

-- position, normal, diffuse color, specular color, and one for each texture layer
abbrev pub corner_fields : ℕ
corner_fields = 4 + layer_limit

abbrev pub face_words : ℕ
face_words = 1 + 3 * corner_fields

-- "absent is 0xFFFFFFFF"
abbrev pub absent : ℕ
absent = 0xFFFFFFFF

-- whether a corner has a field: "position, and, where attributes and the face's shading ask, normal, diffuse, specular, each texture layer"
unfoldable pub present : CornerForm → ℕ → Bool
present form zero = true
present form (suc zero) = eqb (form.mesh_attributes % 2) 0
present form (suc (suc zero)) = eqb (form.shading_attributes % 2) 1
present form (suc (suc (suc zero))) = eqb (form.shading_attributes / 2 % 2) 1
present form (suc (suc (suc (suc layer)))) = ltb layer form.layer_count

-- the base count that a field's number is below. The counts are those of faces, positions, normals, diffuse colors, specular colors and
-- texture coordinates; every layer has the last
unfoldable pub range_of : CornerForm → ℕ → ℕ
range_of form field = get_or form.counts (pick (ltb field 4) (field + 1) 5) 0

-- "each in the static range of its own base count"
abbrev pub field_context : CornerForm → ℕ → Context
field_context form field = static (range_of form field)

-- "a shading id in dynamic context cShading", the only one of a base mesh
abbrev pub shading_context : Context
shading_context = dynamic 0

-- what stands past the end of a list of shadings, which no face reaches
abbrev pub past_last : Shading
past_last = record { attributes = 0; layer_count = 0; dimensions = []; original_id = 0 }

-- what a face of that shading asks of its corners
abbrev pub form_of : Declaration → List ℕ → ℕ → CornerForm
form_of declaration counts id =
    let shading = get_or declaration.shadings id past_last in
    record {
      mesh_attributes = declaration.attributes;
      shading_attributes = shading.attributes;
      layer_count = shading.layer_count;
      counts = counts;
    }
