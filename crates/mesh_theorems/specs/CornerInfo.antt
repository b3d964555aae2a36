-- The indices of a face's corners, written from clause 9.6.1.2.4.6.2 (Base Corner Info) and by none of the reader's own definitions: the theorems
-- say that the reader reads just these.
use Rattle.std.specs.Prelude.{ℕ, zero, suc, ◌/◌, ◌%◌, Bool, true, false, List, [], ◌∷◌, ◌++◌, eqb, get_or}
use Rattle.mesh.specs.Shading.{layer_limit, no_shading}
use Rattle.mesh.specs.declared.shading.Shading.{Shading}
use Rattle.mesh.specs.declared.declaration.Declaration.{Declaration}

-- an index: whether it is present, and the count that it "must be less than"
pub record Index : Type 0 where
  pub present : Bool
  pub count : ℕ

abbrev pub index : Bool → ℕ → Index
index present count = record { present = present; count = count }

-- "Texture Layer Count .. determines the number of times Base Texture Coord Index is repeated at this corner"; a record has room for all layers
unfoldable pub layer_indices : ℕ → ℕ → ℕ → List Index
layer_indices zero layers count = []
layer_indices (suc room) zero count = index false count ∷ layer_indices room zero count
layer_indices (suc room) (suc layers) count = index true count ∷ layer_indices room layers count

-- the indices of a corner under these base counts: of faces, positions, normals, diffuse colors, specular colors, texture coordinates
unfoldable pub corner_indices : Declaration → List ℕ → Shading → List Index
corner_indices declaration counts shading =
    index true (count 1) ∷
    -- "Base Normal Index is not present if 9.6.1.1.3.1 Mesh Attributes .. indicates Exclude Normals": 0x00000001
    index (eqb (declaration.attributes % 2) 0) (count 2) ∷
    -- "Base Diffuse Color Index is present only if .. diffuse colors are used": 0x00000001 of the shading's attributes
    index (eqb (shading.attributes % 2) 1) (count 3) ∷
    -- "Base Specular Color Index is present only if .. specular colors are used": 0x00000002
    index (eqb (shading.attributes / 2 % 2) 1) (count 4) ∷
    layer_indices layer_limit shading.layer_count (count 5)
  where
    count : ℕ → ℕ
    count i = get_or counts i 0

-- those of a face of that shading: three corners
unfoldable pub face_indices : Declaration → List ℕ → ℕ → List Index
face_indices declaration counts id =
    let corner = corner_indices declaration counts (get_or declaration.shadings id no_shading) in
    corner ++ (corner ++ corner)
