-- Face records whose numbers are within the mesh (01: "shading or corner number not below its count" is refused with 10, and "absent is
-- 0xFFFFFFFF").
use Rattle.std.specs.Prelude.{ℕ, zero, suc, ◌<◌, Bool, true, false, List, [], ◌∷◌, ◌≡◌, drop, take}
use Rattle.mesh.specs.Corners.{absent, face_words}
use Rattle.mesh.specs.declared.declaration.Declaration.{Declaration}
use Rattle.mesh_theorems.specs.CornerInfo.{Index, face_indices}

-- a number that is present is below its count; an absent one is 0xFFFFFFFF
abbrev pub IndexBelow : Bool → ℕ → ℕ → Type 0
IndexBelow true w count = w < count
IndexBelow false w count = w ≡ absent

-- a number for each index
unfoldable pub IndicesBelow : List Index → List ℕ → Type 0
IndicesBelow [] [] = Unit {0}
IndicesBelow [] (w ∷ ws) = ⊥
IndicesBelow (i ∷ is) [] = ⊥
IndicesBelow (i ∷ is) (w ∷ ws) = IndexBelow i.present w i.count × IndicesBelow is ws

-- "A face's record is 19 numbers: shading, then per corner six"; the shading says which of them are present
unfoldable pub FaceBelow : Declaration → List ℕ → List ℕ → Type 0
FaceBelow declaration counts [] = ⊥
FaceBelow declaration counts (shading ∷ corners) =
    (shading < declaration.shading_count) × IndicesBelow (face_indices declaration counts shading) corners

-- so many face records, and nothing after them
unfoldable pub FacesBelow : Declaration → List ℕ → ℕ → List ℕ → Type 0
FacesBelow declaration counts zero words = words ≡ []
FacesBelow declaration counts (suc left) words =
    FaceBelow declaration counts (take face_words words) × FacesBelow declaration counts left (drop face_words words)
