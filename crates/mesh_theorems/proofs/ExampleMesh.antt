-- A mesh that meets the assumptions of the theorems on meshes that are read back, computed: one triangle with a diffuse color at each corner and one
-- texture layer, without normals.
use Prim.Native.Nat.{ℕ, ◌-◌}
use mathlib.Core.Bool.{Bool, true, ◌&&◌}
use mathlib.Core.List.{List, [], ◌∷◌, ◌++◌}
use mathlib.Core.Path.{◌≡◌, refl}
use native.Mathlib.Omega.{arith}
use borrow.Author.Tests.{leb-true}
use lib.Dec.{leb}
use lib.ListN.{get_or, replicate}
use native.Mathlib.Nat.{le_refl}
use Rattle.coder.proofs.Tests.{and_both}
use Rattle.fields.specs.Limits.{any_number, largest_count}
use Rattle.mesh.specs.Run.{filled}
use Rattle.mesh.specs.Shading.{layer_limit, no_shading, shading_limit}
use Rattle.mesh.specs.Base.{Mesh, Tables, answered, counts_of, lengths_of, mesh_of, read, tables, tables_after}
use Rattle.mesh.specs.Corners.{absent, face_words}
use Rattle.mesh.specs.declared.declaration.Declaration.{Declaration}
use Rattle.mesh.specs.declared.shading.Shading.{Shading}
use Rattle.mesh_theorems.specs.Below.{FaceBelow, FacesBelow, IndicesBelow}
use Rattle.mesh_theorems.specs.CornerInfo.{corner_indices, face_indices, layer_indices}
use Rattle.mesh_theorems.specs.Encoding.{All, Stated, UpTo, base_bytes, declaration_bytes}
use Rattle.mesh_theorems.specs.FaceNumbers.{coded_faces}
use Rattle.mesh_theorems.proofs.Written.{mesh_written}

abbrev name : List ℕ
name = 0x74 ∷ []

abbrev shading : Shading
shading = record { attributes = 1; layer_count = 1; dimensions = 2 ∷ replicate (layer_limit - 1) 0; original_id = 0 }

abbrev declaration : Declaration
declaration = record {
  name_size = 1;
  chain_index = 0;
  attributes = 1;
  counts = 1 ∷ 3 ∷ 0 ∷ 2 ∷ 0 ∷ 3 ∷ [];
  shading_count = 1;
  shadings = filled shading_limit no_shading (shading ∷ []);
  minimum_resolution = 3;
  maximum_resolution = 3;
  quality_factors = 1000 ∷ 1000 ∷ 1000 ∷ [];
  inverse_quants = replicate 5 0x3f800000;
  normal_parameters = replicate 3 0x3f800000;
  bone_count = 0;
}

abbrev corner : ℕ → ℕ → ℕ → List ℕ
corner position diffuse texture = position ∷ absent ∷ diffuse ∷ absent ∷ texture ∷ replicate (layer_limit - 1) absent

abbrev triangle : Mesh
triangle = record {
  declaration = declaration;
  counts = 1 ∷ 3 ∷ 0 ∷ 2 ∷ 0 ∷ 3 ∷ [];
  pools = replicate 9 0x3f800000 ∷ [] ∷ replicate 8 0 ∷ [] ∷ replicate 12 0 ∷ [];
  faces = 0 ∷ (corner 0 1 2 ++ (corner 1 0 1 ++ corner 2 1 0));
}

triangle_below : FacesBelow declaration triangle.counts 1 triangle.faces
unfolding FacesBelow FaceBelow IndicesBelow face_indices corner_indices layer_indices
triangle_below = (
  (
    omega arith,
    (
      omega arith,
      (
        refl,
        (
          omega arith,
          (
            refl,
            (
              omega arith,
              (
                refl,
                (
                  omega arith,
                  (
                    refl,
                    (
                      omega arith,
                      (
                        refl,
                        (
                          omega arith,
                          (
                            refl,
                            (omega arith, (refl, (omega arith, (refl, (omega arith, (refl, tt)))))),
                          ),
                        ),
                      ),
                    ),
                  ),
                ),
              ),
            ),
          ),
        ),
      ),
    ),
  ),
  refl,
)

-- numbers at most so large, by a computed test
abbrev are_up_to : ℕ → List ℕ → Bool
are_up_to most [] = true
are_up_to most (v ∷ vs) = leb v most && are_up_to most vs

up_to : (most : ℕ) (vs : List ℕ) → are_up_to most vs ≡ true → All (UpTo most) vs
unfolding All
up_to most [] e = tt
up_to most (v ∷ vs) e = let a = and_both (leb v most) _ e in (leb-true _ _ a.0, up_to most vs a.1)

triangle_stated : Stated name triangle
unfolding All
triangle_stated = record {
  declared = record {
    short = omega arith;
    named = refl;
    chained = refl;
    flags = omega arith;
    six = refl;
    small = up_to largest_count declaration.counts refl;
    few = omega arith;
    listed = record { many = refl; rest = refl };
    shaded = (record { flags = omega arith; few = omega arith; layers = record { many = refl; rest = refl }; dimensions = (omega arith, tt); original = omega arith }, tt);
    minimum = omega arith;
    maximum = omega arith;
    qualities = record { many = refl; small = up_to any_number declaration.quality_factors refl };
    quants = record { many = refl; small = up_to any_number declaration.inverse_quants refl };
    parameters = record { many = refl; small = up_to any_number declaration.normal_parameters refl };
    boneless = refl;
  };
  six = refl;
  small = up_to largest_count triangle.counts refl;
  below = λ i h. le_refl (get_or triangle.counts i 0);
  positions = refl;
  pooled = refl;
  words = (up_to any_number (replicate 9 0x3f800000) refl, (tt, (up_to any_number (replicate 8 0) refl, (tt, (up_to any_number (replicate 12 0) refl, tt)))));
}

-- so it is read back into tables that just hold it
abbrev tables_for : Tables
tables_for = tables (replicate face_words 7) (replicate 9 7) [] (replicate 8 7) [] (replicate 12 7)

triangle_read : (let j = mesh_of (declaration_bytes name declaration) (base_bytes name triangle (coded_faces triangle)) (lengths_of tables_for) in
    (answered j ≡ read (counts_of triangle)) × (tables_after j tables_for ≡ tables_after (read triangle) tables_for))
triangle_read = mesh_written name triangle tables_for triangle_stated triangle_below refl
