-- What the exported mesh reader hands back: 01's number, the six tables, and in the result place, part and counts.
use Rattle.std.specs.Prelude.{ℕ, List, [], ◌∷◌, ltb, length}
use Rattle.fields.specs.Numbers.{no_room}
use Rattle.fields.specs.Judged.{pick}
use Rattle.mesh.specs.Base.{InPart, Mesh, Tables, counts_of, lengths_of, mesh_of, read, refused_in}
use Rattle.mesh.specs.declared.base.MeshCounts.{MeshCounts}
use Rattle.mesh.specs.declared.base.Part.{Part}
use Rattle.mesh.specs.declared.base.Part as part
use Rattle.oysterfold.specs.Result.{result_for}

-- place, part and seven counts
abbrev pub result_words : ℕ
result_words = 9

-- "part that it counts from (0 declaration, 1 continuation)"
abbrev pub part_number : Part → ℕ
part_number part.TheVariants.Declaration = 0
part_number part.TheVariants.Continuation = 1

abbrev pub no_counts : MeshCounts
no_counts = record { faces = 0; positions = 0; normals = 0; diffuse = 0; specular = 0; texture = 0; shadings = 0 }

abbrev pub count_words : ℕ → ℕ → MeshCounts → List ℕ
count_words place p c =
    place ∷ p ∷ c.faces ∷ c.positions ∷ c.normals ∷ c.diffuse ∷ c.specular ∷ c.texture ∷ c.shadings ∷ []

-- the mesh, for a caller whose result may be too short (12, before all else)
unfoldable pub mesh_into : List ℕ → List ℕ → Tables → List ℕ → InPart Mesh
mesh_into d s t result = pick (ltb (length result) result_words) (refused_in part.TheVariants.Declaration no_room 0) (mesh_of d s (lengths_of t))

abbrev pub mesh_words : InPart Mesh → List ℕ
mesh_words (read m) = count_words 0 0 (counts_of m)
mesh_words (refused_in p n place) = count_words place (part_number p) no_counts

-- a result too short for them stays as it was
unfoldable pub mesh_result : InPart Mesh → List ℕ → List ℕ
mesh_result j result = result_for result_words (mesh_words j) result
