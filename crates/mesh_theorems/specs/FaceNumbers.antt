-- The numbers that code the faces (clause 9.6.1.2.4.6, Base Face): what a writer is to write.
use Rattle.std.specs.Prelude.{ℕ, zero, suc, List, [], ◌∷◌, ◌++◌, map, drop, get_or, replicate, take}
use Rattle.fields.specs.Judged.{pick}
use Rattle.coder.specs.Histogram.{fresh_histogram}
use Rattle.coder_theorems.specs.Runs.{Held, Number, after_steps, begun, dynamic, end_call, put, static}
use Rattle.coder_theorems.specs.Enough.{enough}
use Rattle.mesh.specs.Corners.{face_words}
use Rattle.mesh.specs.Base.{Mesh}
use Rattle.mesh.specs.declared.declaration.Declaration.{Declaration}
use Rattle.mesh_theorems.specs.CornerInfo.{Index, face_indices}

-- "U32 [cShading]: Shading ID"; no other dynamic context is used
abbrev pub shading_number : ℕ → Number
shading_number id = record { context = dynamic 0; value = id }

-- "U32 [rBasePositionCount]" and so on: an index in the static range of its count
abbrev pub index_number : ℕ → ℕ → Number
index_number count w = record { context = static count; value = w }

-- of these words, those whose index is present
unfoldable pub index_numbers : List Index → List ℕ → List Number
index_numbers [] ws = []
index_numbers (i ∷ is) [] = []
index_numbers (i ∷ is) (w ∷ ws) = pick i.present (index_number i.count w ∷ []) [] ++ index_numbers is ws

-- a face's record
unfoldable pub face_numbers : Declaration → List ℕ → List ℕ → List Number
face_numbers declaration counts [] = []
face_numbers declaration counts (shading ∷ corners) = shading_number shading ∷ index_numbers (face_indices declaration counts shading) corners

-- so many face records
unfoldable pub faces_numbers : Declaration → List ℕ → ℕ → List ℕ → List Number
faces_numbers declaration counts zero words = []
faces_numbers declaration counts (suc left) words =
    face_numbers declaration counts (take face_words words) ++ faces_numbers declaration counts left (drop face_words words)

-- the numbers of a mesh's faces
abbrev pub numbers_of : Mesh → List Number
numbers_of m = faces_numbers m.declaration m.counts (get_or m.counts 0 0) m.faces

-- a caller begins with a fresh writer and a fresh context for the shading ids
abbrev pub fresh_faces : List ℕ → Held
fresh_faces buffer = begun buffer (fresh_histogram ∷ [])

-- faces that are written one number after the other in a buffer that is long enough, and ended
unfoldable pub coded_faces : Mesh → List ℕ
coded_faces m =
    let ended = end_call (after_steps (fresh_faces (replicate (enough (numbers_of m)) 0)) (map put (numbers_of m))) in
    take ended.used ended.bytes
