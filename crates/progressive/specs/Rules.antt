-- Which steps are allowed (01: answer 14): "With r positions present, up is allowed (14) when split s < r; each move names a face below the
-- present face count whose corner holds s, no pair twice; each new face has shading below the shading count and its positions are r, s and
-- some t < r, t not s, in any order."
use Rattle.std.specs.Prelude.{ℕ, ◌+◌, ◌*◌, Bool, false, not, ◌&&◌, List, ◌==◌, nat_lt, slice_index}
use Rattle.fields.specs.All.{all}
use Rattle.fields.specs.Judged.{pick}
use Rattle.mesh.specs.Corners.{corner_fields, face_words}
use Rattle.progressive.specs.Indexed.{shows, always}
use Rattle.progressive.specs.StepTable.{split_of, move_count, new_face_count, move_face, move_corner, new_face_at}
use Rattle.progressive.specs.Mesh.{Mesh}

-- "some t < r, t not s"
unfoldable pub other_position : ℕ → ℕ → ℕ → Bool
other_position r s p = nat_lt p r && not (p == s)

-- a and b are, in either order, s and another
unfoldable pub split_and_other : ℕ → ℕ → ℕ → ℕ → Bool
split_and_other r s a b = pick (a == s) (other_position r s b) (pick (b == s) (other_position r s a) false)

-- the three positions are, in any order, r, s and another
unfoldable pub split_triangle : ℕ → ℕ → ℕ → ℕ → ℕ → Bool
split_triangle r s a b c =
    pick (a == r) (split_and_other r s b c) (pick (b == r) (split_and_other r s a c) (pick (c == r) (split_and_other r s a b) false))

-- moves i and j name different corners
unfoldable pub other_corner : List ℕ → ℕ → ℕ → ℕ → Bool
other_corner t o i j = not (move_face t o i == move_face t o j && move_corner t o i == move_corner t o j)

-- move i names a face below f, and no earlier move names the same corner
unfoldable pub move_numbers : List ℕ → ℕ → ℕ → ℕ → Bool
move_numbers t o f i = nat_lt (move_face t o i) f && all (other_corner t o i) i

-- the face described at `at` has a shading below the count, and its positions are r, s and another
unfoldable pub new_face_allowed : List ℕ → ℕ → ℕ → ℕ → ℕ → Bool
new_face_allowed t at shadings r s =
    nat_lt (slice_index t at) shadings && split_triangle r s (slice_index t (at + 1)) (slice_index t (at + 2)) (slice_index t (at + 3))

abbrev pub new_face_numbers : List ℕ → ℕ → ℕ → ℕ → ℕ → Bool
new_face_numbers t o shadings r j = new_face_allowed t (new_face_at t o j) shadings r (split_of t o)

-- the number rules of the step at offset o, with f faces and r positions present
unfoldable pub numbers_allowed : List ℕ → ℕ → ℕ → ℕ → ℕ → Bool
numbers_allowed t o shadings f r =
    nat_lt (split_of t o) r
    && all (move_numbers t o f) (move_count t o)
    && all (new_face_numbers t o shadings r) (new_face_count t o)

-- the index, in the faces table, of the position in the corner that move i names
unfoldable pub corner_index : List ℕ → ℕ → ℕ → ℕ
corner_index t o i = face_words * move_face t o i + 1 + corner_fields * move_corner t o i

-- the whole of 14 for a step up: also each moved corner holds s
unfoldable pub allowed_on : List ℕ → ℕ → ℕ → List ℕ → ℕ → ℕ → Bool
allowed_on t o shadings faces f r =
    numbers_allowed t o shadings f r && shows (corner_index t o) (always (split_of t o)) faces (move_count t o)

abbrev pub allowed : List ℕ → ℕ → ℕ → Mesh → Bool
allowed t o shadings m = allowed_on t o shadings m.faces m.face_count m.position_count
