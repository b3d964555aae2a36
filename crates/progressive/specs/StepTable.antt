-- The step table of a progressive mesh (01: the climb list "read into a table of U32: base positions, base faces, step count, then per step:
-- split, x, y, z, m, n, m pairs, n fours, and nothing after"). A step is named by its offset in the table.
use Rattle.std.specs.Prelude.{ℕ, zero, suc, ◌+◌, ◌*◌, Bool, ◌&&◌, List, length, ◌==◌, nat_le, slice_index}
use Rattle.fields.specs.All.{all}
use Rattle.fields.specs.Limits.{largest_count, most_steps, most_moves, most_new_faces}

-- the words before the first step; those of a step before its moves; those of a move, and of a new face
abbrev pub head_words : ℕ
head_words = 3

abbrev pub step_words : ℕ
step_words = 6

abbrev pub move_words : ℕ
move_words = 2

abbrev pub new_face_words : ℕ
new_face_words = 4

abbrev pub base_positions : List ℕ → ℕ
base_positions t = slice_index t 0

abbrev pub base_faces : List ℕ → ℕ
base_faces t = slice_index t 1

abbrev pub step_count : List ℕ → ℕ
step_count t = slice_index t 2

-- the parts of the step at offset o: the split position, x, y and z, how many moves and new faces
abbrev pub split_of : List ℕ → ℕ → ℕ
split_of t o = slice_index t o

abbrev pub coordinate : List ℕ → ℕ → ℕ → ℕ
coordinate t o i = slice_index t (o + 1 + i)

abbrev pub move_count : List ℕ → ℕ → ℕ
move_count t o = slice_index t (o + 4)

abbrev pub new_face_count : List ℕ → ℕ → ℕ
new_face_count t o = slice_index t (o + 5)

-- move i: its face, and the corner of it
abbrev pub move_face : List ℕ → ℕ → ℕ → ℕ
move_face t o i = slice_index t (o + step_words + move_words * i)

abbrev pub move_corner : List ℕ → ℕ → ℕ → ℕ
move_corner t o i = slice_index t (o + step_words + 1 + move_words * i)

-- where new face j is described: its shading, then its positions
abbrev pub new_face_at : List ℕ → ℕ → ℕ → ℕ
new_face_at t o j = o + step_words + move_words * move_count t o + new_face_words * j

abbrev pub next_step : List ℕ → ℕ → ℕ
next_step t o = new_face_at t o (new_face_count t o)

-- the offset of step k, and the number of faces before it is taken
unfoldable pub step_offset : List ℕ → ℕ → ℕ
step_offset t zero = head_words
step_offset t (suc k) = next_step t (step_offset t k)

unfoldable pub faces_before : List ℕ → ℕ → ℕ
faces_before t zero = base_faces t
faces_before t (suc k) = faces_before t k + new_face_count t (step_offset t k)

-- ---- "Form for 13: the limits above kept (base counts to 65,536), corners 0 to 2, every number below 2^32" (a U32 is)

-- move i names a corner of a triangle
abbrev pub corner_formed : List ℕ → ℕ → ℕ → Bool
corner_formed t o i = nat_le (move_corner t o i) 2

-- the step at offset o lies within the table and keeps the limits
unfoldable pub step_formed : List ℕ → ℕ → Bool
step_formed t o =
    nat_le (o + step_words) (length t)
    && nat_le (move_count t o) most_moves
    && nat_le (new_face_count t o) most_new_faces
    && nat_le (next_step t o) (length t)
    && all (corner_formed t o) (move_count t o)

abbrev pub step_formed_at : List ℕ → ℕ → Bool
step_formed_at t k = step_formed t (step_offset t k)

-- the whole table has the form that answer 13 asks for
unfoldable pub well_formed : List ℕ → Bool
well_formed t =
    nat_le head_words (length t)
    && nat_le (base_positions t) largest_count
    && nat_le (base_faces t) largest_count
    && nat_le (step_count t) most_steps
    && all (step_formed_at t) (step_count t)
    && step_offset t (step_count t) == length t
