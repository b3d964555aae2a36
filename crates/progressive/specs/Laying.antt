-- What a step writes (01: "Up writes position r, changes the moved corners to r, appends new faces (other corner fields 0xFFFFFFFF)"), what
-- the tables must show before it (18), and how it is taken off ("it restores s and writes zeros").
use Rattle.std.specs.Prelude.{ℕ, ◌+◌, ◌*◌, ◌/◌, ◌%◌, Bool, ◌&&◌, List, ◌==◌, slice_index}
use Rattle.fields.specs.Judged.{pick}
use Rattle.mesh.specs.Corners.{absent, corner_fields, face_words}
use Rattle.mesh.specs.Base.{position_words}
use Rattle.progressive.specs.Indexed.{writes, shows, always, from}
use Rattle.progressive.specs.StepTable.{split_of, coordinate, move_count, new_face_count, new_face_at}
use Rattle.progressive.specs.Mesh.{Mesh}
use Rattle.progressive.specs.Rules.{corner_index}

-- ---- up

-- number q of the record of the new face that is described at `at`: its shading, a position in each corner, all else absent
unfoldable pub new_face_field : List ℕ → ℕ → ℕ → ℕ
new_face_field t at q =
    pick (q == 0) (slice_index t at)
    (pick (q == 1) (slice_index t (at + 1))
    (pick (q == 1 + corner_fields) (slice_index t (at + 2))
    (pick (q == 1 + 2 * corner_fields) (slice_index t (at + 3)) absent)))

-- number i of the new faces' records, one after the other
unfoldable pub new_face_number : List ℕ → ℕ → ℕ → ℕ
new_face_number t o i = new_face_field t (new_face_at t o (i / face_words)) (i % face_words)

-- the tables with the step at offset o laid on f faces and r positions
unfoldable pub laid_faces : List ℕ → ℕ → List ℕ → ℕ → ℕ → List ℕ
laid_faces t o faces f r =
    writes (from (face_words * f)) (new_face_number t o)
    (writes (corner_index t o) (always r) faces (move_count t o))
    (face_words * new_face_count t o)

unfoldable pub laid_positions : List ℕ → ℕ → List ℕ → ℕ → List ℕ
laid_positions t o positions r = writes (from (position_words * r)) (coordinate t o) positions position_words

-- the mesh with the step at offset o laid on it
unfoldable pub laid : List ℕ → ℕ → Mesh → Mesh
laid t o m = record {
  faces = laid_faces t o m.faces m.face_count m.position_count;
  positions = laid_positions t o m.positions m.position_count;
  face_count = m.face_count + new_face_count t o;
  position_count = m.position_count + 1;
}

-- "It needs zeros where it writes new records": n faces after f, a position after r
unfoldable pub clear_after : List ℕ → List ℕ → ℕ → ℕ → ℕ → Bool
clear_after faces positions n f r =
    shows (from (face_words * f)) (always 0) faces (face_words * n) && shows (from (position_words * r)) (always 0) positions position_words

abbrev pub room_clear : List ℕ → ℕ → Mesh → Bool
room_clear t o m = clear_after m.faces m.positions (new_face_count t o) m.face_count m.position_count

-- ---- down, to f faces and r positions

-- "the tables must show all that up wrote"
unfoldable pub shows_step : List ℕ → ℕ → List ℕ → List ℕ → ℕ → ℕ → Bool
shows_step t o faces positions f r =
    shows (corner_index t o) (always r) faces (move_count t o)
    && shows (from (face_words * f)) (new_face_number t o) faces (face_words * new_face_count t o)
    && shows (from (position_words * r)) (coordinate t o) positions position_words

abbrev pub shows_laid : List ℕ → ℕ → ℕ → ℕ → Mesh → Bool
shows_laid t o f r m = shows_step t o m.faces m.positions f r

-- the tables with the step at offset o taken off: zeros for the new records, s back in the moved corners
unfoldable pub undone_faces : List ℕ → ℕ → List ℕ → ℕ → List ℕ
undone_faces t o faces f =
    writes (corner_index t o) (always (split_of t o))
    (writes (from (face_words * f)) (always 0) faces (face_words * new_face_count t o))
    (move_count t o)

unfoldable pub undone_positions : List ℕ → ℕ → List ℕ
undone_positions positions r = writes (from (position_words * r)) (always 0) positions position_words

unfoldable pub undone : List ℕ → ℕ → ℕ → ℕ → Mesh → Mesh
undone t o f r m = record {
  faces = undone_faces t o m.faces f;
  positions = undone_positions m.positions r;
  face_count = f;
  position_count = r;
}
