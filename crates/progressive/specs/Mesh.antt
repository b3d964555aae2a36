-- A mesh at some level of detail: the caller's tables of faces and positions, and the present counts.
use Rattle.std.specs.Prelude.{ℕ, ◌*◌, Bool, ◌&&◌, List, length, nat_le}
use Rattle.fields.specs.Limits.{largest_count}
use Rattle.mesh.specs.Corners.{face_words}
use Rattle.mesh.specs.Base.{position_words}
use Rattle.progressive.specs.declared.counts.Counts.{Counts}

pub record Mesh : Type 0 where
  pub faces : List ℕ
  pub positions : List ℕ
  pub face_count : ℕ
  pub position_count : ℕ

abbrev pub mesh_of : List ℕ → List ℕ → Counts → Mesh
mesh_of faces positions counts = record { faces = faces; positions = positions; face_count = counts.faces; position_count = counts.positions }

-- tables of these lengths hold f faces and p positions, and neither count passes 65,536
unfoldable pub fits : ℕ → ℕ → ℕ → ℕ → Bool
fits face_room position_room f p =
    nat_le f largest_count && nat_le p largest_count && nat_le (face_words * f) face_room && nat_le (position_words * p) position_room

-- the mesh's tables hold these counts
abbrev pub room_for : Mesh → ℕ → ℕ → Bool
room_for m f p = fits (length m.faces) (length m.positions) f p
