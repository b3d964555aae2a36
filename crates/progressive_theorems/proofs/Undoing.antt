-- One step that is allowed and fits, laid on a mesh with clear room: the tables then show it, the room past it is clear, and taking it off gives
-- the mesh back, number for number, since stores at distinct places are undone by storing what stood there.
use mathlib.Core.Path.{◌≡◌, ap, ◌∙◌}
use mathlib.Core.Bool.{true}
use mathlib.Core.List.{List}
use Prim.Native.Nat.{ℕ, ◌+◌, ◌*◌, ◌<◌, ◌≤◌}
use native.Mathlib.Omega.{arith}
use borrow.Author.Tests.{eq-eqb}
use lib.ListN.{length, get_or}
use Rattle.fields.specs.All.{all}
use Rattle.fields.proofs.All.{all_true}
use Rattle.mesh.specs.Corners.{face_words}
use Rattle.mesh.specs.Base.{position_words}
use Rattle.progressive.specs.Indexed.{always, from, shows, writes}
use Rattle.progressive.specs.StepTable.{coordinate, move_count, new_face_count, split_of, step_formed}
use Rattle.progressive.specs.Mesh.{Mesh, room_for}
use Rattle.progressive.specs.Rules.{allowed, allowed_on, corner_index, move_numbers, numbers_allowed}
use Rattle.progressive.specs.Laying.{clear_after, laid, laid_faces, laid_positions, new_face_number, room_clear, shows_laid, shows_step, undone, undone_faces, undone_positions}
use Rattle.progressive.proofs.Indexed.{Apart, Distinct, and_left, and_right, get_d_apart, get_d_writes, length_writes, shows-writes, writes_back}
use Rattle.progressive.proofs.Rooms.{fitting}
use Rattle.progressive.proofs.Corners.{corner_below, corners_distinct}

-- every number of the list from n on is 0
abbrev pub ClearFrom : ℕ → List ℕ → Type 0
ClearFrom n l = (i : ℕ) → n ≤ i → get_or l i 0 ≡ 0

-- the counts fit the tables, and all room past them is 0
pub record Ready (m : Mesh) : Type 0 where
  pub room : room_for m m.face_count m.position_count ≡ true
  pub faces_clear : ClearFrom (face_words * m.face_count) m.faces
  pub positions_clear : ClearFrom (position_words * m.position_count) m.positions

pub from_distinct : (a n : ℕ) → Distinct (from a) n
from_distinct a n i j h b = omega arith

-- clear room shows zeros wherever it is read
clear_shown : (a n : ℕ) (l : List ℕ) → ClearFrom a l → shows (from a) (always 0) l n ≡ true
clear_shown a n l clear = all_true _ n (λ i b. eq-eqb _ _ (clear (from a i) (omega arith)))

pub room_clear_lem : (m : Mesh) (ready : Ready m) (t : List ℕ) (o : ℕ) → room_clear t o m ≡ true
unfolding clear_after
room_clear_lem m ready t o =
    rw (
      clear_shown (face_words * m.face_count) (face_words * new_face_count t o) m.faces ready.faces_clear,
      clear_shown (position_words * m.position_count) position_words m.positions ready.positions_clear,
    )

-- the step laid on the mesh: what `laid` needs, gathered
module _ (t : List ℕ) (o shadings : ℕ) (m : Mesh) (formed : step_formed t o ≡ true) (ready : Ready m) (ok : allowed t o shadings m ≡ true)
    (room : room_for m (m.face_count + new_face_count t o) (m.position_count + 1) ≡ true) where
  abbrev f : ℕ
  f = m.face_count

  abbrev r : ℕ
  r = m.position_count

  abbrev n : ℕ
  n = face_words * new_face_count t o

  abbrev moved : List ℕ
  moved = writes (corner_index t o) (always r) m.faces (move_count t o)

  pub numbers : numbers_allowed t o shadings f r ≡ true
  unfolding allowed_on
  numbers = search and_left

  moves : all (move_numbers t o f) (move_count t o) ≡ true
  unfolding numbers_allowed
  moves = let e = numbers in search (and_left, and_right)

  held : shows (corner_index t o) (always (split_of t o)) m.faces (move_count t o) ≡ true
  unfolding allowed_on
  held = search (and_left, and_right)

  corner_apart : (i : ℕ) → i < move_count t o → Apart (from (face_words * f)) n (corner_index t o i)
  corner_apart i b j _ e = omega (arith, corner_below t o f formed moves i b)

  moved_clear : ClearFrom (face_words * f) moved
  moved_clear i h =
      get_d_apart (corner_index t o) (always r) m.faces (move_count t o) i (λ j b e. omega (arith, corner_below t o f formed moves j b))
      ∙ ready.faces_clear i h

  faces_undone : (undone t o f r (laid t o m)).faces ≡ m.faces
  unfolding laid laid_faces laid_positions undone undone_faces undone_positions
  faces_undone =
      ap (λ (l : List ℕ). writes (corner_index t o) (always (split_of t o)) l (move_count t o))
      (writes_back (from (face_words * f)) (always 0) (new_face_number t o) moved n (from_distinct (face_words * f) n)
      (clear_shown (face_words * f) n moved moved_clear))
      ∙ writes_back (corner_index t o) (always (split_of t o)) (always r) m.faces (move_count t o) (corners_distinct t o f formed moves) held

  positions_undone : (undone t o f r (laid t o m)).positions ≡ m.positions
  unfolding laid laid_faces laid_positions undone undone_faces undone_positions
  positions_undone =
      writes_back (from (position_words * r)) (always 0) (coordinate t o) m.positions position_words (from_distinct (position_words * r) position_words)
      (clear_shown (position_words * r) position_words m.positions ready.positions_clear)

  pub laid-undone : undone t o f r (laid t o m) ≡ m
  unfolding laid laid_faces laid_positions undone undone_faces undone_positions
  laid-undone = λ i. record { faces = faces_undone i; positions = positions_undone i; face_count = f; position_count = r }

  face_bound : face_words * (f + new_face_count t o) ≤ length m.faces
  face_bound = (fitting _ _ _ _ room).face_room

  position_bound : position_words * (r + 1) ≤ length m.positions
  position_bound = (fitting _ _ _ _ room).position_room

  corners_shown : shows (corner_index t o) (always r) (laid t o m).faces (move_count t o) ≡ true
  unfolding laid laid_faces laid_positions
  corners_shown =
      all_true _ (move_count t o) (λ i b.
      eq-eqb _ _
      (get_d_apart (from (face_words * f)) (new_face_number t o) moved n (corner_index t o i) (corner_apart i b)
      ∙ get_d_writes (corner_index t o) (always r) m.faces (move_count t o) i (corners_distinct t o f formed moves) b
      (omega (arith, corner_below t o f formed moves i b, face_bound))))

  records_shown : shows (from (face_words * f)) (new_face_number t o) (laid t o m).faces n ≡ true
  unfolding laid laid_faces laid_positions
  records_shown =
      shows-writes (from (face_words * f)) (new_face_number t o) moved n (from_distinct (face_words * f) n) (λ i b.
      omega (arith, face_bound, length_writes (corner_index t o) (always r) m.faces (move_count t o)))

  coordinates_shown : shows (from (position_words * r)) (coordinate t o) (laid t o m).positions position_words ≡ true
  unfolding laid laid_faces laid_positions
  coordinates_shown =
      shows-writes (from (position_words * r)) (coordinate t o) m.positions position_words (from_distinct (position_words * r) position_words) (λ i b.
      omega (arith, position_bound))

  pub laid_shown : shows_laid t o f r (laid t o m) ≡ true
  unfolding shows_step
  laid_shown = rw (corners_shown, records_shown, coordinates_shown)

  pub laid_ready : Ready (laid t o m)
  unfolding laid laid_faces laid_positions
  laid_ready = record {
    room = simp length_writes room;
    faces_clear = λ i h.
        get_d_apart (from (face_words * f)) (new_face_number t o) moved n i (λ j b e. omega arith) ∙ moved_clear i (omega arith);
    positions_clear = λ i h.
        get_d_apart (from (position_words * r)) (coordinate t o) m.positions position_words i (λ j b e. omega arith)
        ∙ ready.positions_clear i (omega arith);
  }
