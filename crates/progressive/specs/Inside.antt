-- Inside the crate: what its private functions require and promise. No public promise cites this file.
use Rattle.std.specs.Prelude.{◌≡◌, ℕ, ◌+◌, ◌-◌, ◌*◌, ◌<◌, ◌≤◌, Bool, true, false, List, [], ◌∷◌, length, replicate, ◌==◌, Result, Ok, Err}
use Rattle.fields.specs.All.{all}
use Rattle.fields.specs.Limits.{largest_count}
use Rattle.fields.specs.Judged.{Judged, done, refused, on_done, pick}
use Rattle.fields.specs.Numbers.{fault_number}
use Rattle.fields.specs.declared.refusal.Fault.{Fault}
use Rattle.fields.specs.declared.refusal.Fault.TheVariants as fault
use Rattle.mesh.specs.Corners.{face_words, absent, corner_fields}
use Rattle.progressive.specs.declared.counts.Counts.{Counts}
use Rattle.progressive.specs.declared.levels.Place.{Place}
use Rattle.progressive.specs.declared.levels.Walked.{Walked}
use Rattle.progressive.specs.declared.list.MarkedList.{MarkedList}
use Rattle.progressive.specs.declared.refine.Direction.{Direction}
use Rattle.progressive.specs.declared.refine.Direction.TheVariants as direction
use Rattle.progressive.specs.declared.requests.Progress.{Progress}
use Rattle.progressive.specs.StepTable.{move_count, new_face_count, faces_before, step_formed, step_offset, well_formed, step_words, move_words, move_face, move_corner}
use Rattle.progressive.specs.Indexed.{from, writes, shows}
use Rattle.progressive.specs.Rules.{move_numbers}
use Rattle.progressive.specs.Laying.{new_face_field, new_face_number}
use Rattle.progressive.specs.Mesh.{Mesh}
use Rattle.progressive.specs.Steps.{level_of}
use Rattle.progressive.specs.Requests.{Ask, ask_down, ask_over, ask_up}

-- the walk to level k
pub record Arrived (t : List ℕ) (k : ℕ) (w : Walked) : Type 0 where
  pub next_at : w.next ≡ step_offset t k
  pub last_at : w.last ≡ step_offset t (k - 1)
  pub count : w.faces ≡ faces_before t k

-- a level, the offset of its step up, and that of its step down
abbrev pub place_at : List ℕ → ℕ → Place
place_at t k = record { level = k; next = step_offset t k; last = step_offset t (k - 1) }

abbrev pub place_of : List ℕ → ℕ → ℕ → Judged Place
place_of t f p = on_done (level_of t f p) λ k. done (place_at t k)

-- what was judged of a list: its form, or 13
abbrev pub JudgedList : List ℕ → Result MarkedList Fault → Type 0
JudgedList t (Ok list) = (well_formed t ≡ true) × (list.steps.now ≡ t)
JudgedList t (Err f) = (well_formed t ≡ false) × (f ≡ fault.BadSteps)

-- every place is 0
abbrev pub judged_of : {A : Type 0} → Result A Fault → Judged A
judged_of (Ok a) = done a
judged_of (Err f) = refused (fault_number f) 0

-- a step that is granted makes the mesh
abbrev pub verdict_given : Result (Unit {0}) Fault → Mesh → Judged Mesh
verdict_given (Ok _) made = done made
verdict_given (Err f) made = refused (fault_number f) 0

-- a walk that ends with a refusal
abbrev pub refused_as : Fault → Progress → Progress
refused_as f p = record { number = fault_number f; granted = p.granted; counts = p.counts }

-- ---- the way of a step

abbrev pub direction_number : Direction → ℕ
direction_number direction.Up = 0
direction_number direction.Down = 1

abbrev pub ask_of : Direction → Ask
ask_of direction.Up = ask_up
ask_of direction.Down = ask_down

-- the direction that has this number; 9 where none has
abbrev pub NamesDirection : ℕ → Result Direction Fault → Type 0
NamesDirection n (Ok direction) = n ≡ direction_number direction
NamesDirection n (Err f) = (1 < n) × (f ≡ fault.OverLimit)

-- the asks of a wish of so many steps: each one way, or one that is refused with 9
abbrev pub Asked : List Ask → ℕ → Result Direction Fault → Type 0
Asked list count (Ok direction) = list ≡ replicate count (ask_of direction)
Asked list count (Err f) = (list ≡ ask_over ∷ []) × (f ≡ fault.OverLimit)

-- move i of the step at offset o stands in the table, and names this face and corner
pub record MoveNames (t : List ℕ) (o i face corner : ℕ) : Type 0 where
  pub within : o + step_words + move_words * (i + 1) ≤ length t
  pub face_is : face ≡ move_face t o i
  pub corner_is : corner ≡ move_corner t o i

-- what the writes to a faces table of this length need of the step at offset o, between f faces, r positions and what it adds
pub record FacesStep (t : List ℕ) (o face_room f r : ℕ) : Type 0 where
  pub formed : step_formed t o ≡ true
  pub moves : all (move_numbers t o f) (move_count t o) ≡ true
  pub room : face_words * (f + new_face_count t o) ≤ face_room
  pub few : r ≤ largest_count

-- the faces table with the record of the new face that is described at `at` from index i on
unfoldable pub with_record : List ℕ → ℕ → List ℕ → ℕ → List ℕ
with_record t at faces i = writes (from i) (new_face_field t at) faces face_words

-- the faces table with the records of n new faces of the step at offset o from index i on
abbrev pub with_records : List ℕ → ℕ → List ℕ → ℕ → ℕ → List ℕ
with_records t o faces i n = writes (from i) (new_face_number t o) faces (face_words * n)

-- the faces table shows the record of the new face that is described at `at` from index i on
unfoldable pub record_shown : List ℕ → ℕ → List ℕ → ℕ → Bool
record_shown t at faces i = shows (from i) (new_face_field t at) faces face_words

-- number q of a corner that has this position and nothing else
abbrev pub corner_field : ℕ → ℕ → ℕ
corner_field p q = pick (q == 0) p absent

-- the faces table shows such a corner from index i on
unfoldable pub corner_shown : List ℕ → ℕ → ℕ → Bool
corner_shown faces i p = shows (from i) (corner_field p) faces corner_fields

-- the step at offset o leads from the lower counts up to the higher ones
pub record StepBetween (t : List ℕ) (o : ℕ) (lower higher : Counts) : Type 0 where
  pub formed : step_formed t o ≡ true
  pub faces : higher.faces ≡ lower.faces + new_face_count t o
  pub positions : higher.positions ≡ lower.positions + 1
