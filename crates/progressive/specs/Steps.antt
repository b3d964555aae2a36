-- One step up, a vertex split, and one step down (01: up and down), on the caller's tables and the present counts. "Order for both: 13, 15
-- .., 16, 12 .., 14, 18"; every place is 0.
use Rattle.std.specs.Prelude.{ℕ, ◌+◌, ◌-◌, Bool, not, ◌&&◌, List, ◌==◌, nat_le, Result, Ok, Err}
use Rattle.fields.specs.Numbers.{bad_steps, counts_disagree, no_step, no_room, not_allowed, bad_state, fault_number}
use Rattle.fields.specs.Judged.{Judged, done, refused, on_done, refused_if}
use Rattle.fields.specs.declared.refusal.Fault.{Fault}
use Rattle.progressive.specs.declared.counts.Counts.{Counts}
use Rattle.progressive.specs.StepTable.{base_positions, step_count, new_face_count, step_offset, faces_before, well_formed}
use Rattle.progressive.specs.Mesh.{Mesh, mesh_of, room_for}
use Rattle.progressive.specs.Rules.{allowed, numbers_allowed}
use Rattle.progressive.specs.Laying.{laid, room_clear, shows_laid, undone}

-- "Step k is the one at k = positions - base positions"
abbrev pub level : List ℕ → ℕ → ℕ
level t p = p - base_positions t

-- 15 unless f faces and p positions are the counts of some level: "positions below base, or faces unlike base plus new faces so far; too many
-- steps counts as 15"
unfoldable pub counts_agree : List ℕ → ℕ → ℕ → Bool
counts_agree t f p = nat_le (base_positions t) p && nat_le (level t p) (step_count t) && f == faces_before t (level t p)

-- the level of a mesh, by its counts
unfoldable pub level_of : List ℕ → ℕ → ℕ → Judged ℕ
level_of t f p =
    refused_if (not (well_formed t)) bad_steps 0
    (refused_if (not (counts_agree t f p)) counts_disagree 0
    (done (level t p)))

-- ---- up

-- the step at offset o: 12 ("counts before or after don't fit the tables or pass 65,536"), 14, 18
unfoldable pub refined_by : List ℕ → ℕ → ℕ → Mesh → Judged Mesh
refined_by t shadings o m =
    refused_if (not (room_for m m.face_count m.position_count && room_for m (m.face_count + new_face_count t o) (m.position_count + 1))) no_room 0
    (refused_if (not (allowed t o shadings m)) not_allowed 0
    (refused_if (not (room_clear t o m)) bad_state 0
    (done (laid t o m))))

unfoldable pub refined : List ℕ → ℕ → Mesh → Judged Mesh
refined t shadings m =
    on_done (level_of t m.face_count m.position_count) λ k.
    refused_if (k == step_count t) no_step 0
    (refined_by t shadings (step_offset t k) m)

-- ---- down: "takes the step before: its number rules are those at r-1 positions"

-- the step at offset o, to f faces and r positions
unfoldable pub coarsened_by : List ℕ → ℕ → ℕ → ℕ → ℕ → Mesh → Judged Mesh
coarsened_by t shadings o f r m =
    refused_if (not (room_for m m.face_count m.position_count && room_for m f r)) no_room 0
    (refused_if (not (numbers_allowed t o shadings f r)) not_allowed 0
    (refused_if (not (shows_laid t o f r m)) bad_state 0
    (done (undone t o f r m))))

unfoldable pub coarsened : List ℕ → ℕ → Mesh → Judged Mesh
coarsened t shadings m =
    on_done (level_of t m.face_count m.position_count) λ k.
    refused_if (k == 0) no_step 0
    (let o = step_offset t (k - 1) in
    coarsened_by t shadings o (m.face_count - new_face_count t o) (m.position_count - 1) m)

-- ---- the answer, and the mesh after the call

-- done, or refused with number and place; and the tables and counts then
pub data Reply : Type 0 where
  granted : Mesh → Reply
  denied : ℕ → ℕ → Mesh → Reply

-- 01's number of it
abbrev pub reply_number : Reply → ℕ
reply_number (granted m) = 0
reply_number (denied n p m) = n

-- "A refusal gives back number and place .., and the state that was handed in"
abbrev pub reply : Judged Mesh → Mesh → Reply
reply (done made) m = granted made
reply (refused n p) m = denied n p m

-- 01's number, place and counts of each case, beside what the tables then hold: a refusal, at place 0, gives back the counts that were
-- handed in
abbrev pub reply_of : Counts → Result Counts Fault → List ℕ → List ℕ → Reply
reply_of counts (Ok after) faces positions = granted (mesh_of faces positions after)
reply_of counts (Err fault) faces positions = denied (fault_number fault) 0 (mesh_of faces positions counts)
