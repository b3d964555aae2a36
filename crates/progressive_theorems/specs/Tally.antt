-- The tally (01, "Climbing"): "The tally of demand 3 knows only base mesh, shading count, climb list, table lengths and the calls."
use Rattle.std.specs.Prelude.{Bool, not, List, [], ◌∷◌, ℕ, zero, suc, ◌+◌, ◌-◌, eqb, get_or, length}
use Rattle.fields.specs.Numbers.{bad_steps, no_room, no_step, not_allowed}
use Rattle.fields.specs.Judged.{Judged, done, on_done, refused_if}
use Rattle.mesh.specs.Run.{filled}
use Rattle.mesh.specs.Base as base
use Rattle.progressive.specs.StepTable.{new_face_count, step_count, step_offset, well_formed}
use Rattle.progressive.specs.Mesh.{Mesh, fits}
use Rattle.progressive.specs.Rules.{allowed}
use Rattle.progressive.specs.Laying.{laid}
use Rattle.progressive.specs.Requests.{Ask, StepWalk, as_told, asks, walk_by}
use Rattle.progressive_theorems.specs.Calls.{Call, CallAnswer, asked, down, of_walk, step_answer, up, walk}

-- "Mesh 0 is the base mesh, all room past it 0", in tables of these lengths
abbrev pub mesh_zero : base.Mesh → List ℕ → Mesh
mesh_zero m lengths = record {
  faces = filled (get_or lengths 0 0) 0 m.faces;
  positions = filled (get_or lengths 1 0) 0 (get_or m.pools 0 []);
  face_count = get_or m.counts 0 0;
  position_count = get_or m.counts 1 0;
}

-- "mesh k+1 is mesh k with step k laid on it"
unfoldable pub mesh_at : List ℕ → Mesh → ℕ → Mesh
mesh_at t base zero = base
mesh_at t base (suc k) = laid t (step_offset t k) (mesh_at t base k)

-- the counts after step k fit the tables, whose lengths the base mesh has
unfoldable pub step_fits : List ℕ → Mesh → ℕ → Bool
step_fits t base k =
    let m = mesh_at t base k in
    fits (length base.faces) (length base.positions) (m.face_count + new_face_count t (step_offset t k)) (m.position_count + 1)

-- "Both first: 13 if the climb list isn't of the form above. Up: 16 if k is the step count; else 12 if the counts after step k don't fit the
-- tables or pass 65,536; else 14 if step k isn't allowed on mesh k; else 0, and k rises by 1."
unfoldable pub tally_up : List ℕ → ℕ → Mesh → ℕ → Judged ℕ
tally_up t shadings base k =
    refused_if (not (well_formed t)) bad_steps 0
    (refused_if (eqb k (step_count t)) no_step 0
    (refused_if (not (step_fits t base k)) no_room 0
    (refused_if (not (allowed t (step_offset t k) shadings (mesh_at t base k))) not_allowed 0
    (done (k + 1)))))

-- "Down: 16 if k is 0; else 0, and k falls by 1."
unfoldable pub tally_down : List ℕ → ℕ → Judged ℕ
tally_down t k =
    refused_if (not (well_formed t)) bad_steps 0
    (refused_if (eqb k 0) no_step 0
    (done (k - 1)))

-- 02, Ask 6: "01's tally takes a walk as those single steps, and a refused wish as a 9 that leaves k; it answers the walk with the first
-- refusal's number, or 0 if there is none."
abbrev pub tally_walk : List ℕ → ℕ → Mesh → ℕ → List Ask → StepWalk ℕ
tally_walk t shadings base k list = walk_by (tally_up t shadings base) (tally_down t) k list

-- k after a call, a step being a walk of one: "A refusal leaves k."
abbrev pub level_after : List ℕ → ℕ → Mesh → ℕ → Call → ℕ
level_after t shadings base k call = (tally_walk t shadings base k (asked call)).state

-- the tally's answer to a step and to a walk, with the mesh of the k that it leads to
abbrev pub step_at : List ℕ → Mesh → ℕ → Judged ℕ → CallAnswer
step_at t base k answer = step_answer (on_done answer λ j. done (mesh_at t base j)) (mesh_at t base k)

abbrev pub walk_at : List ℕ → Mesh → StepWalk ℕ → StepWalk Mesh
walk_at t base w = record { number = w.number; granted = w.granted; state = mesh_at t base w.state }

unfoldable pub tally_of : List ℕ → ℕ → Mesh → ℕ → Call → CallAnswer
tally_of t shadings base k up = step_at t base k (tally_up t shadings base k)
tally_of t shadings base k down = step_at t base k (tally_down t k)
tally_of t shadings base k (walk requests) = of_walk (as_told (walk_at t base (tally_walk t shadings base k (asks requests))))

-- the tally's answer to each call, and the mesh then, from k on
unfoldable pub tally : List ℕ → ℕ → Mesh → ℕ → List Call → List CallAnswer
tally t shadings base k [] = []
tally t shadings base k (call ∷ calls) = tally_of t shadings base k call ∷ tally t shadings base (level_after t shadings base k call) calls

-- k after the list of calls
unfoldable pub level_end : List ℕ → ℕ → Mesh → ℕ → List Call → ℕ
level_end t shadings base k [] = k
level_end t shadings base k (call ∷ calls) = level_end t shadings base (level_after t shadings base k call) calls
