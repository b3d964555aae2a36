-- A list of calls for steps up and down and for walks, from the base mesh that its reader left in the caller's tables.
use Rattle.std.specs.Prelude.{List, [], ◌∷◌, ◌≡◌, ℕ, suc, ◌+◌, take}
use Rattle.fields.specs.Judged.{Judged}
use Rattle.mesh.specs.Base.{Tables}
use Rattle.mesh.specs.declared.base.MeshCounts.{MeshCounts}
use Rattle.progressive.specs.declared.requests.StepRequest.{StepRequest}
use Rattle.progressive.specs.StepTable.{base_faces, base_positions}
use Rattle.progressive.specs.Mesh.{Mesh}
use Rattle.progressive.specs.Steps.{Reply, coarsened, denied, granted, refined, reply}
use Rattle.progressive.specs.Requests.{Ask, StepWalk, ask_down, ask_over, ask_up, as_told, asks, walk_over, walked}

pub data Call : Type 0 where
  up down : Call
  walk : List StepRequest → Call

-- the reply to a step, or what a walk came to
pub data CallAnswer : Type 0 where
  of_step : Reply → CallAnswer
  of_walk : StepWalk Mesh → CallAnswer

abbrev pub step_answer : Judged Mesh → Mesh → CallAnswer
step_answer judged m = of_step (reply judged m)

-- what a call is promised to answer, on the tables and counts that it is handed; the granted steps of a walk are "told modulo 2^64"
unfoldable pub answer_to : List ℕ → ℕ → Mesh → Call → CallAnswer
answer_to t shadings m up = step_answer (refined t shadings m) m
answer_to t shadings m down = step_answer (coarsened t shadings m) m
answer_to t shadings m (walk requests) = of_walk (as_told (walked t shadings m requests))

-- the tables and counts after a call
abbrev pub mesh_after : CallAnswer → Mesh
mesh_after (of_step (granted m)) = m
mesh_after (of_step (denied n p m)) = m
mesh_after (of_walk w) = w.state

-- the answer to each call; each call is handed what the call before left
unfoldable pub replies : List ℕ → ℕ → Mesh → List Call → List CallAnswer
replies t shadings m [] = []
replies t shadings m (call ∷ calls) =
    let answer = answer_to t shadings m call in
    answer ∷ replies t shadings (mesh_after answer) calls

-- the base mesh, in the tables and with the counts that its reader gave back
abbrev pub base_mesh : Tables → MeshCounts → Mesh
base_mesh tables counts =
    record { faces = tables.faces; positions = tables.positions; face_count = counts.faces; position_count = counts.positions }

-- the step list states the base's counts
pub record States (t : List ℕ) (counts : MeshCounts) : Type 0 where
  pub positions : base_positions t ≡ counts.positions
  pub faces : base_faces t ≡ counts.faces

-- the tables and counts after all answers
unfoldable pub mesh_end : Mesh → List CallAnswer → Mesh
mesh_end m [] = m
mesh_end m (answer ∷ answers) = mesh_end (mesh_after answer) answers

-- ---- the single steps that were granted, those inside walks too

-- the single steps that a call asks for
abbrev pub asked : Call → List Ask
asked up = ask_up ∷ []
asked down = ask_down ∷ []
asked (walk requests) = asks requests

-- those that are granted: the first ones, as many as their walk grants; told modulo 2^64 that number would not say which they are
abbrev pub steps_granted : List ℕ → ℕ → Mesh → Call → List Ask
steps_granted t shadings m call = take (walk_over t shadings m (asked call)).granted (asked call)

abbrev pub ups_in : List Ask → ℕ
ups_in [] = 0
ups_in (ask_up ∷ more) = suc (ups_in more)
ups_in (ask_down ∷ more) = ups_in more
ups_in (ask_over ∷ more) = ups_in more

abbrev pub downs_in : List Ask → ℕ
downs_in [] = 0
downs_in (ask_up ∷ more) = downs_in more
downs_in (ask_down ∷ more) = suc (downs_in more)
downs_in (ask_over ∷ more) = downs_in more

-- how many steps up are granted in a list of calls, and how many steps down
unfoldable pub ups_granted : List ℕ → ℕ → Mesh → List Call → ℕ
ups_granted t shadings m [] = 0
ups_granted t shadings m (call ∷ calls) =
    ups_in (steps_granted t shadings m call) + ups_granted t shadings (mesh_after (answer_to t shadings m call)) calls

unfoldable pub downs_granted : List ℕ → ℕ → Mesh → List Call → ℕ
downs_granted t shadings m [] = 0
downs_granted t shadings m (call ∷ calls) =
    downs_in (steps_granted t shadings m call) + downs_granted t shadings (mesh_after (answer_to t shadings m call)) calls
