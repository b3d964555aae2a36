-- A walk: the steps of a list of wishes, in one call (02, Ask 6). "Tables, counts, granted steps (their number told modulo 2^64) and answer must
-- equal those of asking one step at a time up to and including that refusal."
use Rattle.std.specs.Prelude.{ℕ, suc, ◌+◌, ◌%◌, ◌^◌, ◌&&◌, List, [], ◌∷◌, ◌++◌, replicate, ◌==◌, nat_le}
use Rattle.fields.specs.Numbers.{over_limit}
use Rattle.fields.specs.Limits.{most_steps}
use Rattle.fields.specs.Judged.{Judged, done, refused, pick}
use Rattle.progressive.specs.declared.requests.StepRequest.{StepRequest}
use Rattle.progressive.specs.declared.counts.Counts.{Counts}
use Rattle.progressive.specs.declared.requests.Progress.{Progress}
use Rattle.progressive.specs.Mesh.{Mesh, mesh_of}
use Rattle.progressive.specs.Steps.{coarsened, refined}

-- what is asked in turn: one step up, one step down, or a wish that is refused
pub data Ask : Type 0 where
  ask_up ask_down ask_over : Ask

-- direction 0 is up, 1 is down
abbrev pub ask_in : ℕ → Ask
ask_in direction = pick (direction == 0) ask_up ask_down

-- "A wish above 4,096, or one neither up nor down where a record can hold that, is refused as 9 when its turn comes, and nothing of it is done."
unfoldable pub asks_of : ℕ → ℕ → List Ask
asks_of direction count = pick (nat_le count most_steps && nat_le direction 1) (replicate count (ask_in direction)) (ask_over ∷ [])

unfoldable pub asks : List StepRequest → List Ask
asks [] = []
asks (request ∷ requests) = asks_of request.direction request.count ++ asks requests

-- what a walk comes to: 01's number, how many steps were granted, and what then is
pub record StepWalk (A : Type 0) : Type 0 where
  pub number : ℕ
  pub granted : ℕ
  pub state : A

-- how one ask is judged, by what judges a step up and a step down
abbrev pub judged_ask : {A : Type 0} → (A → Judged A) → (A → Judged A) → A → Ask → Judged A
judged_ask up down a ask_up = up a
judged_ask up down a ask_down = down a
judged_ask up down a ask_over = refused over_limit 0

-- a step that is granted, and the walk from there on; a refusal ends the walk
abbrev pub granted_first : {A : Type 0} → Judged A → A → (A → StepWalk A) → StepWalk A
granted_first (done b) a next = let w = next b in record { number = w.number; granted = suc w.granted; state = w.state }
granted_first (refused n p) a next = record { number = n; granted = 0; state = a }

-- "It stops at the first refusal."
unfoldable pub walk_by : {A : Type 0} → (A → Judged A) → (A → Judged A) → A → List Ask → StepWalk A
walk_by up down a [] = record { number = 0; granted = 0; state = a }
walk_by up down a (ask ∷ more) = granted_first (judged_ask up down a ask) a (λ b. walk_by up down b more)

-- on the mesh: one ask, and a walk
abbrev pub asked_on : List ℕ → ℕ → Mesh → Ask → Judged Mesh
asked_on t shadings m ask = judged_ask (refined t shadings) (coarsened t shadings) m ask

abbrev pub walk_over : List ℕ → ℕ → Mesh → List Ask → StepWalk Mesh
walk_over t shadings m list = walk_by (refined t shadings) (coarsened t shadings) m list

abbrev pub walked : List ℕ → ℕ → Mesh → List StepRequest → StepWalk Mesh
walked t shadings m requests = walk_over t shadings m (asks requests)

-- ---- what a walk has come to so far, as it is handed on

-- a walk with n steps granted before it
abbrev pub add_granted : {A : Type 0} → ℕ → StepWalk A → StepWalk A
add_granted n w = record { number = w.number; granted = n + w.granted; state = w.state }

-- the walk from there on, unless it was refused
unfoldable pub onward : {A : Type 0} → StepWalk A → (A → StepWalk A) → StepWalk A
onward w next = pick (w.number == 0) (add_granted w.granted (next w.state)) w

-- "their number told modulo 2^64"
abbrev pub as_told : {A : Type 0} → StepWalk A → StepWalk A
as_told w = record { number = w.number; granted = w.granted % 2 ^ 64; state = w.state }

-- a walk that has taken no wish, at these counts
abbrev pub begun : Counts → Progress
begun counts = record { number = 0; granted = 0; counts = counts }

-- number, granted steps and counts, beside what the tables then hold
abbrev pub progress_of : Progress → List ℕ → List ℕ → StepWalk Mesh
progress_of p faces positions = record { number = p.number; granted = p.granted; state = mesh_of faces positions p.counts }

-- the walk so far, and then these asks
abbrev pub walked_on : List ℕ → ℕ → List Ask → StepWalk Mesh → StepWalk Mesh
walked_on t shadings list w = as_told (onward w λ m. walk_over t shadings m list)
