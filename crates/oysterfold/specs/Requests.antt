-- What the exported walk hands back (02, Ask 6): 01's number, the tables, the counts, and a result of place and granted steps. "A refused walk
-- keeps the steps granted before and tells their number": tables, counts and result are those of the walk whatever its number.
use Rattle.std.specs.Prelude.{List, [], ◌∷◌, ℕ}
use Rattle.std.proofs.lemmas.List.Edits.{sets}
use Rattle.fields.specs.Numbers.{no_room}
use Rattle.fields.specs.Judged.{pick}
use Rattle.progressive.specs.declared.requests.StepRequest.{StepRequest}
use Rattle.progressive.specs.Mesh.{Mesh, mesh_of}
use Rattle.progressive.specs.Requests.{StepWalk, as_told, walked}
use Rattle.oysterfold.specs.CoderState.{shorter}
use Rattle.oysterfold.specs.Result.{result_words, value_told}
use Rattle.oysterfold.specs.Steps.{count_words, counts_in}

-- the number, and what the tables, the counts and the result then hold
pub record WalkHanded : Type 0 where
  pub number : ℕ
  pub faces : List ℕ
  pub positions : List ℕ
  pub counts : List ℕ
  pub result : List ℕ

abbrev pub walk_handed : ℕ → List ℕ → List ℕ → List ℕ → List ℕ → WalkHanded
walk_handed number faces positions counts result =
    record { number = number; faces = faces; positions = positions; counts = counts; result = result }

-- what a walk came to, done or refused: positions and faces in the counts, place 0 and the granted steps in the result
abbrev pub handed_walk : StepWalk Mesh → List ℕ → List ℕ → WalkHanded
handed_walk w counts result =
    let m = w.state in
    walk_handed w.number m.faces m.positions (sets counts 0 (m.position_count ∷ m.face_count ∷ [])) (value_told w.granted result)

-- a result that is too short is 12, before all else; then counts that are, with no steps told; then the walk
unfoldable pub steps_into : List ℕ → ℕ → List StepRequest → List ℕ → List ℕ → List ℕ → List ℕ → WalkHanded
steps_into t shadings requests faces positions counts result =
    pick (shorter result_words result) (walk_handed no_room faces positions counts result)
    (pick (shorter count_words counts) (walk_handed no_room faces positions counts (value_told 0 result))
    (handed_walk (as_told (walked t shadings (mesh_of faces positions (counts_in counts)) requests)) counts result))
