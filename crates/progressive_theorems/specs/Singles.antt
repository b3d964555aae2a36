-- The steps of a walk asked one at a time (02, Ask 6).
use Rattle.std.specs.Prelude.{List, [], ◌∷◌, ℕ, suc}
use Rattle.fields.specs.Numbers.{over_limit}
use Rattle.progressive.specs.Mesh.{Mesh}
use Rattle.progressive.specs.Steps.{denied, granted}
use Rattle.progressive.specs.Requests.{Ask, StepWalk, ask_down, ask_over, ask_up}
use Rattle.progressive_theorems.specs.Calls.{Call, CallAnswer, down, of_step, of_walk, up}

-- the calls for single steps, to the first wish that is refused
unfoldable pub single_calls : List Ask → List Call
single_calls [] = []
single_calls (ask_up ∷ more) = up ∷ single_calls more
single_calls (ask_down ∷ more) = down ∷ single_calls more
single_calls (ask_over ∷ more) = []

-- the number where every one of them is granted: 9 for the wish after them, 0 if there is none
unfoldable pub number_then : List Ask → ℕ
number_then [] = 0
number_then (ask_up ∷ more) = number_then more
number_then (ask_down ∷ more) = number_then more
number_then (ask_over ∷ more) = over_limit

-- what the answers to these calls come to, "up to and including that refusal"; there is no walk among them
unfoldable pub to_first_refusal : ℕ → Mesh → List CallAnswer → StepWalk Mesh
to_first_refusal n m [] = record { number = n; granted = 0; state = m }
to_first_refusal n m (of_step (granted made) ∷ more) =
    let w = to_first_refusal n made more in
    record { number = w.number; granted = suc w.granted; state = w.state }
to_first_refusal n m (of_step (denied number place kept) ∷ more) = record { number = number; granted = 0; state = kept }
to_first_refusal n m (of_walk w ∷ more) = w
