-- Ask 6 of 02, in words: a walk comes to what its steps come to, asked one at a time up to and including the first refusal; where no step is
-- asked, it is done and changes nothing.
use mathlib.Core.Path.{◌≡◌, refl}
use mathlib.Core.List.{List, [], ◌∷◌}
use Prim.Native.Nat.{ℕ}
use lib.ListN.{take}
use Rattle.fields.specs.Judged.{Judged, done, refused}
use Rattle.progressive.specs.Mesh.{Mesh}
use Rattle.progressive.specs.Steps.{coarsened, refined}
use Rattle.progressive.specs.Requests.{Ask, StepWalk, ask_down, ask_over, ask_up, asked_on, asks, asks_of, granted_first, walk_by, walk_over, walked}
use Rattle.progressive.specs.declared.requests.StepRequest.{StepRequest}
use Rattle.progressive_theorems.specs.Calls.{answer_to, mesh_after, replies, step_answer}
use Rattle.progressive_theorems.specs.Singles.{number_then, single_calls, to_first_refusal}

module _ (t : List ℕ) (shadings : ℕ) where
  -- one step and those after it
  one_first : (n : ℕ) (m : Mesh) (j : Judged Mesh) (list : List Ask)
      → ((made : Mesh) → walk_over t shadings made list ≡ to_first_refusal n made (replies t shadings made (single_calls list)))
      → granted_first j m (λ made. walk_over t shadings made list)
      ≡ to_first_refusal n m (step_answer j m ∷ replies t shadings (mesh_after (step_answer j m)) (single_calls list))
  unfolding to_first_refusal
  one_first n m (done made) list ih = rw (ih made)
  one_first n m (refused i p) list ih = refl

  asked_singly : (list : List Ask) (m : Mesh) → walk_over t shadings m list ≡ to_first_refusal (number_then list) m (replies t shadings m (single_calls list))
  unfolding walk_by single_calls number_then replies answer_to to_first_refusal
  asked_singly [] m = refl
  asked_singly (ask_up ∷ more) m = one_first (number_then more) m (refined t shadings m) more (asked_singly more)
  asked_singly (ask_down ∷ more) m = one_first (number_then more) m (coarsened t shadings m) more (asked_singly more)
  asked_singly (ask_over ∷ more) m = refl

  -- For every step table, shading count, mesh and list of wishes: number, granted steps, tables and counts of the walk are those of the single
  -- calls.
  pub walk_is_singles : (m : Mesh) (requests : List StepRequest)
      → walked t shadings m requests ≡ to_first_refusal (number_then (asks requests)) m (replies t shadings m (single_calls (asks requests)))
  walk_is_singles m requests = asked_singly (asks requests) m

  -- every one of these asks is granted, and they lead to where that walk ends
  abbrev AllGranted : Mesh → List Ask → StepWalk Mesh → Type 0
  AllGranted m list w = walk_over t shadings m list ≡ record { number = 0; granted = w.granted; state = w.state }

  -- The first steps of a walk, as many as it came to: asked alone, they are all granted. So what `ups_granted` and `downs_granted` count was granted.
  pub told_are_granted : (list : List Ask) (m : Mesh) → (let w = walk_over t shadings m list in AllGranted m (take w.granted list) w)
  unfolding walk_by
  told_are_granted [] m = refl
  told_are_granted (ask ∷ more) m = go (asked_on t shadings m ask) refl (told_are_granted more)
    where
      go : (j : Judged Mesh) → asked_on t shadings m ask ≡ j
          → ((n : Mesh) → (let w = walk_over t shadings n more in AllGranted n (take w.granted more) w))
          → (let w = granted_first j m (λ n. walk_over t shadings n more) in AllGranted m (take w.granted (ask ∷ more)) w)
      go (done n) e ih = rw (e, ih n)
      go (refused n p) e ih = refl

  abbrev unmoved : Mesh → StepWalk Mesh
  unmoved m = record { number = 0; granted = 0; state = m }

  -- "An empty list, or 0 up or 0 down, is done."
  pub no_wish_done : (m : Mesh) → walked t shadings m [] ≡ unmoved m
  unfolding asks walk_by
  no_wish_done m = refl

  pub no_up_done : (m : Mesh) → walked t shadings m (record { direction = 0; count = 0 } ∷ []) ≡ unmoved m
  unfolding asks asks_of walk_by
  no_up_done m = refl

  pub no_down_done : (m : Mesh) → walked t shadings m (record { direction = 1; count = 0 } ∷ []) ≡ unmoved m
  unfolding asks asks_of walk_by
  no_down_done m = refl
