-- What demand 3 says in words: after any list of calls a step that the rules allow and that fits is granted; where as many steps down as up were
-- granted, those inside walks too, every number is back; and k is the ups granted less the downs granted.
use mathlib.Core.Path.{◌≡◌, ◌∙◌, ap, refl}
use mathlib.Core.Bool.{true}
use mathlib.Core.List.{List, [], ◌∷◌, ◌++◌}
use Prim.Native.Nat.{ℕ, ◌+◌, ◌-◌, ◌<◌}
use native.Mathlib.Omega.{arith}
use borrow.Author.Tests.{ne_eqb}
use lib.ListN.{take}
use Rattle.fields.specs.Judged.{Judged, done, refused}
use Rattle.fields.proofs.Judging.{not_done}
use Rattle.mesh.specs.Base.{Tables, answered, counts_of, lengths_of, mesh_of, read, tables_after}
use Rattle.mesh.specs.Base as base
use Rattle.progressive.specs.StepTable.{step_count, step_offset, well_formed}
use Rattle.progressive.specs.Mesh.{Mesh}
use Rattle.progressive.specs.Rules.{allowed}
use Rattle.progressive.specs.Steps.{granted}
use Rattle.progressive.specs.Requests.{Ask, ask_down, ask_over, ask_up, granted_first, walk_by}
use Rattle.progressive_theorems.specs.Calls.{Call, CallAnswer, States, asked, base_mesh, mesh_end, of_step, replies, up}
use Rattle.progressive_theorems.specs.Calls.{downs_granted, downs_in, ups_granted, ups_in}
use Rattle.progressive_theorems.specs.Tally.{level_after, level_end, mesh_at, mesh_zero, step_fits, tally, tally_of, tally_up, tally_walk}
use Rattle.progressive_theorems.proofs.Levels.{Based, Reached}
use Rattle.progressive_theorems.proofs.Following.{after_call, ask_reached, down_granted, tally_ask, up_granted, walk_followed, walk_reached}
use Rattle.progressive_theorems.proofs.BaseRead.{read_based}
use Rattle.progressive_theorems.proofs.CallList.{calls_follow_tally, left_zero}

module _ (t : List ℕ) (shadings : ℕ) (base : Mesh) where
  -- ---- one call more

  tally_append : (calls more : List Call) (k : ℕ)
      → tally t shadings base k (calls ++ more) ≡ tally t shadings base k calls ++ tally t shadings base (level_end t shadings base k calls) more
  unfolding tally level_end
  tally_append [] more k = refl
  tally_append (call ∷ calls) more k =
      ap (λ (rest : List CallAnswer). tally_of t shadings base k call ∷ rest) (tally_append calls more (level_after t shadings base k call))

  tally_granted : (k : ℕ) → well_formed t ≡ true → k < step_count t → step_fits t base k ≡ true
      → allowed t (step_offset t k) shadings (mesh_at t base k) ≡ true → tally t shadings base k (up ∷ []) ≡ of_step (granted (mesh_at t base (k + 1))) ∷ []
  unfolding tally tally_of tally_up
  tally_granted k form more fit ok = rw (form, ne_eqb k (step_count t) (λ e. omega arith), fit, ok)

module _ (t : List ℕ) (shadings : ℕ) (base : Mesh) (based : Based t base) where
  -- ---- k moves by what was granted

  -- from k to j by these asks
  abbrev Moves : ℕ → List Ask → ℕ → Type 0
  Moves k list j = j + downs_in list ≡ k + ups_in list

  walk_counted : (list : List Ask) (k : ℕ) → Reached t shadings base k
      → (let w = tally_walk t shadings base k list in Moves k (take w.granted list) w.state)
  unfolding walk_by
  walk_counted [] k reached = refl
  walk_counted (ask ∷ more) k reached =
      go ask (tally_ask t shadings base k ask) refl (λ j e. walk_counted more j (ask_reached t shadings base based ask k j reached e))
    where
      go : (a : Ask) (answer : Judged ℕ) → tally_ask t shadings base k a ≡ answer
          → ((j : ℕ) → answer ≡ done j → (let w = tally_walk t shadings base j more in Moves j (take w.granted more) w.state))
          → (let w = granted_first answer k (λ j. tally_walk t shadings base j more) in Moves k (take w.granted (a ∷ more)) w.state)
      go ask_up (done j) e ih = omega (arith, (up_granted t shadings base based k j reached e).0, ih j refl)
      go ask_down (done j) e ih = omega (arith, down_granted t shadings base based k j e, ih j refl)
      go ask_over (done j) e ih = not_done e
      go a (refused n p) e ih = refl

  level_counted : (calls : List Call) (k : ℕ) → Reached t shadings base k
      → level_end t shadings base k calls + downs_granted t shadings (mesh_at t base k) calls ≡ k + ups_granted t shadings (mesh_at t base k) calls
  unfolding level_end downs_granted ups_granted
  level_counted [] k reached = refl
  level_counted (call ∷ calls) k reached =
      rw (walk_followed t shadings base based (asked call) k reached, after_call t shadings base based k call reached)
      (omega (
        arith,
        walk_counted (asked call) k reached,
        level_counted calls (level_after t shadings base k call) (walk_reached t shadings base based (asked call) k reached),
      ))

  mesh_end_lem : (calls : List Call) (k : ℕ) → Reached t shadings base k
      → mesh_end (mesh_at t base k) (replies t shadings (mesh_at t base k) calls) ≡ mesh_at t base (level_end t shadings base k calls)
  unfolding mesh_end replies level_end
  mesh_end_lem [] k reached = refl
  mesh_end_lem (call ∷ calls) k reached =
      ap (λ (m : Mesh). mesh_end m (replies t shadings m calls)) (after_call t shadings base based k call reached)
      ∙ mesh_end_lem calls (level_after t shadings base k call) (walk_reached t shadings base based (asked call) k reached)

  mesh_counted : (calls : List Call)
      → mesh_end base (replies t shadings base calls) ≡ mesh_at t base (ups_granted t shadings base calls - downs_granted t shadings base calls)
  unfolding mesh_at
  mesh_counted calls =
      let same : level_end t shadings base 0 calls ≡ ups_granted t shadings base calls - downs_granted t shadings base calls =
      omega (arith, level_counted calls 0 tt) in
      mesh_end_lem calls 0 tt ∙ ap (mesh_at t base) same

  back_at_base : (calls : List Call) → ups_granted t shadings base calls ≡ downs_granted t shadings base calls
      → mesh_end base (replies t shadings base calls) ≡ base
  unfolding mesh_at
  back_at_base calls e =
      let none : ups_granted t shadings base calls - downs_granted t shadings base calls ≡ 0 = omega arith in
      mesh_counted calls ∙ ap (mesh_at t base) none

module _ (d s : List ℕ) (before : Tables) (m : base.Mesh) (e : mesh_of d s (lengths_of before) ≡ read m) (steps : List ℕ) (states : States steps (counts_of m))
    (calls : List Call) where
  -- what the reader left
  abbrev start : Mesh
  start = base_mesh (tables_after (mesh_of d s (lengths_of before)) before) (counts_of m)

  -- the tally's mesh 0
  abbrev zero : Mesh
  zero = mesh_zero m (lengths_of before)

  abbrev shadings : ℕ
  shadings = (counts_of m).shadings

  abbrev k : ℕ
  k = level_end steps shadings zero 0 calls

  follows : (list : List Call) → replies steps shadings start list ≡ tally steps shadings zero 0 list
  follows = calls_follow_tally d s before m e steps states

  based : Based steps start
  based = read_based d s before (tables_after (mesh_of d s (lengths_of before)) before) (counts_of m) (ap answered e) refl steps states

  -- After any list of calls: if there is a step, its counts fit the tables, and the rules allow it on the mesh then, a call for it is granted.
  pub allowed_is_granted : well_formed steps ≡ true → k < step_count steps → step_fits steps zero k ≡ true
      → allowed steps (step_offset steps k) shadings (mesh_at steps zero k) ≡ true
      → replies steps shadings start (calls ++ (up ∷ [])) ≡ replies steps shadings start calls ++ (of_step (granted (mesh_at steps zero (k + 1))) ∷ [])
  allowed_is_granted form more fit ok =
      rw (
        follows (calls ++ (up ∷ [])),
        follows calls,
        tally_append steps shadings zero calls (up ∷ []) 0,
        tally_granted steps shadings zero k form more fit ok,
      )

  -- After any list of calls in which as many steps down as up were granted, tables and counts are those of the base mesh.
  pub every_number_back : ups_granted steps shadings start calls ≡ downs_granted steps shadings start calls
      → mesh_end start (replies steps shadings start calls) ≡ start
  every_number_back = back_at_base steps shadings start based calls

  -- After any list of calls, tables and counts are the base mesh with the list's first k steps laid on it, k being the ups granted less the
  -- downs granted.
  pub ups_less_downs : mesh_end start (replies steps shadings start calls)
      ≡ mesh_at steps zero (ups_granted steps shadings start calls - downs_granted steps shadings start calls)
  ups_less_downs =
      mesh_counted steps shadings start based calls
      ∙ ap (λ (b : Mesh). mesh_at steps b (ups_granted steps shadings start calls - downs_granted steps shadings start calls)) (left_zero d s before m e)
