-- Whatever the list of calls, the answers to steps up and down and to walks are the tally's, number for number in the tables too. By induction
-- on the list, and in a walk on its single steps: at each level that was reached, a step is judged as the tally judges it, and leads to a level
-- that was reached.
use mathlib.Core.Path.{◌≡◌, ◌∙◌, ap, refl, sym}
use mathlib.Core.Bool.{Bool, true, false, not}
use mathlib.Core.List.{List, [], ◌∷◌}
use Prim.Native.Nat.{ℕ, zero, suc, ◌+◌, ◌-◌}
use native.Mathlib.Numerals.{add-one}
use native.Mathlib.Omega.{arith}
use borrow.Author.Tests.{eqb-false, ne_eqb, not-false}
use lib.Dec.{eqb}
use Rattle.fields.specs.Numbers.{bad_steps, no_room, no_step, not_allowed}
use Rattle.fields.specs.Judged.{Judged, done, refused, on_done, refused_if}
use Rattle.fields.proofs.Judging.{not_done, passed, same_done}
use Rattle.progressive.specs.StepTable.{new_face_count, step_count, step_formed, step_offset, well_formed}
use Rattle.progressive.specs.Mesh.{Mesh, room_for}
use Rattle.progressive.specs.Rules.{allowed}
use Rattle.progressive.specs.Laying.{laid, laid_faces, laid_positions, shows_laid, undone}
use Rattle.progressive.specs.Steps.{coarsened, coarsened_by, level_of, refined, refined_by}
use Rattle.progressive.specs.Requests.{Ask, StepWalk, as_told, ask_down, ask_over, ask_up, asked_on, asks, granted_first, judged_ask, walk_by, walk_over}
use Rattle.progressive.proofs.Formed.{formed_at}
use Rattle.progressive_theorems.specs.Calls.{Call, answer_to, asked, down, mesh_after, of_walk, replies, step_answer, up, walk}
use Rattle.progressive_theorems.specs.Tally.{level_after, mesh_at, step_at, step_fits, tally, tally_down, tally_of, tally_up, tally_walk, walk_at}
use Rattle.progressive_theorems.proofs.Undoing.{Ready, laid_shown, laid-undone, numbers, room_clear_lem}
use Rattle.progressive_theorems.proofs.Levels.{Based, Granted, Reached, agree_at, below_steps, face_length, level_at, position_length, ready_at, room_at}

-- ---- chains of tests

-- what follows from a level, behind the test of the form
behind_form : {A : Type 0} (formed : Bool) (k : ℕ) (next : ℕ → Judged A)
    → on_done (refused_if (not formed) bad_steps 0 (done k)) next ≡ refused_if (not formed) bad_steps 0 (next k)
behind_form true k next = refl
behind_form false k next = refl

-- the tests of a step up and those of the tally are the same ones
same_tests : (formed last fitting permitted : Bool) (j : ℕ) (made : ℕ → Mesh)
    → refused_if (not formed) bad_steps 0 (refused_if last no_step 0 (refused_if (not fitting) no_room 0 (refused_if (not permitted) not_allowed 0 (done (made j)))))
    ≡ on_done
    (refused_if (not formed) bad_steps 0 (refused_if last no_step 0 (refused_if (not fitting) no_room 0 (refused_if (not permitted) not_allowed 0 (done j)))))
    (λ i. done (made i))
same_tests false last fitting permitted j made = refl
same_tests true true fitting permitted j made = refl
same_tests true false false permitted j made = refl
same_tests true false true false j made = refl
same_tests true false true true j made = refl

next_mesh : (t : List ℕ) (base : Mesh) (k : ℕ) → mesh_at t base (k + 1) ≡ laid t (step_offset t k) (mesh_at t base k)
unfolding mesh_at
next_mesh t base k = rw add-one

-- ---- the tally alone

module _ (t : List ℕ) (shadings : ℕ) (base : Mesh) where
  -- one ask, as the tally judges it
  abbrev pub tally_ask : ℕ → Ask → Judged ℕ
  tally_ask k ask = judged_ask (tally_up t shadings base) (tally_down t) k ask

  -- the mesh after an answer is that of the level after it
  after_step : (k : ℕ) (answer : Judged ℕ)
      → mesh_after (step_at t base k answer) ≡ mesh_at t base (granted_first answer k (λ j. tally_walk t shadings base j [])).state
  unfolding walk_by
  after_step k (done j) = refl
  after_step k (refused n p) = refl

  after_level : (k : ℕ) (call : Call) → mesh_after (tally_of t shadings base k call) ≡ mesh_at t base (level_after t shadings base k call)
  unfolding tally_of walk_by
  after_level k up = after_step k (tally_up t shadings base k)
  after_level k down = after_step k (tally_down t k)
  after_level k (walk requests) = refl

module _ (t : List ℕ) (shadings : ℕ) (base : Mesh) (based : Based t base) where
  -- the level that a mesh's counts tell
  level_judged : (k : ℕ) → Reached t shadings base k
      → level_of t (mesh_at t base k).face_count (mesh_at t base k).position_count ≡ refused_if (not (well_formed t)) bad_steps 0 (done k)
  unfolding level_of
  level_judged k reached = rw (agree_at t shadings base based k reached, level_at t shadings base based k)

  -- ---- up

  refined_by_lem : (k : ℕ) → Reached t shadings base k
      → refined_by t shadings (step_offset t k) (mesh_at t base k)
      ≡ refused_if (not (step_fits t base k)) no_room 0
      (refused_if (not (allowed t (step_offset t k) shadings (mesh_at t base k))) not_allowed 0 (done (mesh_at t base (k + 1))))
  unfolding refined_by step_fits
  refined_by_lem k reached =
      let ready = ready_at t shadings base based k reached in
      rw (
        ready.room,
        room_clear_lem (mesh_at t base k) ready t (step_offset t k),
        face_length t base k,
        position_length t base k,
        next_mesh t base k,
      )

  pub up_followed : (k : ℕ) → Reached t shadings base k
      → refined t shadings (mesh_at t base k) ≡ on_done (tally_up t shadings base k) (λ j. done (mesh_at t base j))
  unfolding refined tally_up
  up_followed k reached =
      rw (
        level_judged k reached,
        behind_form (well_formed t) k (λ j. refused_if (eqb j (step_count t)) no_step 0 (refined_by t shadings (step_offset t j) (mesh_at t base k))),
        refined_by_lem k reached,
      )
      (same_tests (well_formed t) (eqb k (step_count t)) (step_fits t base k) (allowed t (step_offset t k) shadings (mesh_at t base k)) (k + 1) (mesh_at t base))

  pub up_granted : (k j : ℕ) → Reached t shadings base k → tally_up t shadings base k ≡ done j → (j ≡ suc k) × Granted t shadings base k
  unfolding tally_up
  up_granted k j reached e =
      let a = passed (not (well_formed t)) bad_steps 0 _ j e in
      let b = passed (eqb k (step_count t)) no_step 0 _ j a.1 in
      let c = passed (not (step_fits t base k)) no_room 0 _ j b.1 in
      let d = passed (not (allowed t (step_offset t k) shadings (mesh_at t base k))) not_allowed 0 _ j c.1 in
      let differ : k ≡ step_count t → ⊥ = eqb-false _ _ b.0 in (
        sym (same_done d.1) ∙ add-one k,
        record {
          formed = not-false _ a.0;
          more = omega (arith, below_steps t shadings base based k reached, differ);
          fitting = not-false _ c.0;
          permitted = not-false _ d.0;
        },
      )

  -- ---- down

  module _ (j : ℕ) (reached : Reached t shadings base (suc j)) where
    abbrev o : ℕ
    o = step_offset t j

    abbrev m : Mesh
    m = mesh_at t base j

    abbrev next : Mesh
    next = mesh_at t base (suc j)

    granted : Granted t shadings base j
    granted = reached.1

    step_formed_lem : step_formed t o ≡ true
    step_formed_lem = formed_at t j granted.formed granted.more

    m_ready : Ready m
    m_ready = ready_at t shadings base based j reached.0

    room_above : room_for m (m.face_count + new_face_count t o) (m.position_count + 1) ≡ true
    room_above = room_at t shadings base based j granted.fitting

    faces_back : next.face_count - new_face_count t o ≡ m.face_count
    unfolding mesh_at laid laid_faces laid_positions
    faces_back = omega arith

    positions_back : next.position_count - 1 ≡ m.position_count
    unfolding mesh_at laid laid_faces laid_positions
    positions_back = omega arith

    room_back : room_for next m.face_count m.position_count ≡ true
    room_back =
        rw (face_length t base (suc j), position_length t base (suc j), ← face_length t base j, ← position_length t base j) m_ready.room

    shown : shows_laid t o m.face_count m.position_count next ≡ true
    unfolding mesh_at
    shown = laid_shown t o shadings m step_formed_lem m_ready granted.permitted room_above

    undo : undone t o m.face_count m.position_count next ≡ m
    unfolding mesh_at
    undo = laid-undone t o shadings m step_formed_lem m_ready granted.permitted room_above

    coarsened_by_lem : coarsened_by t shadings o m.face_count m.position_count next ≡ done m
    unfolding coarsened_by
    coarsened_by_lem =
        rw (
          (ready_at t shadings base based (suc j) reached).room,
          room_back,
          numbers t o shadings m step_formed_lem m_ready granted.permitted room_above,
          shown,
          undo,
        )

    one_less : suc j - 1 ≡ j
    one_less = omega arith

    not_base : eqb (suc j) 0 ≡ false
    not_base = ne_eqb (suc j) 0 (λ e. omega arith)

    pub above_coarsened : coarsened t shadings next ≡ done m
    unfolding coarsened
    above_coarsened = rw (level_judged (suc j) reached, granted.formed, not_base, one_less, faces_back, positions_back) coarsened_by_lem

    pub above_tallied : tally_down t (suc j) ≡ done j
    unfolding tally_down
    above_tallied = rw (granted.formed, not_base, one_less)

  base_coarsened : coarsened t shadings (mesh_at t base 0) ≡ on_done (tally_down t 0) (λ j. done (mesh_at t base j))
  unfolding coarsened tally_down
  base_coarsened = rw (level_judged 0 tt) (either (well_formed t))
    where
      either : (formed : Bool)
          → on_done (refused_if (not formed) bad_steps 0 (done 0)) (λ k. refused_if (eqb k 0) no_step 0 (coarsened_by t shadings (step_offset t (k - 1)) ((mesh_at t base 0).face_count - new_face_count t (step_offset t (k - 1))) ((mesh_at t base 0).position_count - 1) (mesh_at t base 0)))
          ≡ on_done (refused_if (not formed) bad_steps 0 (refused_if (eqb 0 0) no_step 0 (done (0 - 1)))) (λ j. done (mesh_at t base j))
      either true = refl
      either false = refl

  pub down_followed : (k : ℕ) → Reached t shadings base k
      → coarsened t shadings (mesh_at t base k) ≡ on_done (tally_down t k) (λ j. done (mesh_at t base j))
  down_followed zero reached = base_coarsened
  down_followed (suc j) reached = rw (above_tallied j reached) (above_coarsened j reached)

  pub down_granted : (k j : ℕ) → tally_down t k ≡ done j → k ≡ suc j
  unfolding tally_down
  down_granted k j e =
      let a = passed (not (well_formed t)) bad_steps 0 _ j e in
      let b = passed (eqb k 0) no_step 0 _ j a.1 in
      let differ : k ≡ 0 → ⊥ = eqb-false _ _ b.0 in
      let less : k - 1 ≡ j = same_done b.1 in
      omega arith

  -- ---- a walk

  -- one ask: judged alike, and a level that was reached after it
  ask_followed : (ask : Ask) (k : ℕ) → Reached t shadings base k
      → asked_on t shadings (mesh_at t base k) ask ≡ on_done (tally_ask t shadings base k ask) (λ j. done (mesh_at t base j))
  ask_followed ask_up k reached = up_followed k reached
  ask_followed ask_down k reached = down_followed k reached
  ask_followed ask_over k reached = refl

  pub ask_reached : (ask : Ask) (k j : ℕ) → Reached t shadings base k → tally_ask t shadings base k ask ≡ done j → Reached t shadings base j
  ask_reached ask_up k j reached e = let g = up_granted k j reached e in rw g.0 (reached, g.1)
  ask_reached ask_down k j reached e = let above : Reached t shadings base (suc j) = rw (down_granted k j e) at reached in above.0
  ask_reached ask_over k j reached e = not_done e

  pub walk_followed : (list : List Ask) (k : ℕ) → Reached t shadings base k
      → walk_over t shadings (mesh_at t base k) list ≡ walk_at t base (tally_walk t shadings base k list)
  unfolding walk_by
  walk_followed [] k reached = refl
  walk_followed (ask ∷ more) k reached =
      rw (ask_followed ask k reached) (go (tally_ask t shadings base k ask) (λ j e. walk_followed more j (ask_reached ask k j reached e)))
    where
      go : (answer : Judged ℕ)
          → ((j : ℕ) → answer ≡ done j → walk_over t shadings (mesh_at t base j) more ≡ walk_at t base (tally_walk t shadings base j more))
          → granted_first (on_done answer (λ j. done (mesh_at t base j))) (mesh_at t base k) (λ m. walk_over t shadings m more)
          ≡ walk_at t base (granted_first answer k (λ j. tally_walk t shadings base j more))
      go (done j) ih = rw (ih j refl)
      go (refused n p) ih = refl

  pub walk_reached : (list : List Ask) (k : ℕ) → Reached t shadings base k → Reached t shadings base (tally_walk t shadings base k list).state
  unfolding walk_by
  walk_reached [] k reached = reached
  walk_reached (ask ∷ more) k reached = go (tally_ask t shadings base k ask) (λ j e. walk_reached more j (ask_reached ask k j reached e))
    where
      go : (answer : Judged ℕ) → ((j : ℕ) → answer ≡ done j → Reached t shadings base (tally_walk t shadings base j more).state)
          → Reached t shadings base (granted_first answer k (λ j. tally_walk t shadings base j more)).state
      go (done j) ih = ih j refl
      go (refused n p) ih = reached

  -- ---- a call, and a list of calls

  followed : (k : ℕ) (call : Call) → Reached t shadings base k → answer_to t shadings (mesh_at t base k) call ≡ tally_of t shadings base k call
  unfolding answer_to tally_of
  followed k up reached = ap (λ (j : Judged Mesh). step_answer j (mesh_at t base k)) (up_followed k reached)
  followed k down reached = ap (λ (j : Judged Mesh). step_answer j (mesh_at t base k)) (down_followed k reached)
  followed k (walk requests) reached = ap (λ (w : StepWalk Mesh). of_walk (as_told w)) (walk_followed (asks requests) k reached)

  pub after_call : (k : ℕ) (call : Call) → Reached t shadings base k
      → mesh_after (answer_to t shadings (mesh_at t base k) call) ≡ mesh_at t base (level_after t shadings base k call)
  after_call k call reached = ap mesh_after (followed k call reached) ∙ after_level t shadings base k call

  from-level : (calls : List Call) (k : ℕ) → Reached t shadings base k → replies t shadings (mesh_at t base k) calls ≡ tally t shadings base k calls
  unfolding replies tally
  from-level [] k reached = refl
  from-level (call ∷ calls) k reached =
      rw (after_call k call reached, followed k call reached, from-level calls (level_after t shadings base k call) (walk_reached (asked call) k reached))

  -- from a base mesh as its reader left it, every list of calls gets the tally's answers
  pub follows_tally : (calls : List Call) → replies t shadings base calls ≡ tally t shadings base 0 calls
  unfolding mesh_at
  follows_tally calls = from-level calls 0 tt
