-- What the tests of a step table's form tell, as facts, and the bounds that follow for every step's place. Each fact is a conjunct of the test.
use Rattle.std.proofs.Common.{◌≡◌, ℕ, zero, suc, ◌+◌, ◌*◌, ◌<◌, ◌≤◌, Bool, true, false, ◌&&◌, eqb, List, length, sym, refl, ap, ◌∙◌, add-one, arith, eqb-true, leb-true}
use Rattle.fields.specs.All.{all}
use Rattle.fields.specs.Limits.{largest_count, most_moves, most_new_faces, most_steps}
use Rattle.fields.proofs.All.{all_at, all_fails, all_more}
use Rattle.progressive.specs.StepTable.{base_faces, base_positions, corner_formed, faces_before, head_words, move_count, new_face_at, new_face_count, new_face_words, next_step, step_count, step_formed, step_formed_at, step_offset, step_words, well_formed}
use Rattle.progressive.proofs.Indexed.{and_left, and_right}

-- a test that would be absurd if it passed has failed
pub test_failed : (b : Bool) → (b ≡ true → ⊥) → false ≡ b
test_failed true h = absurd (h refl)
test_failed false h = refl

-- where new face j is described, as the code has it
pub face_place : (t : List ℕ) (o j : ℕ) {first : ℕ} → first ≡ new_face_at t o 0 → first + new_face_words * j ≡ new_face_at t o j
face_place t o j e = omega (arith, e)

pub record Formed (t : List ℕ) (o : ℕ) : Type 0 where
  pub head : o + step_words ≤ length t
  pub moves : move_count t o ≤ most_moves
  pub faces : new_face_count t o ≤ most_new_faces
  pub body : next_step t o ≤ length t
  pub corners : all (corner_formed t o) (move_count t o) ≡ true

pub formed : (t : List ℕ) (o : ℕ) → step_formed t o ≡ true → Formed t o
unfolding step_formed
formed t o e = record {
  head = leb-true _ _ (search (and_left, and_right));
  moves = leb-true _ _ (search (and_left, and_right));
  faces = leb-true _ _ (search (and_left, and_right));
  body = leb-true _ _ (search (and_left, and_right));
  corners = search (and_left, and_right);
}

pub record FormedTable (t : List ℕ) : Type 0 where
  pub long : head_words ≤ length t
  pub positions : base_positions t ≤ largest_count
  pub faces : base_faces t ≤ largest_count
  pub count : step_count t ≤ most_steps
  pub steps : all (step_formed_at t) (step_count t) ≡ true
  pub end : step_offset t (step_count t) ≡ length t

pub formed_table : (t : List ℕ) → well_formed t ≡ true → FormedTable t
unfolding well_formed
formed_table t e = record {
  long = leb-true _ _ (search (and_left, and_right));
  positions = leb-true _ _ (search (and_left, and_right));
  faces = leb-true _ _ (search (and_left, and_right));
  count = leb-true _ _ (search (and_left, and_right));
  steps = search (and_left, and_right);
  end = eqb-true _ _ (search (and_left, and_right));
}

-- ---- the first n steps are formed
module _ (t : List ℕ) (n : ℕ) (e : all (step_formed_at t) n ≡ true) where
  step_of : (k : ℕ) → k < n → Formed t (step_offset t k)
  step_of k h = formed t (step_offset t k) (all_at (step_formed_at t) n k e h)

  pub offset_within : head_words ≤ length t → (k : ℕ) → k ≤ n → step_offset t k ≤ length t
  unfolding step_offset
  offset_within long zero h = long
  offset_within long (suc k) h = (step_of k h).body

  pub faces_within : (k : ℕ) → k ≤ n → faces_before t k ≤ base_faces t + most_new_faces * k
  unfolding faces_before
  faces_within zero h = omega arith
  faces_within (suc k) h = omega (arith, faces_within k (omega arith), (step_of k h).faces)

pub formed_at : (t : List ℕ) (k : ℕ) → well_formed t ≡ true → k < step_count t → step_formed t (step_offset t k) ≡ true
formed_at t k e h = all_at (step_formed_at t) (step_count t) k (formed_table t e).steps h

-- ---- the walk over the steps, for the loop that makes it: at step k of `steps`, at offset `step`, past so many faces
pub record Walked (t : List ℕ) (steps step faces k : ℕ) : Type 0 where
  pub so_far : k ≤ steps
  pub at : step ≡ step_offset t k
  pub counted : faces ≡ faces_before t k
  pub within : step ≤ length t
  pub passed : all (step_formed_at t) k ≡ true

pub walk_starts : (t : List ℕ) (steps : ℕ) {f : ℕ} → head_words ≤ length t → f ≡ base_faces t → Walked t steps head_words f 0
unfolding step_offset faces_before
walk_starts t steps h e = record { so_far = omega arith; at = refl; counted = e; within = h; passed = refl }

module _ (t : List ℕ) (steps : ℕ) {step faces k : ℕ} (w : Walked t steps step faces k) where
  pub walk_few : faces ≤ base_faces t + most_new_faces * k
  walk_few = rw w.counted (faces_within t k w.passed k (omega arith))

  step_test : {b : Bool} → b ≡ step_formed t step → b ≡ step_formed_at t k
  step_test e = e ∙ ap (step_formed t) w.at

  pub walk_fails : {b : Bool} (rest : Bool) → k < steps → b ≡ step_formed t step → b ≡ false → false ≡ all (step_formed_at t) steps && rest
  walk_fails rest h e f = rw (all_fails (step_formed_at t) steps k h (sym (step_test e) ∙ f))

  pub walk_on : {b : Bool} {next new : ℕ} → k < steps → b ≡ step_formed t step → b ≡ true → next ≡ next_step t step → new ≡ new_face_count t step
      → Walked t steps next (faces + new) (k + 1)
  unfolding step_offset faces_before
  walk_on h e f n m = record {
    so_far = omega arith;
    at = rw (add-one k, ← w.at) n;
    counted = rw (add-one k, ← w.at, ← w.counted, m);
    within = omega (arith, (formed t step (sym e ∙ f)).body);
    passed = all_more (step_formed_at t) k w.passed (sym (step_test e) ∙ f);
  }

  pub walk_ends : steps ≤ k → eqb step (length t) ≡ all (step_formed_at t) steps && eqb (step_offset t steps) (length t)
  walk_ends h = let q : k ≡ steps = omega arith in rw (w.at, ← q, w.passed)
