-- The walk to a level, and what the present counts tell of it: a step's turn is a clause of `step_offset` and `faces_before`.
use Rattle.std.proofs.Common.{◌≡◌, ℕ, zero, suc, ◌+◌, ◌-◌, ◌*◌, ◌<◌, ◌≤◌, true, not, List, length, sym, refl, ap, ◌∙◌, add-one, arith, eq-eqb, eqb-true, le-leb, leb-true}
use borrow.Author.Tests.{not-false}
use Rattle.fields.specs.Limits.{largest_count, most_new_faces, most_steps}
use Rattle.fields.specs.Numbers.{bad_steps, counts_disagree}
use Rattle.fields.specs.Judged.{done, refused}
use Rattle.fields.proofs.Judging.{passed, same_done, value_before}
use Rattle.progressive.specs.declared.levels.Place.{Place}
use Rattle.progressive.specs.declared.form.StepSpot.{StepSpot}
use Rattle.progressive.specs.declared.levels.Walked.{Walked}
use Rattle.progressive.specs.StepTable.{base_faces, base_positions, faces_before, new_face_count, next_step, step_count, step_formed, step_offset, well_formed}
use Rattle.progressive.specs.Steps.{counts_agree, level_of}
use Rattle.progressive.specs.Marks.{AtStep}
use Rattle.progressive.specs.Inside.{Arrived, place_at, place_of}
use Rattle.progressive.proofs.Indexed.{and_left, and_right}
use Rattle.progressive.proofs.Formed.{FormedTable, faces_within, formed_at, formed_table, offset_within, test_failed}

-- ---- from step to step

pub step_next : (t : List ℕ) (k : ℕ) {at : StepSpot} {after new : ℕ} → AtStep t k at
    → after ≡ next_step t at.offset → new ≡ new_face_count t at.offset → AtStep t (k + 1) (record { offset = after; faces = at.faces + new })
unfolding step_offset faces_before
step_next t k {at} s e n = rw add-one (record { offset = e ∙ ap (next_step t) s.offset; faces = rw (n, s.offset, s.faces) })

-- what a formed table tells of a step of it
pub record Within (t : List ℕ) (at : StepSpot) : Type 0 where
  pub offset : at.offset ≤ length t
  pub few : at.faces ≤ largest_count + most_new_faces * most_steps

pub within : (t : List ℕ) (k : ℕ) {at : StepSpot} → well_formed t ≡ true → k ≤ step_count t → AtStep t k at → Within t at
within t k e h s =
    let table : FormedTable t = formed_table t e in
    record {
      offset = rw s.offset (offset_within t (step_count t) table.steps table.long k h);
      few = omega (arith, s.faces, faces_within t (step_count t) table.steps k h, table.faces, table.count);
    }

-- ---- the level of the present counts

-- the step before level k, and level k after it
pub arrived : (t : List ℕ) (k : ℕ) {last next : StepSpot} → (k ≡ 0 → ⊥) → AtStep t (k - 1) last → AtStep t (k - 1 + 1) next
    → Arrived t k (record { next = next.offset; last = last.offset; faces = next.faces })
arrived t k h l n =
    let q : k - 1 + 1 ≡ k = omega arith in
    record { next_at = rw q at n.offset; last_at = l.offset; count = rw q at n.faces }

pub record Agreeing (t : List ℕ) (f p : ℕ) : Type 0 where
  pub from_base : base_positions t ≤ p
  pub steps : p - base_positions t ≤ step_count t
  pub faces : f ≡ faces_before t (p - base_positions t)

pub agreeing : (t : List ℕ) (f p : ℕ) → counts_agree t f p ≡ true → Agreeing t f p
unfolding counts_agree
agreeing t f p e = record {
  from_base = leb-true _ _ (search (and_left, and_right));
  steps = leb-true _ _ (search (and_left, and_right));
  faces = eqb-true _ _ (search (and_left, and_right));
}

-- ---- the level of the present counts: 13, then 15

module _ (t : List ℕ) (f p : ℕ) where
  pub disagrees : well_formed t ≡ true → (counts_agree t f p ≡ true → ⊥) → refused counts_disagree 0 ≡ place_of t f p
  unfolding level_of
  disagrees e h = rw (e, ← test_failed (counts_agree t f p) h)

  pub other_faces : {k : ℕ} {w : Walked} → k ≡ p - base_positions t → Arrived t k w → (w.faces ≡ f → ⊥) → counts_agree t f p ≡ true → ⊥
  other_faces q w h e = h (w.count ∙ ap (faces_before t) q ∙ sym (agreeing t f p e).faces)

  agreed : {k : ℕ} → base_positions t ≤ p → k ≡ p - base_positions t → k ≤ step_count t → f ≡ faces_before t k → counts_agree t f p ≡ true
  unfolding counts_agree
  agreed {k = k} a q b e = rw (← q, le-leb _ _ a, le-leb k _ b) (eq-eqb f (faces_before t k) e)

  pub agrees : {k : ℕ} {w : Walked} → well_formed t ≡ true → base_positions t ≤ p → k ≡ p - base_positions t → k ≤ step_count t
      → Arrived t k w → w.faces ≡ f → done (record { level = k; next = w.next; last = w.last }) ≡ place_of t f p
  unfolding level_of
  agrees {k} e a q b w s = rw (e, agreed {k = k} a q b (sym s ∙ w.count), ← q, ← w.next_at, ← w.last_at)

-- the present counts, at the level of a place that was located
pub record AtLevel (t : List ℕ) (f p : ℕ) (place : Place) : Type 0 where
  pub form : well_formed t ≡ true
  pub judged : level_of t f p ≡ done place.level
  pub is : place.level ≡ p - base_positions t
  pub from_base : base_positions t ≤ p
  pub steps : place.level ≤ step_count t
  pub faces : f ≡ faces_before t place.level
  pub next_at : place.next ≡ step_offset t place.level
  pub last_at : place.last ≡ step_offset t (place.level - 1)
  pub few_faces : f ≤ largest_count + most_new_faces * most_steps
  pub few_positions : p ≤ largest_count + most_steps

pub at_level : (t : List ℕ) (f p : ℕ) (place : Place) → done place ≡ place_of t f p → AtLevel t f p place
unfolding level_of
at_level t f p place e =
    let k = value_before (level_of t f p) (λ k. done (place_at t k)) place (sym e) in
    let same : place_at t k.0 ≡ place = same_done k.2 in
    let form = passed (not (well_formed t)) bad_steps 0 _ k.0 k.1 in
    let agree = passed (not (counts_agree t f p)) counts_disagree 0 _ k.0 form.1 in
    let formed : well_formed t ≡ true = not-false _ form.0 in
    let facts : Agreeing t f p = agreeing t f p (not-false _ agree.0) in
    let table : FormedTable t = formed_table t formed in
    let level : p - base_positions t ≡ k.0 = same_done agree.1 in
    let small : faces_before t (p - base_positions t) ≤ base_faces t + most_new_faces * (p - base_positions t) =
    faces_within t (step_count t) table.steps (p - base_positions t) facts.steps in
    rw (← same) (record {
      form = formed;
      judged = k.1;
      is = sym level;
      from_base = facts.from_base;
      steps = rw (← level) facts.steps;
      faces = rw (← level) facts.faces;
      next_at = refl;
      last_at = refl;
      few_faces = omega (arith, facts.faces, facts.steps, table.faces, table.count);
      few_positions = omega (arith, facts.steps, table.count, table.positions);
    })

-- below the top there is a step above the level
pub next_formed : (t : List ℕ) (f p : ℕ) {place : Place} {n : ℕ} → AtLevel t f p place → n ≡ step_count t → (place.level ≡ n → ⊥)
    → step_formed t place.next ≡ true
next_formed t f p {place} l e h =
    let more : place.level < step_count t = omega (arith, l.steps) in
    rw l.next_at (formed_at t place.level l.form more)

faces_step : (t : List ℕ) (k : ℕ) → (k ≡ 0 → ⊥) → faces_before t k ≡ faces_before t (k - 1) + new_face_count t (step_offset t (k - 1))
unfolding faces_before
faces_step t zero h = absurd (h refl)
faces_step t (suc j) h = let q : suc j - 1 ≡ j = omega arith in rw q

-- above the base there is a step below the level
pub record AboveBase (t : List ℕ) (f p : ℕ) (place : Place) : Type 0 where
  pub positions : 1 ≤ p
  pub formed : step_formed t place.last ≡ true
  pub faces : f ≡ faces_before t (place.level - 1) + new_face_count t place.last

pub above_base : (t : List ℕ) (f p : ℕ) {place : Place} → AtLevel t f p place → (place.level ≡ 0 → ⊥) → AboveBase t f p place
above_base t f p {place} l h = record {
  positions = omega (arith, l.is);
  formed =
      let more : place.level - 1 < step_count t = omega (arith, l.steps) in
      rw l.last_at (formed_at t (place.level - 1) l.form more);
  faces = rw l.last_at (l.faces ∙ faces_step t place.level h);
}
