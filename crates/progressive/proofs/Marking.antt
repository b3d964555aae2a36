-- Marks: the steps of a table that are noted as the walk over it comes to them, and a mark as a step to walk on from.
use Rattle.std.proofs.Common.{◌≡◌, ℕ, ◌+◌, ◌*◌, ◌/◌, ◌%◌, ◌<◌, ◌≤◌, Bool, true, false, eqb, ◌≢◌, List, length, set, sym, refl, ◌∙◌, ⊎_elim, true≢false, eq-or-lt_of_le, arith, length-set, get_or-set_other, get_or-set_same, eq-eqb, eqb-true}
use Rattle.fields.specs.Judged.{pick}
use Rattle.progressive.specs.declared.form.StepSpot.{StepSpot}
use Rattle.progressive.specs.Marks.{AtStep, Noted, mark_steps, with_mark}

-- ---- step k passed: it is a mark for which there is room, or not

length_if : (b : Bool) (i : ℕ) (spot : StepSpot) (marks : List StepSpot) → length (pick b (set marks i spot) marks) ≡ length marks
length_if true i spot marks = length-set marks i spot
length_if false i spot marks = refl

pub length_with_mark : (k : ℕ) (spot : StepSpot) (marks : List StepSpot) → length (with_mark k spot marks) ≡ length marks
length_with_mark k spot marks = length_if (eqb (k % mark_steps) 0) (k / mark_steps) spot marks

noted_if : (t : List ℕ) (marks : List StepSpot) (k : ℕ) (spot : StepSpot) (b : Bool) → eqb (k % mark_steps) 0 ≡ b → Noted t marks k → AtStep t k spot
    → Noted t (pick b (set marks (k / mark_steps) spot) marks) (k + 1)
noted_if t marks k spot true e d is = record {
  at = λ j none h s.
      let rest : k % mark_steps ≡ 0 = eqb-true (k % mark_steps) 0 e in
      let mark : mark_steps * (k / mark_steps) ≡ k = omega arith in
      let last : j ≤ k / mark_steps = omega arith in
      let inside : j < length marks = rw (length-set marks (k / mark_steps) spot) at h in
      ⊎_elim
      (λ q. rw (q, get_or-set_same marks (k / mark_steps) spot none (rw q at inside), mark) is)
      (λ c. rw (get_or-set_other marks (k / mark_steps) j spot none (λ x. omega arith)) (d.at j none inside (omega arith)))
      (eq-or-lt_of_le last);
}
noted_if t marks k spot false e d is = record {
  at = λ j none h s.
      let rest : k % mark_steps ≢ 0 = λ q. true≢false (sym (eq-eqb (k % mark_steps) 0 q) ∙ e) in
      d.at j none h (omega (arith, rest));
}

-- the marks on the walk, at step k: the walk began with some of this length
pub record Noting (t : List ℕ) (room : ℕ) (marks : List StepSpot) (k : ℕ) : Type 0 where
  pub noted : Noted t marks k
  pub long : length marks ≡ room

pub noting_none : {t : List ℕ} {marks : List StepSpot} → Noting t (length marks) marks 0
noting_none = record { noted = record { at = λ j none h s. absurd (omega arith) }; long = refl }

pub noting_more : (t : List ℕ) {room : ℕ} {marks more : List StepSpot} {k : ℕ} {spot : StepSpot} → Noting t room marks k
    → AtStep t k spot → more ≡ with_mark k spot marks → Noting t room more (k + 1)
noting_more t {marks = marks} {k = k} {spot = spot} d at e = rw e (record {
  noted = noted_if t marks k spot (eqb (k % mark_steps) 0) refl d.noted at;
  long = length_with_mark k spot marks ∙ d.long;
})

-- the walk's counter at its end
pub noting_done : {t : List ℕ} {room : ℕ} {marks : List StepSpot} {k n : ℕ} → Noting t room marks k → k ≤ n → n ≤ k → Noted t marks n
noting_done {k = k} {n = n} d a b = let q : k ≡ n = omega arith in rw q at d.noted
