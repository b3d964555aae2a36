-- Marks: mark j of a list is step mark_steps * j of it. No public promise cites this file.
use Rattle.std.specs.Prelude.{◌≡◌, ℕ, ◌*◌, ◌/◌, ◌%◌, ◌<◌, true, List, length, ◌==◌, get_or, set}
use Rattle.fields.specs.Judged.{pick}
use Rattle.progressive.specs.declared.form.StepSpot.{StepSpot}
use Rattle.progressive.specs.StepTable.{faces_before, step_count, step_offset, well_formed}

abbrev pub mark_steps : ℕ
mark_steps = 16

-- step k
pub record AtStep (t : List ℕ) (k : ℕ) (spot : StepSpot) : Type 0 where
  pub offset : spot.offset ≡ step_offset t k
  pub faces : spot.faces ≡ faces_before t k

-- marks with the spot of step k, if that is one and there is room for it
abbrev pub with_mark : ℕ → StepSpot → List StepSpot → List StepSpot
with_mark k spot marks = pick (k % mark_steps == 0) (set marks (k / mark_steps) spot) marks

-- the marks before step n are noted, as far as there is room
pub record Noted (t : List ℕ) (marks : List StepSpot) (n : ℕ) : Type 0 where
  pub at : (j : ℕ) (none : StepSpot) → j < length marks → mark_steps * j < n → AtStep t (mark_steps * j) (get_or marks j none)

-- a list that has its form, and its marks
pub record Marked (t : List ℕ) (marks : List StepSpot) : Type 0 where
  pub form : well_formed t ≡ true
  pub some : 0 < length marks
  pub noted : Noted t marks (step_count t)
