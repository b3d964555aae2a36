-- The whole text: head and steps are stored as they are read, and the end is judged alike for the words and for how many there are.
use Prim.Native.Nat.{ℕ, suc, ◌+◌, ◌≤◌, ◌<◌}
use mathlib.Core.Path.{◌≡◌, ◌∙◌, ap, refl, sym}
use mathlib.Core.Bool.{Bool, true, false, not}
use mathlib.Core.List.{List, [], ◌∷◌, ◌++◌}
use native.Mathlib.Omega.{arith}
use borrow.Author.Tests.{le-ltb, lt-ltb}
use lib.ListN.{drop, drop_of_length-le, get_or, length, set}
use lib.Seq.{drop-cons, sets, sets-eq}
use Rattle.fields.specs.Judged.{Judged, done, refused, on_done, refused_if}
use Rattle.fields.specs.Limits.{most_steps}
use Rattle.fields.specs.Numbers.{bad_steps, no_room}
use Rattle.fields.proofs.Judging.{not_done, refusal_before, same_done, value_before}
use Rattle.climb.specs.Lines.{Row, row_from}
use Rattle.climb.specs.Climb.{climb_in, climb_of, end_form, head_form, is_empty, row_taken, steps_from, table_after, word_count}
use Rattle.std.specs.Prelude.{Err, Ok, Result}
use Rattle.fields.specs.Judged.{given}
use Rattle.fields.specs.declared.refusal.Refusal.{Refusal}
use Rattle.climb.specs.Inside.{Written, end_from, stored_text, text_given}
use Rattle.climb.specs.declared.line.Place.{Place}
use Rattle.climb.proofs.Rows.{RowTold, TakenTold, set_before}

-- ---- the last line

module _ (text : List ℕ) (steps line at n : ℕ) where
  pub end_bad : (m p : ℕ) → row_taken (end_form steps) line (drop at text) ≡ refused m p → refused m p ≡ end_from steps line (drop at text) n
  unfolding end_from
  end_bad m p e = rw (end_from, refusal_before (row_from (end_form steps) line (drop at text)) _ m p e)

  module _ (to : ℕ) (next : Place) (table after : List ℕ) (r : RowTold text (end_form steps) line at to next table after) where
    pub end_more : next.at < length text → refused bad_steps next.line ≡ end_from steps line (drop at text) n
    unfolding end_from
    end_more h = rw (end_from, r.read, r.goes_on, drop-cons text next.at 0 h, r.lined)

    pub end_done : length text ≤ next.at → done n ≡ end_from steps line (drop at text) n
    unfolding end_from
    end_done h = rw (end_from, r.read, r.goes_on, drop_of_length-le text h)

-- ---- the whole text

-- the two base counts, as the code takes them from the head's numbers
base_counts : (vs : List ℕ) → length vs ≡ 3 → drop 1 vs ≡ get_or (sets (0 ∷ 0 ∷ 0 ∷ []) 0 vs) 1 0 ∷ get_or (sets (0 ∷ 0 ∷ 0 ∷ []) 0 vs) 2 0 ∷ []
base_counts [] h = absurd (omega arith)
base_counts (a ∷ []) h = absurd (omega arith)
base_counts (a ∷ b ∷ []) h = absurd (omega arith)
base_counts (a ∷ b ∷ d ∷ []) h = refl
base_counts (a ∷ b ∷ d ∷ e ∷ more) h = absurd (omega arith)

text_by : (r : Result ℕ Refusal) (after : List ℕ) → text_given r after ≡ on_done (given r) (λ n. done (record { words = n; table = after }))
text_by (Ok n) after = refl
text_by (Err e) after = refl

-- the end is judged alike, whether it hands out how many words there are or the words
ended_by : (t : Bool) (line n : ℕ) (table after ws : List ℕ) → n ≡ length ws → after ≡ sets table 0 ws
    → on_done (refused_if t bad_steps line (done n)) (λ k. done (record { words = k; table = after })) ≡ stored_text table (refused_if t bad_steps line (done ws))
ended_by true line n table after ws e f = refl
ended_by false line n table after ws e f = rw (e, f)

ended : (j : Judged Row) (line n : ℕ) (table after ws : List ℕ) → n ≡ length ws → after ≡ sets table 0 ws
    → on_done (on_done j λ last. refused_if (not (is_empty last.rest)) bad_steps line (done n)) (λ k. done (record { words = k; table = after }))
    ≡ stored_text table (on_done j λ last. refused_if (not (is_empty last.rest)) bad_steps line (done ws))
ended (done row) line n table after ws e f = ended_by (not (is_empty row.rest)) line n table after ws e f
ended (refused m p) line n table after ws e f = refl

module _ (text table : List ℕ) where
  pub climb_unheaded : (m p : ℕ) → row_taken head_form 1 text ≡ refused m p → refused m p ≡ stored_text table (climb_of text)
  unfolding climb_of
  climb_unheaded m p e = rw (climb_of, refusal_before (row_from head_form 1 text) _ m p e)

  module _ (next : Place) (head : List ℕ) (h : RowTold text head_form 1 0 0 next (0 ∷ 0 ∷ 0 ∷ []) head) where
    pub climb_unstepped : (m p : ℕ) → steps_from most_steps next.line (drop next.at text) ≡ refused m p → refused m p ≡ stored_text table (climb_of text)
    unfolding climb_of
    climb_unstepped m p e = rw (climb_of, h.read, h.goes_on, h.lined, e)

    pub climb_ended : (t t' after : List ℕ) (steps : ℕ) (last : Place) (r : Result ℕ Refusal)
        → t ≡ set (set table 0 (get_or head 1 0)) 1 (get_or head 2 0)
        → TakenTold text (steps_from most_steps next.line (drop next.at text)) t 3 steps last t'
        → after ≡ set t' 2 steps
        → given r ≡ end_from steps last.line (drop last.at text) last.to
        → text_given r after ≡ stored_text table (climb_of text)
    unfolding climb_of end_from
    climb_ended t t' after steps last r e s f g =
        let three : length h.row.values ≡ 3 = h.long in
        let counts = base_counts h.row.values three in
        let stored-all : after ≡ sets table 0 (get_or head 1 0 ∷ get_or head 2 0 ∷ steps ∷ s.taken.words) = f ∙ rw (s.stored_words, e) (set_before (set (set table 0 (get_or head 1 0)) 1 (get_or head 2 0)) 2 3 steps s.taken.words (omega arith)) in
        text_by r after ∙ rw (g, climb_of, h.read, h.goes_on, h.lined, s.read, s.counted, s.lined, s.goes_on, counts, ← h.stored-values)
        (ended (row_from (end_form steps) last.line (drop last.at text)) (suc last.line) last.to table after
        (get_or head 1 0 ∷ get_or head 2 0 ∷ steps ∷ s.taken.words) (omega (arith, s.moved)) stored-all)

-- ---- what the reader learns

module _ (text table after : List ℕ) where
  pub text_told : (n : ℕ) → text_given (Ok n) after ≡ stored_text table (climb_of text) → (ws : List ℕ) × (climb_of text ≡ done ws) × (length ws ≡ n)
  text_told n e =
      let g = value_before (climb_of text) _ (record { words = n; table = after }) (sym e) in
      (g.0, g.1, ap (λ (x : Written). x.words) (same_done g.2))

pub text_refused : (text table : List ℕ) (m p : ℕ) → refused m p ≡ stored_text table (climb_of text) → climb_of text ≡ refused m p
text_refused text table m p e = refusal_before (climb_of text) _ m p (sym e)

-- the answer that goes with what was written
written_by : (r : Result ℕ Refusal) (after : List ℕ) (w : Written) → text_given r after ≡ done w → (given r ≡ done w.words) × (after ≡ w.table)
written_by (Ok n) after w e = (ap (λ (x : Written). done x.words) (same_done e), ap (λ (x : Written). x.table) (same_done e))
written_by (Err e) after w f = not_done f

module _ (text table : List ℕ) where
  pub read_refused : (m p : ℕ) → climb_of text ≡ refused m p
      → (refused m p ≡ word_count (climb_in text table)) × (table ≡ table_after (climb_in text table) table)
  unfolding climb_in
  read_refused m p e = (rw e, rw e)

  module _ (ws : List ℕ) (e : climb_of text ≡ done ws) where
    pub read_unroomed : length table < length ws → (refused no_room 0 ≡ word_count (climb_in text table)) × (table ≡ table_after (climb_in text table) table)
    unfolding climb_in
    read_unroomed h =
        let t = lt-ltb (length table) (length ws) h in
        (rw (e, t), rw (e, t))

    pub read_done : (n : ℕ) (after : List ℕ) (r : Result ℕ Refusal) → length ws ≡ n → n ≤ length table → text_given r after ≡ stored_text table (climb_of text)
        → (given r ≡ word_count (climb_in text table)) × (after ≡ table_after (climb_in text table) table)
    unfolding climb_in
    read_done n after r l h f =
        let fits : length ws ≤ length table = omega arith in
        let none : 0 + length ws ≡ length ws = omega arith in
        let t = le-ltb (length table) (length ws) fits in
        let both = written_by r after (record { words = length ws; table = sets table 0 ws }) (rw e at f) in
        (both.0 ∙ rw (e, t), rw (e, t) (both.1 ∙ sets-eq ws table 0 (omega arith) ∙ ap (λ (k : ℕ). ws ++ drop k table) none))
