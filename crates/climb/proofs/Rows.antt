-- Rows and steps, one by one: what is left, stored after what was read, is the whole.
use Prim.Native.Nat.{ℕ, zero, suc, ◌+◌, ◌-◌, ◌≤◌, ◌<◌}
use mathlib.Core.Path.{◌≡◌, ◌∙◌, ap, refl, sym}
use mathlib.Core.Bool.{true, false}
use mathlib.Core.List.{List, [], ◌∷◌, ◌++◌}
use native.Mathlib.Omega.{arith}
use lib.ListN.{drop, length, length-append, set}
use lib.Seq.{set_comm, sets}
use Rattle.fields.specs.Judged.{Judged, done, refused, on_done}
use Rattle.fields.specs.Numbers.{bad_steps}
use Rattle.fields.specs.Limits.{most_moves, most_new_faces}
use Rattle.fields.proofs.Judging.{refusal_before, same_done, value_before}
use Rattle.fields.proofs.Stores.{sets_append}
use Rattle.climb.specs.Lines.{Form, Row, row_from, starts_with}
use Rattle.climb.specs.Climb.{Taken, face_form, items_from, move_form, none_taken, row_taken, rows_from, split_form, step_from}
use Rattle.climb.specs.Inside.{Stored, stored}
use Rattle.climb.specs.declared.line.Place.{Place}
use Rattle.climb.proofs.Lines.{row_length}

-- nothing more
stored_none : (count : ℕ) (table : List ℕ) (to line : ℕ) (text : List ℕ)
    → stored count table to (done (none_taken line text)) ≡ done (record { count = count; table = table; to = to; line = line; rest = text })
stored_none count table to line text =
    let z : count + 0 ≡ count = omega arith in
    let z' : to + 0 ≡ to = omega arith in
    rw (z, z')

-- one more, with its words, before the others
stored_more : (j : Judged Taken) (count : ℕ) (table : List ℕ) (to : ℕ) (vs : List ℕ)
    → stored count table to (on_done j λ more. done (record { count = suc more.count; words = vs ++ more.words; line = more.line; rest = more.rest }))
    ≡ stored (count + 1) (sets table to vs) (to + length vs) j
stored_more (done t) count table to vs =
    let z : count + suc t.count ≡ count + 1 + t.count = omega arith in
    let z' : to + (length vs + length t.words) ≡ to + length vs + length t.words = omega arith in
    rw (z, sets_append table to vs t.words, length-append vs t.words, z')
stored_more (refused n p) count table to vs = refl

-- ---- what a caller learns

-- rows or steps that were read: their words are stored, and the text goes on after them
pub record TakenTold (text : List ℕ) (j : Judged Taken) (table : List ℕ) (to count : ℕ) (next : Place) (after : List ℕ) : Type 0 where
  pub taken : Taken
  pub read : j ≡ done taken
  pub counted : (taken).count ≡ count
  pub stored_words : after ≡ sets table to (taken).words
  pub moved : next.to ≡ to + length (taken).words
  pub lined : (taken).line ≡ next.line
  pub goes_on : (taken).rest ≡ drop next.at text

module _ (text : List ℕ) (j : Judged Taken) (table : List ℕ) (to : ℕ) where
  pub taken_told : (after : List ℕ) (count : ℕ) (next : Place)
      → ◌≡◌ {A = Judged Stored} (done (record { count = count; table = after; to = next.to; line = next.line; rest = drop next.at text })) (stored 0 table to j)
      → TakenTold text j table to count next after
  taken_told after count next e =
      let g = value_before j _ (record { count = count; table = after; to = next.to; line = next.line; rest = drop next.at text }) (sym e) in
      let s = same_done g.2 in
      let none : 0 + g.0.count ≡ g.0.count = omega arith in
      record {
        taken = g.0;
        read = g.1;
        counted = sym none ∙ ap (λ (x : Stored). x.count) s;
        stored_words = ap (λ (x : Stored). x.table) (sym s);
        moved = ap (λ (x : Stored). x.to) (sym s);
        lined = ap (λ (x : Stored). x.line) s;
        goes_on = ap (λ (x : Stored). x.rest) s;
      }

  pub taken_refused : (m p : ℕ) → refused m p ≡ stored 0 table to j → j ≡ refused m p
  taken_refused m p e = refusal_before j _ m p (sym e)

-- a line that was read: its numbers are stored, and the text goes on after it
pub record RowTold (text : List ℕ) (form : Form) (line at to : ℕ) (next : Place) (table after : List ℕ) : Type 0 where
  pub row : Row
  pub read : row_from form line (drop at text) ≡ done row
  pub stored-values : after ≡ sets table to (row).values
  pub goes_on : (row).rest ≡ drop next.at text
  pub lined : suc line ≡ next.line
  pub long : length (row).values ≡ length form.rules

pub row_told : {text : List ℕ} {form : Form} {line at to : ℕ} {next : Place} {table after : List ℕ}
    → TakenTold text (row_taken form line (drop at text)) table to 1 next after → RowTold text form line at to next table after
row_told {text} {form} {line} {at} {to} {next} {table} t =
    let g = value_before (row_from form line (drop at text)) _ t.taken t.read in
    let s = same_done g.2 in
    record {
      row = g.0;
      read = g.1;
      stored-values = t.stored_words ∙ ap (λ (x : Taken). sets table to x.words) (sym s);
      goes_on = ap (λ (x : Taken). x.rest) s ∙ t.goes_on;
      lined = ap (λ (x : Taken). x.line) s ∙ t.lined;
      long = row_length form line (drop at text) g.0 g.1;
    }

-- ---- rows or steps, one by one

module _ (word : List ℕ) (item : ℕ → List ℕ → Judged Taken) (text : List ℕ) (most count : ℕ) (table : List ℕ) (to line at : ℕ) where
  none_by : (left : ℕ) → starts_with word (drop at text) ≡ false
      → stored count table to (items_from word item left line (drop at text))
      ≡ done (record { count = count; table = table; to = to; line = line; rest = drop at text })
  unfolding items_from
  none_by zero e = rw (items_from, e) (stored_none count table to line (drop at text))
  none_by (suc left) e = rw (items_from, e) (stored_none count table to line (drop at text))

  pub items_none : starts_with word (drop at text) ≡ false
      → stored count table to (items_from word item (most - count) line (drop at text))
      ≡ done (record { count = count; table = table; to = to; line = line; rest = drop at text })
  items_none e = none_by (most - count) e

  module _ (e : starts_with word (drop at text) ≡ true) where
    pub items_over : most ≤ count → stored count table to (items_from word item (most - count) line (drop at text)) ≡ refused bad_steps line
    unfolding items_from
    items_over h =
        let k : most - count ≡ 0 = omega arith in
        rw (k, items_from, e)

    pub items_bad : (m p : ℕ) → count < most → item line (drop at text) ≡ refused m p
        → stored count table to (items_from word item (most - count) line (drop at text)) ≡ refused m p
    unfolding items_from
    items_bad m p h f =
        let k : most - count ≡ suc (most - (count + 1)) = omega arith in
        rw (k, items_from, e, f)

    pub items_more : (n : ℕ) (next : Place) (after : List ℕ) → count < most → TakenTold text (item line (drop at text)) table to n next after
        → stored count table to (items_from word item (most - count) line (drop at text))
        ≡ stored (count + 1) after next.to (items_from word item (most - (count + 1)) next.line (drop next.at text))
    unfolding items_from
    items_more n next after h f =
        let k : most - count ≡ suc (most - (count + 1)) = omega arith in
        rw (k, items_from, e, f.read, f.goes_on, f.lined, f.stored_words, f.moved)
        (stored_more (items_from word item (most - (count + 1)) next.line (drop next.at text)) count table to f.taken.words)

-- ---- a step

-- a word before those of a list
pub set_before : (l : List ℕ) (i j v : ℕ) (vs : List ℕ) → i < j → set (sets l j vs) i v ≡ sets (set l i v) j vs
set_before l i j v [] h = refl
set_before l i j v (a ∷ vs) h =
    set_before (set l j a) i (suc j) v vs (omega arith) ∙ ap (λ (m : List ℕ). sets m (suc j) vs) (set_comm l j i a v (λ e. omega arith))

same-stored : {n n' : ℕ} {t t' : List ℕ} {o o' l l' : ℕ} {r r' : List ℕ} → n ≡ n' → t ≡ t' → o ≡ o' → l ≡ l' → r ≡ r'
    → ◌≡◌ {A = Judged Stored} (done (record { count = n; table = t; to = o; line = l; rest = r })) (done (record { count = n'; table = t'; to = o'; line = l'; rest = r' }))
same-stored a b d e f = rw (a, b, d, e, f)

-- the words of a step, stored one part after the other, and the two counts last
step_stored : (table : List ℕ) (to m n : ℕ) (vs ms fs : List ℕ) → length vs ≡ 4
    → set (set (sets (sets (sets table to vs) (to + 6) ms) (to + 6 + length ms) fs) (to + 4) m) (to + 5) n
    ≡ sets table to (vs ++ (m ∷ n ∷ (ms ++ fs)))
step_stored table to m n vs ms fs h =
    let t = sets table to vs in
    let four : to + length vs ≡ to + 4 = omega arith in
    let five : suc (to + 4) ≡ to + 5 = omega arith in
    let six : suc (to + 5) ≡ to + 6 = omega arith in
    let a = ap (λ (l : List ℕ). set l (to + 5) n)
    (set_before (sets t (to + 6) ms) (to + 4) (to + 6 + length ms) m fs (omega arith)
    ∙ ap (λ (l : List ℕ). sets l (to + 6 + length ms) fs) (set_before t (to + 4) (to + 6) m ms (omega arith))) in
    let b = set_before (sets (set t (to + 4) m) (to + 6) ms) (to + 5) (to + 6 + length ms) n fs (omega arith)
    ∙ ap (λ (l : List ℕ). sets l (to + 6 + length ms) fs) (set_before (set t (to + 4) m) (to + 5) (to + 6) n ms (omega arith)) in
    a ∙ b ∙ sym (sets_append (set (set t (to + 4) m) (to + 5) n) (to + 6) ms fs)
    ∙ sym (sets_append table to vs (m ∷ n ∷ (ms ++ fs)) ∙ ap (λ (k : ℕ). sets t k (m ∷ n ∷ (ms ++ fs))) four
    ∙ ap (λ (k : ℕ). sets (set (set t (to + 4) m) k n) (suc k) (ms ++ fs)) five
    ∙ ap (λ (k : ℕ). sets (set (set t (to + 4) m) (to + 5) n) k (ms ++ fs)) six)

module _ (text : List ℕ) (line at to : ℕ) (table : List ℕ) where
  pub step_unsplit : (m p : ℕ) → row_taken split_form line (drop at text) ≡ refused m p → refused m p ≡ stored 0 table to (step_from line (drop at text))
  unfolding step_from
  step_unsplit m p e = rw (step_from, refusal_before (row_from split_form line (drop at text)) _ m p e)

  module _ (split : Place) (t : List ℕ) (s : RowTold text split_form line at to split table t) where
    pub step_unmoved : (m p : ℕ) → rows_from move_form most_moves split.line (drop split.at text) ≡ refused m p
        → refused m p ≡ stored 0 table to (step_from line (drop at text))
    unfolding step_from
    step_unmoved m p e = rw (step_from, s.read, s.goes_on, s.lined, e)

    module _ (moves : ℕ) (second : Place) (t' : List ℕ)
        (m : TakenTold text (rows_from move_form most_moves split.line (drop split.at text)) t (to + 6) moves second t') where
      pub step_unfaced : (n p : ℕ) → rows_from face_form most_new_faces second.line (drop second.at text) ≡ refused n p
          → refused n p ≡ stored 0 table to (step_from line (drop at text))
      unfolding step_from
      step_unfaced n p e = rw (step_from, s.read, s.goes_on, s.lined, m.read, m.lined, m.goes_on, e)

      pub step_done : (faces : ℕ) (last : Place) (t'' after : List ℕ)
          → TakenTold text (rows_from face_form most_new_faces second.line (drop second.at text)) t' second.to faces last t''
          → after ≡ set (set t'' (to + 4) moves) (to + 5) faces
          → done (record { count = 1; table = after; to = last.to; line = last.line; rest = drop last.at text })
          ≡ stored 0 table to (step_from line (drop at text))
      unfolding step_from
      step_done faces last t'' after f e =
          let long : length s.row.values ≡ 4 = s.long in
          let words = length-append s.row.values (moves ∷ faces ∷ (m.taken.words ++ f.taken.words)) in
          let more = length-append m.taken.words f.taken.words in
          rw (step_from, s.read, s.goes_on, s.lined, m.read, m.lined, m.goes_on, f.read, m.counted, f.counted)
          (same-stored refl
          (e ∙ rw (f.stored_words, m.stored_words, s.stored-values, m.moved)
          (step_stored table to moves faces s.row.values m.taken.words f.taken.words long))
          (omega (arith, m.moved, f.moved)) (sym f.lined) (sym f.goes_on))
