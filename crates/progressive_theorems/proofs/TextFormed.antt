-- A climb text that its reader takes yields a step table of the form that a step asks for, so that 13 never follows: the grammar keeps every
-- limit, and each step's words stand where the table's layout looks for them.
use mathlib.Core.Path.{◌≡◌, ◌∙◌, ap, refl, sym}
use mathlib.Core.Bool.{Bool, true, false, ◌&&◌, not}
use mathlib.Core.List.{List, [], ◌∷◌, ◌++◌, append_assoc}
use Prim.Native.Nat.{ℕ, zero, suc, ◌+◌, ◌*◌, ◌<◌, ◌≤◌}
use native.Mathlib.Nat.{mul-suc}
use native.Mathlib.Omega.{arith}
use borrow.Author.Tests.{eq-eqb, le-leb, leb-true, not-false}
use lib.Dec.{leb}
use lib.ListN.{drop, get_or, length, length-append, get_or-append}
use lib.Seq.{get_or-append-add}
use Rattle.fields.specs.Limits.{largest_count, most_moves, most_new_faces, most_steps}
use Rattle.fields.specs.Numbers.{bad_steps}
use Rattle.fields.specs.Judged.{Judged, done, on_done, pick}
use Rattle.fields.proofs.All.{all_true}
use Rattle.fields.proofs.Judging.{passed, same_done, value_before}
use Rattle.climb.specs.Digits.{is_decimal, value_of}
use Rattle.climb.specs.Lines.{Form, Row, Rule, decimal, field_of, fields_after, has, past, pattern, row_from, starts_with, tab, until, line_feed}
use Rattle.climb.specs.Climb.{Taken, climb_of, end_form, face_form, head_form, is_empty, items_from, move_form, row_taken, rows_from, split_form, step_from, steps_from}
use Rattle.progressive.specs.StepTable.{corner_formed, head_words, move_words, new_face_words, next_step, step_formed, step_formed_at, step_offset, step_words, well_formed}
use Rattle.progressive.proofs.Indexed.{and_left, and_right}

-- ---- the numbers of a line

-- the most that a rule lets a number be; a bit pattern has no such limit
abbrev Below : Rule → ℕ → Type 0
Below (decimal least most) v = v ≤ most
Below pattern v = Unit {0}

field_below : (line : ℕ) (rule : Rule) (field : List ℕ) (v : ℕ) → field_of line rule field ≡ done v → Below rule v
unfolding field_of
field_below line (decimal least most) field v e =
    let kept = passed (not (is_decimal field && leb least (value_of 10 field) && leb (value_of 10 field) most)) bad_steps line _ v e in
    let tests : is_decimal field && leb least (value_of 10 field) && leb (value_of 10 field) most ≡ true = not-false _ kept.0 in
    let value : value_of 10 field ≡ v = same_done kept.1 in
    rw (← value) (leb-true (value_of 10 field) most (search (and_left, and_right)))
field_below line pattern field v e = tt

-- so many numbers, each below its rule's limit
data Ruled : List Rule → List ℕ → Type 0 where
  none : Ruled [] []
  one : {rule : Rule} {rules : List Rule} {v : ℕ} {vs : List ℕ} → Below rule v → Ruled rules vs → Ruled (rule ∷ rules) (v ∷ vs)

fields_ruled : (line : ℕ) (rules : List Rule) (fields vs : List ℕ) → fields_after line rules fields ≡ done vs → Ruled rules vs
unfolding fields_after
fields_ruled line [] fields vs e =
    let kept = passed (has tab fields) bad_steps line _ vs e in
    rw (← same_done kept.1) none
fields_ruled line (rule ∷ rules) fields vs e =
    let parted = passed (not (has tab fields)) bad_steps line _ vs e in
    let first = value_before (field_of line rule (until tab (past tab fields))) _ vs parted.1 in
    let others = value_before (fields_after line rules (past tab fields)) _ vs first.2 in
    rw (← same_done others.2) (one (field_below line rule _ first.0 first.1) (fields_ruled line rules (past tab fields) others.0 others.1))

ruled_length : {rules : List Rule} {vs : List ℕ} → Ruled rules vs → length vs ≡ length rules
ruled_length none = refl
ruled_length (one b r) = ap suc (ruled_length r)

row_ruled : (form : Form) (line : ℕ) (text : List ℕ) (row : Row) → row_from form line text ≡ done row → Ruled form.rules row.values
unfolding row_from
row_ruled form line text row e =
    let ended = passed (not (has line_feed text)) bad_steps line _ row e in
    let started = passed (not (starts_with form.word text)) bad_steps line _ row ended.1 in
    let fields = value_before (fields_after line form.rules (until line_feed text)) _ row started.1 in
    rw (← same_done fields.2) (fields_ruled line form.rules (until line_feed text) fields.0 fields.1)

-- ---- rows or steps, one by one

-- so many, one after the other, `p` of each
data Items (p : List ℕ → Type 0) : ℕ → List ℕ → Type 0 where
  no_items : Items p 0 []
  item_first : {n : ℕ} {vs ws : List ℕ} → p vs → Items p n ws → Items p (suc n) (vs ++ ws)

record ItemsTaken (p : List ℕ → Type 0) (left : ℕ) (r : Taken) : Type 0 where
  few : r.count ≤ left
  items : Items p r.count r.words

module _ (p : List ℕ → Type 0) (word : List ℕ) (item : ℕ → List ℕ → Judged Taken)
    (holds : (line : ℕ) (text : List ℕ) (r : Taken) → item line text ≡ done r → p r.words) where
  items_taken : (left line : ℕ) (text : List ℕ) (r : Taken) → items_from word item left line text ≡ done r → ItemsTaken p left r
  unfolding items_from
  items_taken zero line text r e =
      let kept = passed (starts_with word text) bad_steps line _ r e in
      rw (← same_done kept.1) (record { few = omega arith; items = no_items })
  items_taken (suc left) line text r e = go (starts_with word text) e (items_taken left)
    where
      go : (b : Bool) → pick (not b) (done (record { count = 0; words = []; line = line; rest = text }))
          (on_done (item line text) λ first.
          on_done (items_from word item left first.line first.rest) λ more.
          done (record { count = suc more.count; words = first.words ++ more.words; line = more.line; rest = more.rest })) ≡ done r
          → ((line : ℕ) (text : List ℕ) (r : Taken) → items_from word item left line text ≡ done r → ItemsTaken p left r)
          → ItemsTaken p (suc left) r
      go false h ih = rw (← same_done h) (record { few = omega arith; items = no_items })
      go true h ih =
          let first = value_before (item line text) _ r h in
          let more = value_before (items_from word item left first.0.line first.0.rest) _ r first.2 in
          let rest = ih first.0.line first.0.rest more.0 more.1 in
          rw (← same_done more.2) (record { few = omega (arith, rest.few); items = item_first (holds line text first.0 first.1) rest.items })

-- ---- rows of one form

abbrev Rows : Form → ℕ → List ℕ → Type 0
Rows form = Items (Ruled form.rules)

rows_taken : (form : Form) (left line : ℕ) (text : List ℕ) (r : Taken) → rows_from form left line text ≡ done r → ItemsTaken (Ruled form.rules) left r
rows_taken form =
    items_taken (Ruled form.rules) form.word (row_taken form) λ line text r e.
    let row = value_before (row_from form line text) _ r e in
    rw (← same_done row.2) (row_ruled form line text row.0 row.1)

rows_length : (form : Form) {n : ℕ} {ws : List ℕ} → Rows form n ws → length ws ≡ length form.rules * n
rows_length form no_items = omega arith
rows_length form (item_first {n = n} {vs = vs} {ws = ws} v r) =
    omega (arith, length-append vs ws, ruled_length v, rows_length form r, mul-suc (length form.rules) n)

-- each move names one of three corners
corner_small : (n : ℕ) (ws : List ℕ) → Rows move_form n ws → (i : ℕ) → i < n → get_or ws (1 + move_words * i) 0 ≤ 2
corner_small zero ws r i h = absurd (omega arith)
corner_small (suc n) ws (item_first (one {v = face} a (one {v = corner} b none)) r) zero h = b
corner_small (suc n) ws (item_first {ws = more} (one {v = face} a (one {v = corner} b none)) r) (suc i) h =
    let at : 1 + move_words * suc i ≡ suc (suc (1 + move_words * i)) = omega arith in
    rw at (corner_small n more r i (omega arith))

-- ---- a step

-- the words of a step: they keep the limits, and are as many as they say
record Shaped (w : List ℕ) : Type 0 where
  moves : get_or w 4 0 ≤ most_moves
  faces : get_or w 5 0 ≤ most_new_faces
  long : length w ≡ step_words + move_words * get_or w 4 0 + new_face_words * get_or w 5 0
  corners : (i : ℕ) → i < get_or w 4 0 → get_or w (step_words + 1 + move_words * i) 0 ≤ 2

-- the four numbers of a split
data Four : List ℕ → Type 0 where
  four : (a b c d : ℕ) → Four (a ∷ b ∷ c ∷ d ∷ [])

split_four : (vs : List ℕ) → Ruled split_form.rules vs → Four vs
split_four vs (one {v = a} _ (one {v = b} _ (one {v = c} _ (one {v = d} _ none)))) = four a b c d

shaped : (vs ms fs : List ℕ) (m n : ℕ) → Four vs → m ≤ most_moves → n ≤ most_new_faces → Rows move_form m ms → Rows face_form n fs → Shaped (vs ++ (m ∷ n ∷ (ms ++ fs)))
shaped vs ms fs m n (four a b c d) few few' moves faces = record {
  moves = few;
  faces = few';
  long = omega (arith, length-append ms fs, rows_length move_form moves, rows_length face_form faces);
  corners = λ i h.
      let at : step_words + 1 + move_words * i ≡ suc (suc (suc (suc (suc (suc (1 + move_words * i)))))) = omega arith in
      let inside : 1 + move_words * i < length ms = omega (arith, rows_length move_form moves) in
      rw (at, get_or-append ms fs 0 (1 + move_words * i) inside) (corner_small m ms moves i h);
}

step_shaped : (line : ℕ) (text : List ℕ) (r : Taken) → step_from line text ≡ done r → Shaped r.words
unfolding step_from
step_shaped line text r e =
    let split = value_before (row_from split_form line text) _ r e in
    let moves = value_before (rows_from move_form most_moves (suc line) split.0.rest) _ r split.2 in
    let faces = value_before (rows_from face_form most_new_faces moves.0.line moves.0.rest) _ r moves.2 in
    let ms = rows_taken move_form most_moves (suc line) split.0.rest moves.0 moves.1 in
    let fs = rows_taken face_form most_new_faces moves.0.line moves.0.rest faces.0 faces.1 in
    rw (← same_done faces.2)
    (shaped split.0.values moves.0.words faces.0.words moves.0.count faces.0.count
    (split_four split.0.values (row_ruled split_form line text split.0 split.1)) ms.few fs.few ms.items fs.items)

-- such words in a table are a formed step, and the next one is after them
module _ (t before w rest : List ℕ) (is : t ≡ before ++ (w ++ rest)) (s : Shaped w) where
  abbrev o : ℕ
  o = length before

  at_word : (i : ℕ) → i < length w → get_or t (o + i) 0 ≡ get_or w i 0
  at_word i h = rw is (get_or-append-add before (w ++ rest) i 0 ∙ get_or-append w rest 0 i h)

  table_length : length t ≡ o + length w + length rest
  table_length = omega (arith, ap length is, length-append before (w ++ rest), length-append w rest)

  moves_at : get_or t (o + 4) 0 ≡ get_or w 4 0
  moves_at = at_word 4 (omega (arith, s.long))

  faces_at : get_or t (o + 5) 0 ≡ get_or w 5 0
  faces_at = at_word 5 (omega (arith, s.long))

  corner_at : (i : ℕ) → i < get_or w 4 0 → corner_formed t o i ≡ true
  corner_at i h =
      let at : o + step_words + 1 + move_words * i ≡ o + (step_words + 1 + move_words * i) = omega arith in
      le-leb (get_or t (o + step_words + 1 + move_words * i) 0) 2 (rw (at, at_word (step_words + 1 + move_words * i) (omega (arith, s.long))) (s.corners i h))

  next_at : next_step t o ≡ o + length w
  next_at = omega (arith, moves_at, faces_at, s.long)

  formed_there : step_formed t o ≡ true
  unfolding step_formed
  formed_there =
      rw (
        next_at,
        moves_at,
        faces_at,
        le-leb (o + step_words) (length t) (omega (arith, table_length, s.long)),
        le-leb _ _ s.moves,
        le-leb _ _ s.faces,
        le-leb (o + length w) (length t) (omega (arith, table_length)),
      )
      (all_true (corner_formed t o) (get_or w 4 0) corner_at)

-- the step after it
offset_next : (t before w rest : List ℕ) (k : ℕ) → t ≡ before ++ (w ++ rest) → Shaped w → step_offset t k ≡ length before
    → step_offset t (suc k) ≡ length (before ++ w)
unfolding step_offset
offset_next t before w rest k is s at = rw at (next_at t before w rest is s ∙ sym (length-append before w))

-- ---- the steps

abbrev Steps : ℕ → List ℕ → Type 0
Steps = Items Shaped

-- steps that end a table are formed, and the last one ends where the table does
steps_formed : (t : List ℕ) (n : ℕ) (before ws : List ℕ) (k : ℕ) → Steps n ws → t ≡ before ++ ws → step_offset t k ≡ length before
    → ((i : ℕ) → i < n → step_formed_at t (k + i) ≡ true) × (step_offset t (k + n) ≡ length t)
steps_formed t zero before ws k no_items is at =
    let none : k + 0 ≡ k = omega arith in
    let long : length t ≡ length before + 0 = ap length is ∙ length-append before [] in
    (λ i h. absurd (omega arith), rw none (omega (arith, at, long)))
steps_formed t (suc n) before ws k (item_first {vs = w} {ws = more} s rest) is at =
    let again : t ≡ (before ++ w) ++ more = is ∙ sym (append_assoc before w more) in
    let later = steps_formed t n (before ++ w) more (suc k) rest again (offset_next t before w more k is s at) in
    let first : step_formed_at t k ≡ true = rw at (formed_there t before w more is s) in
    let end : k + suc n ≡ suc k + n = omega arith in
    (each (λ i. step_formed_at t i ≡ true) first later.0, rw end later.1)
  where
    each : (p : ℕ → Type 0) → p k → ((i : ℕ) → i < n → p (suc k + i)) → (i : ℕ) → i < suc n → p (k + i)
    each p a f zero h = let none : k + 0 ≡ k = omega arith in rw none a
    each p a f (suc i) h = let on : k + suc i ≡ suc k + i = omega arith in rw on (f i (omega arith))

-- ---- the whole text

-- a head's numbers: the version, and two counts within the limit
data Head : List ℕ → Type 0 where
  head : (version positions faces : ℕ) → positions ≤ largest_count → faces ≤ largest_count → Head (version ∷ positions ∷ faces ∷ [])

head_ruled : (vs : List ℕ) → Ruled head_form.rules vs → Head vs
head_ruled vs (one {v = version} _ (one {v = positions} p (one {v = faces} f none))) = head version positions faces p f

words_formed : (vs ws : List ℕ) (n : ℕ) → Head vs → n ≤ most_steps → Steps n ws → well_formed (drop 1 vs ++ (n ∷ ws)) ≡ true
unfolding well_formed step_offset
words_formed vs ws n (head version positions faces p f) few steps =
    let t = positions ∷ faces ∷ n ∷ ws in
    let formed = steps_formed t n (positions ∷ faces ∷ n ∷ []) ws 0 steps refl refl in
    let each : (i : ℕ) → i < n → step_formed_at t i ≡ true = λ i h. let at : 0 + i ≡ i = omega arith in rw at at (formed.0 i h) in
    let none : 0 + n ≡ n = omega arith in
    let end : step_offset t n ≡ length t = rw none at formed.1 in
    let long : head_words ≤ length t = omega arith in
    rw (le-leb head_words (length t) long, le-leb _ _ p, le-leb _ _ f, le-leb _ _ few, all_true (step_formed_at t) n each) (eq-eqb _ _ end)

-- A text that the reader takes yields a table whose form is good: 13 never follows.
pub text_formed : (text words : List ℕ) → climb_of text ≡ done words → well_formed words ≡ true
unfolding climb_of
text_formed text words e =
    let first = value_before (row_from head_form 1 text) _ words e in
    let steps = value_before (steps_from most_steps 2 first.0.rest) _ words first.2 in
    let last = value_before (row_from (end_form steps.0.count) steps.0.line steps.0.rest) _ words steps.2 in
    let ended = passed (not (is_empty last.0.rest)) bad_steps (suc steps.0.line) _ words last.2 in
    let taken = items_taken Shaped split_form.word step_from step_shaped most_steps 2 first.0.rest steps.0 steps.1 in
    rw (← same_done ended.1)
    (words_formed first.0.values steps.0.words steps.0.count
    (head_ruled first.0.values (row_ruled head_form 1 text first.0 first.1)) taken.few taken.items)
