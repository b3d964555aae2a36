-- Words stored one after the other, and the rows of an outcome told one part after the other. Assumes nothing.
use mathlib.Core.Path.{◌≡◌, refl, ap, sym, ◌∙◌}
use mathlib.Core.Bool.{Bool}
use mathlib.Core.List.{List, [], ◌∷◌, ◌++◌, append_assoc, append-nil}
use Prim.Native.Nat.{ℕ, suc, ◌+◌, ◌*◌}
use native.Mathlib.Omega.{arith}
use lib.ListN.{length, length-append}
use lib.Seq.{sets}
use Rattle.fields.specs.Judged.{Judged, done, refused, on_done}
use Rattle.fields.proofs.Judging.{value_before, refusal_before}
use Rattle.fields.proofs.Stores.{sets_append}
use Rattle.blocks.specs.Chain.{in_chain}
use Rattle.blocks.specs.Walk.{Outcome, tells, and_then, in_chain_outcome}
use Rattle.blocks.specs.Told.{row_width, row_words, all_of}
use Rattle.blocks.specs.Inside.{bytes_of, told_with, Stored, stored, answer_of}
use Rattle.blocks.specs.declared.tell.Row.{Row}
use Rattle.blocks.specs.declared.tell.Told.{Told}

pub plus_two : (w : ℕ) → w + 2 ≡ suc (suc w)
plus_two w = omega arith

pub plus_three : (w : ℕ) → w + 3 ≡ suc (suc (suc w))
plus_three w = omega arith

pub plus_four : (w : ℕ) → w + 4 ≡ suc (suc (suc (suc w)))
plus_four w = omega arith

all_append : (f : Row → List ℕ) (a b : List Row) → all_of f (a ++ b) ≡ all_of f a ++ all_of f b
unfolding all_of
all_append f [] b = refl
all_append f (row ∷ a) b = ap (λ (l : List ℕ). f row ++ l) (all_append f a b) ∙ sym (append_assoc (f row) (all_of f a) (all_of f b))

all_one : (f : Row → List ℕ) (row : Row) → all_of f (row ∷ []) ≡ f row
unfolding all_of
all_one f row = append-nil (f row)

pub words_length : (rows : List Row) → length (all_of row_words rows) ≡ length rows * row_width
unfolding all_of
words_length [] = refl
words_length (row ∷ rows) = let e = words_length rows in omega arith

-- what is told before is told, and then what follows
module _ (table text : List ℕ) (told : Told) (lines : Bool) (first second : Outcome) where
  abbrev pub after : Outcome → Stored
  after o = stored table text told lines o

  pub store_on : (u : Unit {0}) → first.ending ≡ done u
      → after (and_then first second) ≡ stored (after first).table (after first).text (after first).told lines second
  unfolding stored and_then
  store_on u e =
      let w : told.blocks * row_width + length (all_of row_words first.rows) ≡ (told.blocks + length first.rows) * row_width
      = omega (arith, words_length first.rows) in
      let t : sets table (told.blocks * row_width) (all_of row_words (first.rows ++ second.rows))
      ≡ sets (sets table (told.blocks * row_width) (all_of row_words first.rows)) ((told.blocks + length first.rows) * row_width) (all_of row_words second.rows)
      = rw (all_append row_words first.rows second.rows, ← w) (sets_append table (told.blocks * row_width) (all_of row_words first.rows) (all_of row_words second.rows)) in
      let x : sets text told.bytes (all_of (bytes_of lines) (first.rows ++ second.rows))
      ≡ sets (sets text told.bytes (all_of (bytes_of lines) first.rows)) (told.bytes + length (all_of (bytes_of lines) first.rows)) (all_of (bytes_of lines) second.rows)
      = rw (all_append (bytes_of lines) first.rows second.rows) (sets_append text told.bytes (all_of (bytes_of lines) first.rows) (all_of (bytes_of lines) second.rows)) in
      let n : told.blocks + length (first.rows ++ second.rows) ≡ told.blocks + length first.rows + length second.rows
      = omega (arith, length-append first.rows second.rows) in
      let b : told.bytes + length (all_of (bytes_of lines) (first.rows ++ second.rows))
      ≡ told.bytes + length (all_of (bytes_of lines) first.rows) + length (all_of (bytes_of lines) second.rows)
      = rw (all_append (bytes_of lines) first.rows second.rows, length-append (all_of (bytes_of lines) first.rows) (all_of (bytes_of lines) second.rows)) (omega arith) in
      rw (e, t, x, n, b)

  -- what is refused is all
  pub store_stop : (n p : ℕ) → first.ending ≡ refused n p → after (and_then first second) ≡ after first
  unfolding stored and_then
  store_stop n p e = rw e

-- a block's row, and then what follows
pub row_told : (table text : List ℕ) (told : Told) (lines : Bool) (row : Row) (o : Outcome)
    → stored table text told lines (and_then (tells (row ∷ [])) o)
    ≡ stored (sets table (told.blocks * row_width) (row_words row)) (sets text told.bytes (bytes_of lines row)) (told_with lines told row) lines o
unfolding stored
row_told table text told lines row o =
    store_on table text told lines (tells (row ∷ [])) o tt refl
    ∙ rw (all_one row_words row, all_one (bytes_of lines) row)

-- what an answer says of the ending
pub ends_well : (r : Stored) (told : Told) → answer_of r ≡ done told → (u : Unit {0}) × (r.ending ≡ done u) × (r.told ≡ told)
unfolding answer_of
ends_well r told q = let w = value_before r.ending _ told q in (w.0, w.1, cc w.2)

pub ends_refused : (r : Stored) (n p : ℕ) → answer_of r ≡ refused n p → r.ending ≡ refused n p
unfolding answer_of
ends_refused r n p q = refusal_before r.ending _ n p q

-- a walk over a chain's contents
pub in_chain_answer : (table text : List ℕ) (told : Told) (lines : Bool) (o : Outcome)
    → answer_of (stored table text told lines (in_chain_outcome o)) ≡ in_chain (answer_of (stored table text told lines o))
unfolding answer_of stored
in_chain_answer table text told lines o = by o.ending (stored table text told lines o).told where
  by : (j : Judged (Unit {0})) (t : Told) → on_done (in_chain j) (λ _. done t) ≡ in_chain (on_done j (λ _. done t))
  by (done u) t = refl
  by (refused n p) t = refl
