-- The exported answer of a declaration: its fields as words of a table, and what a declaration that is read, or refused, comes to.
use Prim.Native.Nat.{ℕ, zero, suc, ◌+◌, ◌*◌, ◌≤◌, ◌<◌}
use mathlib.Core.Path.{◌≡◌, ◌∙◌, ap, refl}
use mathlib.Core.List.{List, [], ◌∷◌}
use native.Mathlib.Omega.{arith}
use borrow.Author.Tests.{le-ltb, lt-ltb}
use lib.ListN.{drop, get_or, length, set}
use lib.Seq.{sets, sets-eq}
use Rattle.fields.specs.Numbers.{no_room}
use Rattle.fields.specs.Judged.{Judged, refused, on_done, number_of}
use Rattle.std.specs.Option.{unwrap_or}
use Rattle.std.proofs.Common.{Option, Some, None}
use Rattle.fields.specs.Field.{field_at, field_given, little_endian}
use Rattle.fields.proofs.Judging.{not_done, same_done}
use Rattle.mesh.specs.Declaration.{declaration_of}
use Rattle.oysterfold.specs.Declaration.{Fields, declaration_in, declaration_result, field_count, fields_after, fields_in, fields_of, fields_words, name_end, name_offset, result_words, words_at}
use Rattle.oysterfold.proofs.Words.{words_more, words_none}

-- ---- fields as words

-- a field within the bytes is not missing
pub field_there : (s : List ℕ) (at : ℕ) → at + 4 ≤ length s → (o : Option ℕ) → field_given (λ value. value) at o ≡ field_at 4 s at
    → unwrap_or o 0 ≡ little_endian 4 s at
unfolding field_at
field_there s at within (Some v) e = same_done (rw (le-ltb _ _ within) at e)
field_there s at within None e = not_done (rw (le-ltb _ _ within) at e)

words_length : (n : ℕ) (s : List ℕ) (at : ℕ) → length (words_at n s at) ≡ n
unfolding words_at
words_length zero s at = refl
words_length (suc n) s at = ap suc (words_length n s (at + 4))

word_at : (n : ℕ) (s : List ℕ) (at i : ℕ) → i < n → get_or (words_at n s at) i 0 ≡ little_endian 4 s (at + 4 * i)
unfolding words_at
word_at zero s at i h = absurd (omega arith)
word_at (suc n) s at zero h = let e : at ≡ at + 4 * 0 = omega arith in ap (little_endian 4 s) e
word_at (suc n) s at (suc i) h = let e : at + 4 + 4 * i ≡ at + 4 * suc i = omega arith in word_at n s (at + 4) i (omega arith) ∙ ap (little_endian 4 s) e

module _ (table s : List ℕ) (from count i : ℕ) where
  pub fields_more : i < count → (v : ℕ) → v ≡ little_endian 4 s (from + 4 * i)
      → sets table i (drop i (words_at count s from)) ≡ sets (set table i v) (i + 1) (drop (i + 1) (words_at count s from))
  fields_more h v e =
      let l = words_length count s from in
      rw (e, ← word_at count s from i h) (words_more table (words_at count s from) i (omega arith))

  pub fields_none : count ≤ i → sets table i (drop i (words_at count s from)) ≡ table
  fields_none h = let l = words_length count s from in words_none table (words_at count s from) i (omega arith)

-- ---- the fields of a declaration that is read

-- what is told and stored where the fields were judged so
abbrev pub Told : List ℕ → List ℕ → Judged Fields → ℕ → List ℕ → List ℕ → Type 0
Told table result j number table' result' =
    (number ≡ number_of j) × ((table' ≡ fields_after j table) × (result' ≡ sets result 0 (fields_words j)))

module _ (s table result : List ℕ) (size : ℕ) where
  pub no_room_told : length table < field_count s size → {number : ℕ} {result' : List ℕ} → number ≡ no_room
      → result' ≡ sets result 0 (fields_words (refused no_room 0)) → Told table result (fields_in s table size) number table result'
  unfolding fields_in
  no_room_told h e f = rw (words_length (field_count s size) s (name_end size), lt-ltb _ _ h) (e, (refl, f))

  pub stored_told : field_count s size ≤ length table → {table' result' : List ℕ} → table' ≡ sets table 0 (fields_of s size)
      → result' ≡ sets result 0 (0 ∷ field_count s size ∷ name_offset ∷ size ∷ []) → Told table result (fields_in s table size) 0 table' result'
  unfolding fields_in
  stored_told h e f =
      let l = words_length (field_count s size) s (name_end size) in
      let none : 0 + length (fields_of s size) ≡ length (fields_of s size) = omega arith in
      rw (le-ltb (length table) (length (fields_of s size)) (omega arith))
      (refl, (e ∙ (rw none at (sets-eq (fields_of s size) table 0 (omega arith))), rw l f))

-- ---- a declaration that was judged

module _ (s table result : List ℕ) where
  abbrev Handed : ℕ → List ℕ → List ℕ → Type 0
  Handed number table' result' =
      (number ≡ number_of (declaration_in s table result))
      × ((table' ≡ fields_after (declaration_in s table result) table) × (result' ≡ declaration_result (declaration_in s table result) result))

  pub too_short : length result < result_words → Handed no_room table result
  unfolding declaration_in declaration_result
  too_short h = let e = lt-ltb _ _ h in (rw e, (rw e, rw e))

  pub handed : result_words ≤ length result → (j : Judged Fields) → (on_done (declaration_of s) λ d. fields_in s table d.name_size) ≡ j
      → {number : ℕ} {table' result' : List ℕ} → Told table result j number table' result' → Handed number table' result'
  unfolding declaration_in declaration_result
  handed long j e t = let l = le-ltb _ _ long in (rw (l, e) t.0, (rw (l, e) t.1.0, rw (l, e) t.1.1))
