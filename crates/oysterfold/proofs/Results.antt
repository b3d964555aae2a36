-- The exported answer of place and value, or of place and several: a result that is too short, and one that is told.
use Prim.Native.Nat.{ℕ, ◌≤◌, ◌<◌}
use mathlib.Core.Path.{◌≡◌}
use mathlib.Core.List.{List}
use borrow.Author.Tests.{le-ltb, lt-ltb}
use lib.ListN.{length}
use lib.Seq.{sets}
use Rattle.fields.specs.Numbers.{no_room}
use Rattle.fields.specs.Judged.{Judged, refused, number_of}
use Rattle.oysterfold.specs.Result.{answer_for, answer_in, result_for, result_of, result_words, words_of}

-- a function that judged `j` and tells `value` of it, with a table that then holds what `after` says
module _ {A : Type 0} (j : Judged A) (value : Judged ℕ) (after : Judged A → List ℕ) (result : List ℕ) where
  abbrev Handed : ℕ → List ℕ → List ℕ → Type 0
  Handed number table result' =
      (number ≡ number_of (answer_in result value))
      × ((table ≡ after (answer_in result j)) × (result' ≡ result_of value result))

  pub too_short : length result < result_words → Handed no_room (after (refused no_room 0)) result
  unfolding answer_in result_of
  too_short h = let e = lt-ltb _ _ h in (rw e, (rw e, rw e))

  pub handed : result_words ≤ length result → {told : Judged ℕ} (table : List ℕ) {number : ℕ} {result' : List ℕ} → value ≡ told → table ≡ after j
      → number ≡ number_of told → result' ≡ sets result 0 (words_of told) → Handed number table result'
  unfolding answer_in result_of
  handed long table e f g h = let l = le-ltb _ _ long in (rw (l, e) g, (rw l f, rw (l, e) h))

-- a function that judged `j` and tells `words` of it, so many
module _ {A : Type 0} (count : ℕ) (j : Judged A) (words : Judged A → List ℕ) (result : List ℕ) where
  abbrev WordsHanded : ℕ → List ℕ → Type 0
  WordsHanded number result' =
      (number ≡ number_of (answer_for count result j)) × (result' ≡ result_for count (words (answer_for count result j)) result)

  pub words_short : length result < count → WordsHanded no_room result
  words_short h = let e = lt-ltb _ _ h in (rw e, rw e)

  pub words_handed : count ≤ length result → (told : Judged A) {result' : List ℕ} → j ≡ told → result' ≡ sets result 0 (words told)
      → WordsHanded (number_of told) result'
  words_handed long told e f = let l = le-ltb _ _ long in (rw (l, e), rw (l, e) f)
