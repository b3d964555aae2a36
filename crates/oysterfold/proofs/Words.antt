-- Words that are stored one after the other, and words that are stored where there is room.
use Prim.Native.Nat.{ℕ, ◌+◌, ◌≤◌, ◌<◌}
use mathlib.Core.Bool.{Bool, true, false}
use mathlib.Core.Path.{◌≡◌, ◌∙◌, refl, sym}
use mir.Val.{bool_byte}
use mathlib.Core.List.{List, ◌++◌, append-nil}
use native.Mathlib.Numerals.{add-one}
use native.Mathlib.Omega.{arith}
use borrow.Author.Tests.{le-ltb, lt-ltb}
use lib.ListN.{drop, drop_of_length-le, get_or, length, length-take, set, take}
use lib.Seq.{drop-cons, sets, sets-eq}
use Rattle.fields.specs.Numbers.{no_room}
use Rattle.oysterfold.specs.CoderState.{flag_of}
use Rattle.oysterfold.specs.Fresh.{stored, stored_into}

module _ (table words : List ℕ) (i : ℕ) where
  pub words_more : i < length words → sets table i (drop i words) ≡ sets (set table i (get_or words i 0)) (i + 1) (drop (i + 1) words)
  words_more h = rw (drop-cons words i 0 h, add-one)

  pub words_none : length words ≤ i → sets table i (drop i words) ≡ table
  words_none h = rw (drop_of_length-le words h)

-- words stored from the start on, and what stood past them
pub stored_front : (words array : List ℕ) → length words ≤ length array → words ++ drop (length words) array ≡ sets array 0 words
stored_front words array h =
    let start : 0 + length words ≡ length words = omega arith in
    let whole : sets array 0 words ≡ (take 0 array ++ words) ++ drop (0 + length words) array = sets-eq words array 0 (omega arith) in
    sym (rw start at whole)

-- the same where so many words are lent as an array
pub stored_chunk : {n : ℕ} (words array : List ℕ) → length words ≡ n → n ≤ length array → words ++ drop n array ≡ sets array 0 words
stored_chunk words array e h = let h' : length words ≤ length array = omega arith in rw (← e) (stored_front words array h')

-- a table of the same length then holds just the words
pub sets_whole : (table words : List ℕ) → length table ≡ length words → sets table 0 words ≡ words
sets_whole table words e =
    let h : length table ≤ 0 + length words = omega arith in
    sets-eq words table 0 (omega arith) ∙ rw (drop_of_length-le table h, append-nil words)

pub length_of_take : {n : ℕ} (l : List ℕ) → n ≤ length l → length (take n l) ≡ n
length_of_take l h = simp length-take (omega arith)

pub length_of_chunk : {n : ℕ} {chunk : List ℕ} (l : List ℕ) → chunk ≡ take n l → n ≤ length l → length chunk ≡ n
length_of_chunk l e h = rw e (length_of_take l h)

module _ (words array : List ℕ) where
  pub stored_short : length array < length words → stored no_room array ≡ stored_into words array
  unfolding stored_into
  stored_short h = rw (lt-ltb _ _ h)

  pub stored_whole : length words ≤ length array → {array' : List ℕ} → array' ≡ sets array 0 words → stored 0 array' ≡ stored_into words array
  unfolding stored_into
  stored_whole h e = rw (le-ltb _ _ h, e)

-- a flag as a word
pub flag_word : (flag : Bool) → bool_byte flag ≡ flag_of flag
flag_word true = refl
flag_word false = refl
