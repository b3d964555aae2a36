-- The exported answer of a read: a result that is too short, another array that is, and a read that is told.
use Prim.Native.Nat.{ℕ, ◌≤◌, ◌<◌}
use mathlib.Core.Bool.{Bool, true, false}
use mathlib.Core.Path.{◌≡◌}
use mathlib.Core.List.{List}
use borrow.Author.Tests.{le-ltb, lt-ltb}
use lib.ListN.{length}
use Rattle.fields.specs.Numbers.{no_room}
use Rattle.coder.specs.Reading.{Taken}
use Rattle.oysterfold.specs.Reading.{Handed, handed, handed_by, read_into}
use Rattle.oysterfold.specs.Result.{result_words, value_told}

module _ (t : Taken) (state result : List ℕ) where
  pub no_result : (too_short : Bool) → length result < result_words → handed no_room state result ≡ read_into too_short t state result
  unfolding read_into
  no_result too_short h = rw (lt-ltb _ _ h)

  module _ {too_short : Bool} (long : result_words ≤ length result) where
    pub read_short : too_short ≡ true → {number : ℕ} {result' : List ℕ} → number ≡ no_room → result' ≡ value_told 0 result
        → handed number state result' ≡ read_into too_short t state result
    unfolding read_into
    read_short e f g = rw (le-ltb _ _ long, e, f, g)

    pub read_told : too_short ≡ false → {given : Taken} {h : Handed} → given ≡ t → h ≡ handed_by given state result
        → h ≡ read_into too_short t state result
    unfolding read_into
    read_told e f g = rw (le-ltb _ _ long, e, ← f) g
