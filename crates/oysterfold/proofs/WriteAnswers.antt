-- The exported answer of a write: an array that is too short, and a write that is told; of the end, also the bytes used.
use Prim.Native.Nat.{ℕ, ◌≤◌, ◌<◌}
use mathlib.Core.Bool.{Bool, true, false}
use mathlib.Core.Path.{◌≡◌}
use mathlib.Core.List.{List}
use borrow.Author.Tests.{le-ltb, lt-ltb}
use lib.ListN.{length}
use Rattle.fields.specs.Numbers.{no_room}
use Rattle.coder.specs.Writing.{End, Write}
use Rattle.oysterfold.specs.Result.{result_words, value_told}
use Rattle.oysterfold.specs.Writing.{Handed, handed, handed_by, used_into, written_into}

module _ (w : Write) (state buffer : List ℕ) {too_short : Bool} where
  pub write_short : too_short ≡ true → handed no_room state buffer ≡ written_into too_short w state buffer
  unfolding written_into
  write_short e = rw e

  pub write_told : too_short ≡ false → {given : Write} {h : Handed} → given ≡ w → h ≡ handed_by given state → h ≡ written_into too_short w state buffer
  unfolding written_into
  write_told e f g = rw (e, ← f) g

module _ (e : End) (result : List ℕ) where
  pub used_nowhere : (too_short : Bool) → length result < result_words → result ≡ used_into too_short e result
  unfolding used_into
  used_nowhere too_short h = rw (lt-ltb _ _ h)

  module _ (long : result_words ≤ length result) {too_short : Bool} {result' : List ℕ} where
    pub used_none : too_short ≡ true → result' ≡ value_told 0 result → result' ≡ used_into too_short e result
    unfolding used_into
    used_none f g = rw (le-ltb _ _ long, f) g

    pub used_told : too_short ≡ false → {given : End} → given ≡ e → result' ≡ value_told given.used result → result' ≡ used_into too_short e result
    unfolding used_into
    used_told f g h = rw (le-ltb _ _ long, f, ← g) h
