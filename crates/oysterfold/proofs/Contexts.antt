-- The arrays that are lent for a dynamic context: one that is too short, and the histogram after a call.
use Prim.Native.Nat.{ℕ, ◌≤◌, ◌<◌}
use mathlib.Core.Bool.{Bool, true, false, ◌||◌}
use mathlib.Core.Path.{◌≡◌}
use mathlib.Core.List.{List}
use borrow.Author.Tests.{le-ltb, lt-ltb}
use lib.ListN.{length}
use lib.Seq.{sets}
use Rattle.coder.specs.Histogram.{symbols}
use Rattle.oysterfold.specs.CoderState.{context_short, histogram_into, shorter}
use Rattle.oysterfold.specs.Result.{result_words}

module _ (n : ℕ) (state histogram : List ℕ) where
  pub state_short : length state < n → context_short n state histogram ≡ true
  state_short h = rw (lt-ltb _ _ h)

  pub histogram_short : n ≤ length state → length histogram < symbols → context_short n state histogram ≡ true
  histogram_short g h = rw (le-ltb _ _ g, lt-ltb _ _ h)

  pub context_long : n ≤ length state → symbols ≤ length histogram → context_short n state histogram ≡ false
  context_long g h = rw (le-ltb _ _ g, le-ltb _ _ h)

-- where a result is lent too
module _ (result : List ℕ) where
  pub result_short : (too_short : Bool) → length result < result_words → (shorter result_words result || too_short) ≡ true
  result_short too_short h = rw (lt-ltb _ _ h)

  pub result_long : {too_short b : Bool} → result_words ≤ length result → too_short ≡ b → (shorter result_words result || too_short) ≡ b
  result_long h e = rw (le-ltb _ _ h) e

module _ (frequencies histogram : List ℕ) {too_short : Bool} where
  pub histogram_left : too_short ≡ true → histogram ≡ histogram_into too_short frequencies histogram
  unfolding histogram_into
  histogram_left e = rw e

  pub histogram_put : too_short ≡ false → {f h : List ℕ} → f ≡ frequencies → h ≡ sets histogram 0 f → h ≡ histogram_into too_short frequencies histogram
  unfolding histogram_into
  histogram_put e f g = rw (e, ← f) g
