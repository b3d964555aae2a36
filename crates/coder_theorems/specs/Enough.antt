-- Numbers that a writer always takes, and a buffer that is long enough for them.
use Rattle.std.specs.Prelude.{ℕ, ◌+◌, ◌*◌, ◌^◌, ◌<◌, List, [], ◌∷◌}
use Rattle.coder.specs.Histogram.{values}
use Rattle.coder_theorems.specs.Runs.{Context, Number, dynamic, most_symbols, plain, static}

-- a value that its context takes, with so many histograms
abbrev pub Takes : ℕ → Context → ℕ → Type 0
Takes count (plain n) v = v < 256 ^ n
Takes count (static range) v = v < range
Takes count (dynamic k) v = (k < count) × (v < values)

unfoldable pub AllTake : ℕ → List Number → Type 0
AllTake count [] = Unit {0}
AllTake count (n ∷ ns) = Takes count n.context n.value × AllTake count ns

abbrev pub all_symbols : List Number → ℕ
all_symbols [] = 0
all_symbols (n ∷ ns) = most_symbols n.context + all_symbols ns

-- the bytes of a buffer that is long enough for them and their end, a plain U32: a symbol takes at most 16 bits
abbrev pub enough : List Number → ℕ
enough ns = 2 * (all_symbols ns + most_symbols (plain 4))
