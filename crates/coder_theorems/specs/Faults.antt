-- A reader that is at no fault of its own: done, or refused with 1 or 10.
use Rattle.std.specs.Prelude.{ℕ, ◌+◌, ◌*◌, ◌<◌, Bool, true, false, List, [], ◌∷◌, ◌≡◌}
use Rattle.coder.specs.Histogram.{histogram_formed}
use Rattle.coder_theorems.specs.Runs.{Context, Histograms, ReadCall, dynamic, most_symbols, plain, static}
use Rattle.fields.specs.Member.{member}
use Rattle.fields.specs.Numbers.{out_of_range, truncated}

-- the bits that a read settles or postpones at most, counted as 32 a symbol
abbrev pub most_bits : Context → ℕ
most_bits c = 32 * most_symbols c

abbrev pub all_bits : List Context → ℕ
all_bits [] = 0
all_bits (c ∷ cs) = most_bits c + all_bits cs

-- every histogram is well formed, and every dynamic context has one of so many
unfoldable pub AllFormed : Histograms → Type 0
AllFormed [] = Unit {0}
AllFormed (h ∷ hs) = (histogram_formed h ≡ true) × AllFormed hs

abbrev pub Present : ℕ → Context → Type 0
Present count (plain n) = Unit {0}
Present count (static range) = Unit {0}
Present count (dynamic k) = k < count

unfoldable pub AllPresent : ℕ → List Context → Type 0
AllPresent count [] = Unit {0}
AllPresent count (c ∷ cs) = Present count c × AllPresent count cs

-- a read that is done has the number 0, and one that is refused 1 or 10: never 9 or 18
abbrev pub NoFault : Bool → ℕ → Type 0
NoFault true n = n ≡ 0
NoFault false n = member n (truncated ∷ out_of_range ∷ []) ≡ true

unfoldable pub NoneAtFault : List ReadCall → Type 0
NoneAtFault [] = Unit {0}
NoneAtFault (r ∷ rs) = NoFault r.result.done r.result.number × NoneAtFault rs
