-- A dynamic context's histogram: the list of frequencies (01: weights), the escape symbol's first, then those of the values upward
-- (10.4.3, 10.4.9). What follows this file knows the list only through these definitions.
use Rattle.std.specs.Prelude.{◌≡◌, ℕ, suc, ◌+◌, ◌-◌, ◌/◌, ◌≤◌, Bool, true, false, cond, ◌&&◌, List, [], ◌∷◌, map, length, take, replicate, ◌==◌, nat_le, nat_lt, slice_index, slice_set}
use Rattle.coder.specs.Interval.{Span}

abbrev pub Histogram : Type 0
Histogram = List ℕ

-- the values that a dynamic context takes: 0 to 255
abbrev pub values : ℕ
values = 256

-- the escape symbol, and one for each value
abbrev pub symbols : ℕ
symbols = 257

-- 10.4.9: the total at which frequencies are halved
abbrev pub largest_total : ℕ
largest_total = 0x1FFF

-- 10.4.3; 01: "A fresh dynamic context has escape weight 1, all else 0"
abbrev pub fresh_histogram : Histogram
fresh_histogram = 1 ∷ replicate values 0

unfoldable pub sum : List ℕ → ℕ
sum [] = 0
sum (w ∷ ws) = w + sum ws

-- 10.4.4.1: a symbol's cumulative frequency, its own, and the total
abbrev pub span_in : ℕ → Histogram → ℕ → Span
span_in total h k = record { start = sum (take k h); weight = slice_index h k; total = total }

unfoldable pub span_of : Histogram → ℕ → Span
span_of h k = span_in (sum h) h k

-- the symbol whose part of the total holds the place q
unfoldable pub symbol_at : Histogram → ℕ → ℕ
symbol_at [] q = 0
symbol_at (w ∷ ws) q = elim (nat_lt q w) [ true ↦ 0 | false ↦ suc (symbol_at ws (q - w)) ]

-- a value of frequency 0 is escaped
abbrev pub escaped : Histogram → ℕ → Bool
escaped h v = slice_index h (suc v) == 0

abbrev pub halve : ℕ → ℕ
halve w = w / 2

-- the frequency at k is one higher
abbrev pub add_at : Histogram → ℕ → Histogram
add_at h k = slice_set h k (slice_index h k + 1)

-- 10.4.9; 01: "a total of 0x1FFF or more has every weight halved downward and escape then raised by 1"
unfoldable pub thinned : Histogram → Histogram
thinned h = cond (nat_le largest_total (sum h)) (add_at (map halve h) 0) h

-- 10.4.9: a symbol's frequency rises
unfoldable pub raised : Histogram → ℕ → Histogram
raised h k = add_at (thinned h) k

-- "escape has weight 1 or more and the total is at most 0x1FFF"
unfoldable pub histogram_formed : Histogram → Bool
histogram_formed h = nat_le 1 (slice_index h 0) && nat_le (sum h) largest_total

-- for a total that the caller kept: one that leads to a symbol, and at which no frequency is halved
unfoldable pub below_full : ℕ → Bool
below_full total = nat_le 1 total && nat_lt total largest_total

-- nothing has to be added up for the symbol k: escape has some frequency, k is a value's, and its part ends within the total
unfoldable pub part_fits : ℕ → Histogram → ℕ → Bool
part_fits total h k = nat_le 1 (slice_index h 0) && (nat_lt 0 k && (nat_lt k (length h) && nat_le (sum (take k h) + slice_index h k) total))

pub record WellFormedHistogram (h : Histogram) : Type 0 where
  pub escape : 1 ≤ slice_index h 0
  pub bounded : sum h ≤ largest_total

-- such a histogram, and the sum of its frequencies
pub record Totalled (h : Histogram) (total : ℕ) : Type 0 where
  pub formed : WellFormedHistogram h
  pub summed : total ≡ sum h
