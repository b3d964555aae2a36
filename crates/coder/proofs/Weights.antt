-- Sums of weights, one weight at a time: what a loop over them computes, that a symbol's part lies within the total, and which symbol a
-- place in the total belongs to.
use Rattle.std.proofs.Common.{◌≡◌, ℕ, zero, suc, ◌+◌, ◌-◌, ◌*◌, ◌/◌, ◌%◌, ◌^◌, ◌<◌, ◌≤◌, List, [], ◌∷◌, ◌++◌, map, length, get_or, take, drop, set, refl, ap, append-nil, add-zero, suc-mul, mul-le-mul_left, add-one, arith, drop_of_length-le, take_all, drop-cons, take-suc, take-suc-set, drop-set-lt, le-ltb, lt-ltb}
use Rattle.coder.specs.Histogram.{WellFormedHistogram, add_at, halve, span_of, sum, symbol_at}
use Rattle.coder.specs.Interval.{Codable}
use lib.Bits.{and_le_l, and_le_r, bit_and, bit_or, or_add_and}
use lib.Seq.{append_snoc}

-- the sum of two lists
pub sum_append : (u v : List ℕ) → sum (u ++ v) ≡ sum u + sum v
unfolding sum
sum_append [] v = omega arith
sum_append (w ∷ u) v = omega (arith, sum_append u v)

sum_one : (w : ℕ) → sum (w ∷ []) ≡ w
unfolding sum
sum_one w = add-zero w

-- one weight more
pub sum_more : (l : List ℕ) (i : ℕ) → i < length l → sum (take i l) + get_or l i 0 ≡ sum (take (i + 1) l)
sum_more l i h = rw (add-one, take-suc l i 0 h, sum_append, sum_one)

-- the sum of i weights, modulo 2^32, and at most i times a number that has all their bits
pub record Summed (l : List ℕ) (i bits low : ℕ) : Type 0 where
  pub same : low ≡ sum (take i l) % 2 ^ 32
  pub most : sum (take i l) ≤ i * bits

pub summed_more : (l : List ℕ) (i bits low : ℕ) → i < length l → Summed l i bits low
    → let w = get_or l i 0 in Summed l (i + 1) (bit_or bits w) ((low + w) % 2 ^ 32)
summed_more l i bits low h s =
    let w : ℕ = get_or l i 0 in
    let both : ℕ = bit_or bits w in
    let total : sum (take i l) + w ≡ sum (take (i + 1) l) = sum_more l i h in
    let split : both + bit_and bits w ≡ bits + w = or_add_and bits w in
    let bits-le : bits ≤ both = omega (arith, and_le_r bits w) in
    let w_le : w ≤ both = omega (arith, and_le_l bits w) in
    let most : i * bits ≤ i * both = mul-le-mul_left i bits-le in
    let next : (i + 1) * both ≡ i * both + both = rw (add-one i, suc-mul i both) in
    record { same = omega (arith, s.same); most = omega (arith, s.most) }

pub summed_all : (l : List ℕ) (n bits low : ℕ) → length l ≤ n → Summed l n bits low → (low ≡ sum l % 2 ^ 32) × (sum l ≤ n * bits)
summed_all l n bits low h s =
    let all : sum (take n l) ≡ sum l = ap sum (take_all n l h) in
    (rw (← all) s.same, rw (← all) s.most)

-- one weight more is halved
pub halve_more : (l : List ℕ) (i : ℕ) → i < length l
    → let m = set l i (get_or l i 0 / 2) in
    take (i + 1) m ++ map halve (drop (i + 1) m) ≡ take i l ++ map halve (drop i l)
halve_more l i h =
    let less : i < suc i = omega arith in
    rw (add-one, take-suc-set l i (get_or l i 0 / 2) h, drop-set-lt (suc i) l i (get_or l i 0 / 2) less, append_snoc, drop-cons l i 0 h)

-- one weight is passed, or holds the place
pub symbol_more : (l : List ℕ) (k q : ℕ) → k < length l → get_or l k 0 ≤ q
    → k + 1 + symbol_at (drop (k + 1) l) (q - get_or l k 0) ≡ k + symbol_at (drop k l) q
unfolding symbol_at
symbol_more l k q h g = rw (add-one, drop-cons l k 0 h, le-ltb _ _ g, symbol_at) (omega arith)

pub symbol_stop : (l : List ℕ) (k q : ℕ) → k < length l → q < get_or l k 0 → k ≡ k + symbol_at (drop k l) q
unfolding symbol_at
symbol_stop l k q h g = rw (drop-cons l k 0 h, lt-ltb _ _ g, symbol_at) (omega arith)

pub symbol_none : (l : List ℕ) (k q : ℕ) → length l ≤ k → k ≡ k + symbol_at (drop k l) q
unfolding symbol_at
symbol_none l k q h = rw (drop_of_length-le l h, symbol_at, add-zero)

pub halve_none : (l : List ℕ) (i : ℕ) → length l ≤ i → l ≡ take i l ++ map halve (drop i l)
halve_none l i h = rw (drop_of_length-le l h, take_all i l h, append-nil)

-- each weight, and the weights before a symbol, are within the sum
pub weight_le : (l : List ℕ) (k : ℕ) → get_or l k 0 ≤ sum l
unfolding sum
weight_le [] k = omega arith
weight_le (w ∷ l) zero = omega arith
weight_le (w ∷ l) (suc k) = omega (arith, weight_le l k)

pub before_le : (l : List ℕ) (k : ℕ) → sum (take k l) ≤ sum l
unfolding sum
before_le [] zero = omega arith
before_le [] (suc k) = omega arith
before_le (w ∷ l) zero = omega arith
before_le (w ∷ l) (suc k) = omega (arith, before_le l k)

-- halved weights make at most half the sum
pub halved_half : (l : List ℕ) → 2 * sum (map halve l) ≤ sum l
unfolding sum
halved_half [] = omega arith
halved_half (w ∷ l) = omega (arith, halved_half l)

-- a weight one higher raises the sum by at most 1
pub added : (l : List ℕ) (k : ℕ) → sum (add_at l k) ≤ sum l + 1
unfolding sum
added [] k = omega arith
added (w ∷ l) zero = omega arith
added (w ∷ l) (suc k) = omega (arith, added l k)

pub added_one : (l : List ℕ) (k : ℕ) → k < length l → sum (add_at l k) ≡ sum l + 1
unfolding sum
added_one [] k h = absurd (omega arith)
added_one (w ∷ l) zero h = omega arith
added_one (w ∷ l) (suc k) h = omega (arith, added_one l k (omega arith))

-- A symbol of some weight in a well-formed histogram can be coded.
pub span_codable : (l : List ℕ) (k : ℕ) → WellFormedHistogram l → k < length l → 1 ≤ get_or l k 0 → Codable (span_of l k)
unfolding span_of
span_codable l k f h w = omega (arith, sum_more l k h, before_le l (k + 1))

-- a symbol of some weight is in the list
pub weight_inside : (l : List ℕ) (k : ℕ) → 1 ≤ get_or l k 0 → k < length l
weight_inside [] k h = absurd (omega arith)
weight_inside (w ∷ l) zero h = omega arith
weight_inside (w ∷ l) (suc k) h = omega (arith, weight_inside l k h)

-- a place in a symbol's part finds the symbol
pub symbol_part : (l : List ℕ) (k q : ℕ) → sum (take k l) ≤ q → q < sum (take k l) + get_or l k 0 → symbol_at l q ≡ k
unfolding sum symbol_at
symbol_part [] zero q h g = refl
symbol_part [] (suc k) q h g = absurd (omega arith)
symbol_part (w ∷ l) zero q h g = rw (lt-ltb q w (omega arith), symbol_at)
symbol_part (w ∷ l) (suc k) q h g = rw (le-ltb q w (omega arith), symbol_at) (ap suc (symbol_part l k (q - w) (omega arith) (omega arith)))
