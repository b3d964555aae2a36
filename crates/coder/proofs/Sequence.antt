-- Several symbols one after the other: as many bits are settled as they put, and a loop that codes them one by one leaves the state and
-- the bits of them all.
use Rattle.std.proofs.Common.{◌≡◌, ℕ, zero, suc, ◌+◌, ◌-◌, ◌*◌, ◌/◌, ◌%◌, ◌<◌, ◌≤◌, List, [], ◌∷◌, length, refl, ap, ◌∙◌, arith, length-append}
use Rattle.coder.proofs.Limits.{after_grown, postpone_cases, settling_cases}
use Rattle.coder.proofs.Putting.{put_bits_append}
use Rattle.coder.proofs.Reversal.{reversed_small}
use Rattle.coder.proofs.Turns.{settled_length}
use Rattle.coder.specs.Bytes.{put_bits}
use Rattle.coder.specs.Interval.{Codable, after_symbol, narrow, postpone, postpones, settle_top, settle_tops, settled_bits, symbol_bits, top_bits}
use Rattle.coder.specs.Symbols.{after_symbols, byte_span, plain_spans, symbols_bits}
use Rattle.coder.specs.declared.interval.Coder.{Coder}
use Rattle.coder.specs.declared.interval.Span.{Span}

-- a byte's symbol can be coded
pub byte_codable : (v : ℕ) → Codable (byte_span v)
byte_codable v = omega (arith, reversed_small (v % 256))

-- as many bits are settled as are put
settle_count : (n : ℕ) (s : Coder) → (settle_tops n s).settled ≡ s.settled + length (top_bits n s)
unfolding settle_tops top_bits
settle_count zero s = omega arith
settle_count (suc n) s =
    settling_cases (λ (bits : List ℕ) (t : Coder). t.settled ≡ s.settled + length bits) n s
    (λ e. omega (arith, settle_count n (settle_top s), length-append (settled_bits s) (top_bits n (settle_top s)), settled_length s))
    (λ e. omega arith)

postpone_count : (n : ℕ) (s : Coder) → (postpones n s).settled ≡ s.settled
unfolding postpones
postpone_count zero s = refl
postpone_count (suc n) s =
    postpone_cases (λ (t : Coder). t.settled ≡ s.settled) n s (λ e d. postpone_count n (postpone s)) (λ e. refl) (λ e. refl)

-- so for a symbol, and for several
pub symbol_count : (s : Coder) (a : Span) → (after_symbol s a).settled ≡ s.settled + length (symbol_bits s a)
unfolding after_symbol symbol_bits narrow
symbol_count s a = postpone_count 16 (settle_tops 16 (narrow s a)) ∙ settle_count 16 (narrow s a)

pub all_count : (symbols : List Span) (s : Coder) → (after_symbols s symbols).settled ≡ s.settled + length (symbols_bits s symbols)
unfolding after_symbols symbols_bits
all_count [] s = omega arith
all_count (a ∷ more) s =
    omega (arith, all_count more (after_symbol s a), symbol_count s a, length-append (symbol_bits s a) (symbols_bits (after_symbol s a) more))

-- the bits of the first symbol, and then those of the others
pub all_more : (s : Coder) (a : Span) (more : List Span) (l : List ℕ)
    → put_bits (put_bits l s.settled (symbol_bits s a)) (after_symbol s a).settled (symbols_bits (after_symbol s a) more)
    ≡ put_bits l s.settled (symbols_bits s (a ∷ more))
unfolding symbols_bits
all_more s a more l = rw (put_bits_append (symbol_bits s a) (symbols_bits (after_symbol s a) more) l s.settled, ← symbol_count s a)

-- the counts never fall
pub all_least : (symbols : List Span) (s : Coder) → s.settled + s.pending ≤ (after_symbols s symbols).settled + (after_symbols s symbols).pending
unfolding after_symbols
all_least [] s = omega arith
all_least (a ∷ more) s = omega (arith, after_grown s a, all_least more (after_symbol s a))

-- each symbol adds 32 bits at most
pub all_most : (symbols : List Span) (s : Coder)
    → (after_symbols s symbols).settled + (after_symbols s symbols).pending ≤ s.settled + s.pending + 32 * length symbols
unfolding after_symbols
all_most [] s = omega arith
all_most (a ∷ more) s = omega (arith, after_grown s a, all_most more (after_symbol s a))

pub plain_length : (n v : ℕ) → length (plain_spans n v) ≡ n
unfolding plain_spans
plain_length zero v = refl
plain_length (suc n) v = ap suc (plain_length n (v / 256))

-- one turn of a plain value, and its end
pub plain_more : (n v : ℕ) → 0 < n → byte_span v ∷ plain_spans (n - 1) (v / 256) ≡ plain_spans n v
unfolding plain_spans
plain_more zero v h = absurd (omega arith)
plain_more (suc n) v h = let less : suc n - 1 ≡ n = omega arith in rw less

pub plain_none : (n v : ℕ) → n ≤ 0 → [] ≡ plain_spans n v
unfolding plain_spans
plain_none zero v h = refl
plain_none (suc n) v h = absurd (omega arith)

pub plain_next : (count k v : ℕ) → k < count → byte_span v ∷ plain_spans (count - (k + 1)) (v / 256) ≡ plain_spans (count - k) v
plain_next count k v h =
    let less : count - (k + 1) ≡ count - k - 1 = omega arith in
    rw less (plain_more (count - k) v (omega arith))

-- the state after them, and the bits put
pub after_plain_more : (n v : ℕ) (s : Coder) → 0 < n
    → after_symbols (after_symbol s (byte_span v)) (plain_spans (n - 1) (v / 256)) ≡ after_symbols s (plain_spans n v)
unfolding after_symbols
after_plain_more n v s h = rw (← plain_more n v h)

pub after_plain_none : (n v : ℕ) (s : Coder) → n ≤ 0 → s ≡ after_symbols s (plain_spans n v)
unfolding after_symbols
after_plain_none n v s h = rw (← plain_none n v h)

pub put_plain_none : (n v : ℕ) (s : Coder) (l : List ℕ) → n ≤ 0 → l ≡ put_bits l s.settled (symbols_bits s (plain_spans n v))
unfolding symbols_bits put_bits
put_plain_none n v s l h = rw (← plain_none n v h)
