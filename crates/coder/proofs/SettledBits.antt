-- Every number that a symbol settles is a bit: it is the top bit of a 16-bit limit, or that bit inverted.
use Rattle.std.proofs.Common.{ℕ, zero, suc, ◌-◌, ◌/◌, ◌≤◌, List, [], ◌∷◌, ◌++◌, replicate, arith}
use Rattle.coder.proofs.Limits.{Ordered, after_wellformed, narrow_ordered, settling_cases}
use Rattle.coder.proofs.Spans.{AllCodable}
use Rattle.coder.specs.Interval.{Coder, Span, WellFormed, after_symbol, narrow, settle_top, settled_bits, symbol_bits, top_bits}
use Rattle.coder.specs.Symbols.{symbols_bits}

-- every number of a list is 0 or 1
abbrev pub AllBits : List ℕ → Type 0
AllBits [] = Unit {0}
AllBits (b ∷ bs) = (b ≤ 1) × AllBits bs

-- two such lists make one
pub bits_append : (u v : List ℕ) → AllBits u → AllBits v → AllBits (u ++ v)
bits_append [] v a b = b
bits_append (x ∷ u) v a b = (a.0, bits_append u v a.1 b)

bits_replicate : (n b : ℕ) → b ≤ 1 → AllBits (replicate n b)
bits_replicate zero b h = tt
bits_replicate (suc n) b h = (h, bits_replicate n b h)

pub settled_bits_lem : (s : Coder) → s.low ≤ 0xFFFF → AllBits (settled_bits s)
unfolding settled_bits
settled_bits_lem s h = (omega arith, bits_replicate s.pending (1 - s.low / 0x8000) (omega arith))

top_bits_lem : (n : ℕ) (s : Coder) → s.low ≤ 0xFFFF → AllBits (top_bits n s)
unfolding top_bits
top_bits_lem zero s h = tt
top_bits_lem (suc n) s h =
    settling_cases (λ (bits : List ℕ) (t : Coder). AllBits bits) n s
    (λ e. bits_append (settled_bits s) (top_bits n (settle_top s)) (settled_bits_lem s h) (top_bits_lem n (settle_top s) (omega arith)))
    (λ e. tt)

-- All that several symbols settle are bits.
pub all_bits : (symbols : List Span) (s : Coder) → WellFormed s → AllCodable symbols → AllBits (symbols_bits s symbols)
unfolding symbols_bits symbol_bits
all_bits [] s w c = tt
all_bits (a ∷ more) s w c =
    let o : Ordered (narrow s a) = narrow_ordered s a w c.0 in
    bits_append (symbol_bits s a) (symbols_bits (after_symbol s a) more) (top_bits_lem 16 (narrow s a) (omega arith))
    (all_bits more (after_symbol s a) (after_wellformed s a w c.0) c.1)
