-- The symbols that a number is written as (10.4.5, 10.4.8, 10.4.9), and the state and the bits after several of them.
use Rattle.std.specs.Prelude.{ℕ, zero, suc, ◌+◌, ◌*◌, ◌/◌, ◌%◌, ◌^◌, true, false, List, [], ◌∷◌, ◌++◌, nat_le}
use Rattle.coder.specs.Histogram.{Histogram, escaped, raised, span_of}
use Rattle.coder.specs.Interval.{Coder, Span, after_symbol, largest_range, symbol_bits}

-- the last n bits in reverse order
unfoldable pub reversed : ℕ → ℕ → ℕ
reversed zero v = 0
reversed (suc n) v = v % 2 * 2 ^ n + reversed n (v / 2)

-- 10.4.3; 01: "Static range R gives values 0 to R-1 weight 1 each and no escape"
abbrev pub static_span : ℕ → ℕ → Span
static_span range v = record { start = v; weight = 1; total = range }

-- 10.4.8: a plain U8, its bits reversed, in static range 256
abbrev pub byte_span : ℕ → Span
byte_span v = static_span 256 (reversed 8 (v % 256))

-- n plain bytes of a number, "low byte first"
unfoldable pub plain_spans : ℕ → ℕ → List Span
plain_spans zero v = []
plain_spans (suc n) v = byte_span v ∷ plain_spans n (v / 256)

-- a value in a static range (10.4.5; 01: "R above 0x3FFE: a plain U32")
unfoldable pub static_spans : ℕ → ℕ → List Span
static_spans range v = elim (nat_le range largest_range) [ true ↦ static_span range v ∷ [] | false ↦ plain_spans 4 v ]

-- 10.4.5: a value in a dynamic context. A value of frequency 0 is the escape symbol and a plain U32
unfoldable pub dynamic_spans : Histogram → ℕ → List Span
dynamic_spans h v = elim (escaped h v) [ true ↦ span_of h 0 ∷ plain_spans 4 v | false ↦ span_of h (suc v) ∷ [] ]

-- 10.4.9: its histogram after it
unfoldable pub dynamic_after : Histogram → ℕ → Histogram
dynamic_after h v = elim (escaped h v) [ true ↦ raised (raised h 0) (suc v) | false ↦ raised h (suc v) ]

-- the state after symbols, and the bits that they settle
unfoldable pub after_symbols : Coder → List Span → Coder
after_symbols s [] = s
after_symbols s (a ∷ rest) = after_symbols (after_symbol s a) rest

unfoldable pub symbols_bits : Coder → List Span → List ℕ
symbols_bits s [] = []
symbols_bits s (a ∷ rest) = symbol_bits s a ++ symbols_bits (after_symbol s a) rest
