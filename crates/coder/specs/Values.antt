-- The numbers that a reader finds in a stream (Annex A): the value, the state after it, and a dynamic context's histogram.
use Rattle.std.specs.Prelude.{ℕ, zero, suc, ◌+◌, ◌*◌, true, false, nat_le}
use Rattle.coder.specs.Histogram.{Histogram, raised, span_of, sum, symbol_at}
use Rattle.coder.specs.Interval.{Coder, after_symbol, largest_range, target}
use Rattle.coder.specs.Stream.{Stream}
use Rattle.coder.specs.Symbols.{reversed, static_span}
pub use Rattle.coder.specs.declared.read.Found.{Found}

-- one symbol of a static range
abbrev pub symbol_value : ℕ → Stream → Coder → Found
symbol_value range x s = record { value = target s x range; state = after_symbol s (static_span range (target s x range)) }

-- n plain bytes, the low one first
unfoldable pub read_plain : ℕ → Stream → Coder → Found
read_plain zero x s = record { value = 0; state = s }
read_plain (suc n) x s =
    let q = target s x 256 in
    let rest = read_plain n x (after_symbol s (static_span 256 q)) in
    record { value = reversed 8 q + 256 * rest.value; state = rest.state }

-- a static range: one symbol, or a plain U32 where the range is too large
unfoldable pub read_static : ℕ → Stream → Coder → Found
read_static range x s = elim (nat_le range largest_range) [ true ↦ symbol_value range x s | false ↦ read_plain 4 x s ]

-- a dynamic context whose next symbol is k: "a reader accepts an escape for a value already seen, too"
unfoldable pub read_symbol : Histogram → Stream → Coder → ℕ → Found
read_symbol h x s zero = read_plain 4 x (after_symbol s (span_of h 0))
read_symbol h x s (suc v) = record { value = v; state = after_symbol s (span_of h (suc v)) }

unfoldable pub symbol_after : Histogram → ℕ → ℕ → Histogram
symbol_after h zero v = raised (raised h 0) (suc v)
symbol_after h (suc k) v = raised h (suc k)

abbrev pub next_symbol : Histogram → Stream → Coder → ℕ
next_symbol h x s = symbol_at h (target s x (sum h))

unfoldable pub read_dynamic : Histogram → Stream → Coder → Found
read_dynamic h x s = read_symbol h x s (next_symbol h x s)

-- its histogram after it
unfoldable pub read_after : Histogram → Stream → Coder → Histogram
read_after h x s = symbol_after h (next_symbol h x s) (read_dynamic h x s).value
