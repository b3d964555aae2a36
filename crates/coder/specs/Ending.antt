-- The end of a coded run (10.4.10), and 01's bits where a reader would not find its number.
use Rattle.std.specs.Prelude.{ℕ, zero, suc, ◌+◌, ◌-◌, ◌/◌, ◌%◌, ◌^◌, Bool, true, false, List, [], ◌∷◌, ◌++◌, slice_index}
use Rattle.coder.specs.Forms.{finds}
use Rattle.coder.specs.Interval.{Coder, settled_bits}
use Rattle.coder.specs.Stream.{Stream}
use Rattle.coder.specs.Symbols.{after_symbols, plain_spans, symbols_bits}

-- the bits from place p on, "with zeros after it"
unfoldable pub placed : ℕ → List ℕ → Stream
placed p bits i = slice_index bits (i - p)

-- the last n bits of a number, the highest first
unfoldable pub bits_of : ℕ → ℕ → List ℕ
bits_of zero v = []
bits_of (suc n) v = v / 2 ^ n % 2 ∷ bits_of n v

-- 10.4.10: "if one or more compressed values have been written", a plain U32 of 0
unfoldable pub flush_bits : Bool → Coder → List ℕ
flush_bits true s = symbols_bits s (plain_spans 4 0)
flush_bits false s = []

unfoldable pub flush_state : Bool → Coder → Coder
flush_state true s = after_symbols s (plain_spans 4 0)
flush_state false s = s

-- "low's top bit, the pending ones inverted, low's other fifteen"
unfoldable pub low_bits : Coder → List ℕ
low_bits s = settled_bits s ++ bits_of 15 s.low

unfoldable pub low_state : Coder → Coder
low_state s = record { low = 0; high = 0xFFFF; pending = 0; settled = s.settled + 1 + s.pending + 15 }

-- whether "a reader at the state before the end" finds a number from low to high
abbrev pub flush_found : Bool → Coder → Bool
flush_found compressed s = finds s (placed s.settled (flush_bits compressed s))

-- the bits of the end, and the state after it
unfoldable pub end_bits : Bool → Coder → List ℕ
end_bits compressed s = elim (flush_found compressed s) [ true ↦ flush_bits compressed s | false ↦ low_bits s ]

unfoldable pub end_state : Bool → Coder → Coder
end_state compressed s = elim (flush_found compressed s) [ true ↦ flush_state compressed s | false ↦ low_state s ]
