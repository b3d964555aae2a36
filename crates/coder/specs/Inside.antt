-- What the private functions ask of one another.
use Rattle.std.specs.Prelude.{◌≡◌, ℕ, zero, suc, ◌+◌, ◌-◌, ◌*◌, ◌^◌, ◌<◌, ◌≤◌, Bool, true, false, ◌&&◌, List, [], ◌∷◌, length, take, ◌==◌, nat_le, nat_lt, slice_index, Result, Ok, Err, Option, Some, None}
use Rattle.coder.specs.Bytes.{bit_at}
use Rattle.coder.specs.Forms.{fits, limits_formed, unless}
use Rattle.coder.specs.Histogram.{Histogram, add_at, escaped, histogram_formed, largest_total, span_in, span_of, sum, values}
use Rattle.coder.specs.Interval.{Codable, Coder, Span, WellFormed, after_symbol, code, largest_range}
use Rattle.coder.specs.Reading.{read_fault}
use Rattle.coder.specs.Stream.{Stream}
use Rattle.coder.specs.Symbols.{after_symbols, reversed}
use Rattle.coder.specs.Totals.{Counted, counted_as, quick_symbol}
use Rattle.coder.specs.Values.{Found, next_symbol, read_after, read_dynamic}
use Rattle.coder.specs.Writing.{End, Write, Writer, end_as, write}
use Rattle.coder.specs.declared.histogram.Symbol.{Symbol}
use Rattle.fields.specs.Limits.{largest_file}
use Rattle.fields.specs.Numbers.{bad_state, fault_number, no_room, out_of_range, over_limit, truncated}
use Rattle.fields.specs.declared.refusal.Fault.{Fault}

-- n more bits can be counted
pub record Room (n : ℕ) (s : Coder) : Type 0 where
  pub room : s.settled + s.pending + n < 2 ^ 64

-- the product of an interval's size and a frequency fits, and it can be divided
pub record Divisible (range weight total : ℕ) : Type 0 where
  pub narrow-range : range ≤ 0x10000
  pub within : weight ≤ total
  pub some : 1 ≤ total
  pub small : total ≤ largest_range

-- the bytes are not too many, and hold the settled and the pending bits
pub record Holds (bytes : List ℕ) (s : Coder) : Type 0 where
  pub small : length bytes ≤ largest_file
  pub within : s.settled + s.pending ≤ 8 * length bytes

-- n bytes from i on, each with its bits in reverse order; and all of them
abbrev pub reversed_from : ℕ → ℕ → List ℕ
reversed_from i zero = []
reversed_from i (suc n) = reversed 8 i ∷ reversed_from (suc i) n

unfoldable pub reversed_bytes : List ℕ
reversed_bytes = reversed_from 0 256

-- the number that three bytes make, the first of them the lowest; zeros past the end
abbrev pub three_at : List ℕ → ℕ → ℕ
three_at l i = slice_index l i + 0x100 * slice_index l (i + 1) + 0x10000 * slice_index l (i + 2)

-- a reader's state between two symbols, whatever the bits are that it passed over
pub record Reading (s : Coder) (x : Stream) : Type 0 where
  pub limits : WellFormed s
  pub from_low : s.low ≤ code s x
  pub to_high : code s x ≤ s.high

-- such a state, and the number that it finds there
pub record Pointed (s : Coder) (x : Stream) (number : ℕ) : Type 0 where
  pub reading : Reading s x
  pub same : number ≡ code s x

-- what a reader judges before it looks at the bits: the size of the data (9), then limits and counts (18)
unfoldable pub count_fault : Coder → ℕ → ℕ
count_fault s len =
    unless (nat_le len largest_file) over_limit
    (unless (limits_formed s && (nat_lt s.settled (2 ^ 32) && nat_lt s.pending (2 ^ 32))) bad_state 0)

-- what a read begins with, but for the pending bits: the number that the reader finds, or what is wrong
abbrev pub Started : List ℕ → Coder → Result ℕ Fault → Type 0
Started d s (Ok number) = (0 ≡ read_fault false d s) × (number ≡ code s (bit_at d))
Started d s (Err f) = fault_number f ≡ read_fault false d s

-- what is left to judge of a write at no fault: the room
abbrev pub room_number : List ℕ → Coder → ℕ
room_number l next = unless (fits next (length l)) no_room 0

abbrev pub write_room : List ℕ → Writer → Bool → List Span → Write
write_room l w compresses spans = write (room_number l (after_symbols w.coder spans)) l w compresses spans

-- what is left to judge of a value that a reader at no fault found in so many bytes
abbrev pub value_number : ℕ → Found → Bool → ℕ
value_number len found good = unless (nat_le found.state.settled (8 * len)) truncated (unless good out_of_range 0)

-- the same in a dynamic context
abbrev pub context_number : ℕ → Found → ℕ
context_number len found = value_number len found (nat_lt found.value values)

abbrev pub found_as : ℕ → Coder → Found
found_as v s = record { value = v; state = s }

-- the symbol of a value: its own, or escape where its frequency is 0; and the plain bytes that follow it
unfoldable pub lead_of : Histogram → ℕ → ℕ
lead_of h v = elim (escaped h v) [ true ↦ 0 | false ↦ suc v ]

abbrev pub bytes_after_lead : ℕ → ℕ
bytes_after_lead zero = 4
bytes_after_lead (suc k) = 0

-- the next symbol, the frequencies before it, and what the reader then meets
pub record Next (h : Histogram) (x : Stream) (s : Coder) (index start : ℕ) : Type 0 where
  pub same : index ≡ next_symbol h x s
  pub before_it : start ≡ sum (take index h)
  pub inside : index < length h
  pub codable : Codable (span_of h index)
  pub reading : Reading (after_symbol s (span_of h index)) x

-- a symbol for which nothing has to be added up, and the frequencies before it
pub record Quick (total : ℕ) (h : Histogram) (x : Stream) (s : Coder) (index start : ℕ) : Type 0 where
  pub same : index ≡ quick_symbol total h x s
  pub before_it : start ≡ sum (take index h)
  pub some : 0 < index
  pub inside : index < length h
  pub below : total < largest_total
  pub codable : Codable (span_in total h index)

-- such a symbol, or none
abbrev pub QuickGiven : ℕ → Histogram → Stream → Coder → Option Symbol → Type 0
QuickGiven total h x s (Some symbol) = Quick total h x s symbol.index symbol.start
QuickGiven total h x s None = 0 ≡ quick_symbol total h x s

-- an answer with the frequencies and their total, at no fault: of such a symbol, and of frequencies that are added up
abbrev pub quick_counted : ℕ → Coder → Histogram → ℕ → ℕ → Counted
quick_counted len s h total k =
    let found = found_as (k - 1) (after_symbol s (span_in total h k)) in
    counted_as (context_number len found) found s (add_at h k) h (total + 1) total

abbrev pub summed_counted : List ℕ → Coder → Histogram → ℕ → Counted
summed_counted d s h total =
    let found = read_dynamic h (bit_at d) s in
    let later = read_after h (bit_at d) s in
    counted_as (unless (sum h == total && histogram_formed h) bad_state (context_number (length d) found)) found s later h (sum later) total

-- an end at no fault
abbrev pub end_room : List ℕ → Writer → Coder → List ℕ → End
end_room l w next bits = end_as (room_number l next) l w next bits

-- a step of a reader: the value is below the range, and the next step can be made
pub record Stepped (range : ℕ) (x : Stream) (s : Coder) (found : Found) (bits : ℕ) : Type 0 where
  pub value_below : found.value < range
  pub reading : Reading found.state x
  pub near : found.state.settled + found.state.pending ≤ s.settled + s.pending + bits
