-- What the reader answers for every input: 01's number, the value, and the state; a dynamic context's histogram after it. A refusal's
-- place is always 0. Where `look` is false the reader trusts that the pending bits were found inverted when it made the state itself.
use Rattle.std.specs.Prelude.{ℕ, zero, suc, Bool, true, false, not, ◌&&◌, ◌||◌, List, length, nat_le, nat_lt, Result, Ok, Err}
use Rattle.coder.specs.Bytes.{bit_at}
use Rattle.coder.specs.Forms.{bits_in, first, pending_inverted, reader_formed, unless}
use Rattle.coder.specs.Histogram.{Histogram, histogram_formed, values}
use Rattle.coder.specs.Interval.{Coder}
use Rattle.coder.specs.Values.{Found, read_after, read_dynamic, read_plain, read_static}
use Rattle.coder.specs.Writing.{kept}
use Rattle.fields.specs.Limits.{largest_file}
use Rattle.fields.specs.Numbers.{bad_state, fault_number, out_of_range, over_limit, truncated}
use Rattle.fields.specs.declared.refusal.Fault.{Fault}

-- 01's number, and whether the answer is done: just where the number is 0
pub record Taken : Type 0 where
  pub number : ℕ
  pub done : Bool
  pub value : ℕ
  pub state : Coder

-- what an answer says; a refusal leaves the state that was handed in
abbrev pub read_given : Coder → Result Found Fault → Taken
read_given s (Ok found) = record { number = 0; done = true; value = found.value; state = found.state }
read_given s (Err f) = record { number = fault_number f; done = false; value = 0; state = s }

-- what every read judges first: the size of the data (9), then the state (18)
unfoldable pub read_fault : Bool → List ℕ → Coder → ℕ
read_fault look d s =
    unless (nat_le (length d) largest_file) over_limit
    (unless (reader_formed s (bit_at d) && (not look || pending_inverted s (bit_at d))) bad_state 0)

-- then the histogram (18), a range of 0 (10), the settled bits against the data's end (1), and the value (10)
unfoldable pub read_number : Bool → List ℕ → Coder → Bool → Bool → ℕ → Bool → ℕ
read_number look d s context_good range_good settled value_good =
    first (read_fault look d s)
    (unless context_good bad_state (unless range_good out_of_range (unless (nat_le settled (bits_in d)) truncated (unless value_good out_of_range 0))))

-- "A refusal gives back number and place with every other result 0, and the state that was handed in"
unfoldable pub taken : ℕ → Found → Coder → Taken
taken zero found s = record { number = 0; done = true; value = found.value; state = found.state }
taken (suc n) found s = record { number = suc n; done = false; value = 0; state = s }

-- n plain bytes
unfoldable pub take_plain : Bool → ℕ → List ℕ → Coder → Taken
take_plain look n d s =
    let found = read_plain n (bit_at d) s in
    taken (read_number look d s true true found.state.settled true) found s

-- a static range
unfoldable pub take_static : Bool → ℕ → List ℕ → Coder → Taken
take_static look range d s =
    let found = read_static range (bit_at d) s in
    taken (read_number look d s true (nat_lt 0 range) found.state.settled (nat_lt found.value range)) found s

-- a dynamic context: the number of an answer that found this value
unfoldable pub take_number : Bool → Bool → List ℕ → Coder → Found → ℕ
take_number look context_good d s found = read_number look d s context_good true found.state.settled (nat_lt found.value values)

unfoldable pub take_dynamic : Histogram → List ℕ → Coder → Taken
take_dynamic h d s =
    let found = read_dynamic h (bit_at d) s in
    taken (take_number true (histogram_formed h) d s found) found s

unfoldable pub taken_histogram : Histogram → List ℕ → Coder → Histogram
taken_histogram h d s = kept (take_number true (histogram_formed h) d s (read_dynamic h (bit_at d) s)) (read_after h (bit_at d) s) h
