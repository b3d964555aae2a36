-- The reader for runs of numbers, in dynamic contexts. Beside the frequencies it is lent their total, as the call before left it, and adds
-- them up again only where it must. Where the total is their sum it answers as the judged reader does (theorem `inner_is_judged`).
use Rattle.std.specs.Prelude.{ℕ, zero, suc, ◌+◌, true, false, cond, ◌&&◌, List, ◌==◌, Result}
use Rattle.coder.specs.Bytes.{bit_at}
use Rattle.coder.specs.Histogram.{Histogram, add_at, below_full, histogram_formed, part_fits, span_in, sum, symbol_at}
use Rattle.coder.specs.Interval.{Coder, after_symbol, target}
use Rattle.coder.specs.Reading.{Taken, read_given, take_number, taken}
use Rattle.coder.specs.Stream.{Stream}
use Rattle.coder.specs.Values.{Found, read_after, read_dynamic}
use Rattle.coder.specs.Writing.{kept}
use Rattle.fields.specs.declared.refusal.Fault.{Fault}

-- the symbol that the total leads to; 0 where the frequencies have to be added up
unfoldable pub quick_symbol : ℕ → Histogram → Stream → Coder → ℕ
quick_symbol total h x s =
    let k = symbol_at h (target s x total) in
    cond (below_full total && part_fits total h k) k 0

-- what an answer says, beside what the caller's frequencies and their total are then
pub record Counted : Type 0 where
  pub result : Taken
  pub histogram : Histogram
  pub total : ℕ

abbrev pub counted_given : Coder → Result Found Fault → Histogram → ℕ → Counted
counted_given s r h total = record { result = read_given s r; histogram = h; total = total }

-- a refusal leaves both
unfoldable pub counted_as : ℕ → Found → Coder → Histogram → Histogram → ℕ → ℕ → Counted
counted_as number found s later h after total =
    record { result = taken number found s; histogram = kept number later h; total = kept number after total }

-- the frequencies added up: 18 where their sum is not the total
unfoldable pub take_summed : ℕ → Histogram → List ℕ → Coder → Counted
take_summed total h d s =
    let found = read_dynamic h (bit_at d) s in
    let later = read_after h (bit_at d) s in
    counted_as (take_number false (sum h == total && histogram_formed h) d s found) found s later h (sum later) total

-- a value's symbol that was found without this
unfoldable pub take_quick : ℕ → ℕ → Histogram → List ℕ → Coder → Counted
take_quick v total h d s =
    let found : Found = record { value = v; state = after_symbol s (span_in total h (suc v)) } in
    counted_as (take_number false true d s found) found s (add_at h (suc v)) h (total + 1) total

unfoldable pub take_by : ℕ → ℕ → Histogram → List ℕ → Coder → Counted
take_by zero total h d s = take_summed total h d s
take_by (suc v) total h d s = take_quick v total h d s

unfoldable pub take_counted : ℕ → Histogram → List ℕ → Coder → Counted
take_counted total h d s = take_by (quick_symbol total h (bit_at d) s) total h d s
