-- What a call that is done hands out is good, for every input: its state is well formed, its value within its context, and its histogram
-- well formed. The tests that it passed give what the laws of symbols and of found values ask for.
use Prim.Native.Nat.{ℕ, zero, suc, ◌^◌, ◌≤◌, ◌<◌}
use Rattle.coder.proofs.Counts.{quick_on}
use Rattle.coder_theorems.proofs.Ends.{end_cases}
use Rattle.coder.proofs.Found.{LeadsOn, dynamic_on, plain_on, range_on}
use Rattle.coder.proofs.Judgements.{end-zero, histogram_hold, histogram_true, inverted_hold, inverted_true, limits_hold, read_passed, taken-zero, within_hold, write_passed, write-zero, writer_hold}
use Rattle.coder.proofs.Raising.{read_raised, written-raised}
use Rattle.coder.proofs.Tests.{and_both}
use Rattle.coder.proofs.Spans.{AllCodable, all_wellformed, dynamic_codable, plain_codable, range_codable}
use Rattle.coder.specs.Bytes.{bit_at}
use Rattle.coder.specs.Ending.{end_state, flush_state, low_state}
use Rattle.coder.specs.Forms.{bits_in, code_within, limits_formed, pending_inverted, writer_formed}
use Rattle.coder.specs.Histogram.{Histogram, histogram_formed, span_in, sum, values}
use Rattle.coder.specs.Inside.{found_as}
use Rattle.coder.specs.Interval.{Inverted, WellFormed, after_symbol}
use Rattle.coder.specs.declared.interval.Coder.{Coder}
use Rattle.coder.specs.declared.interval.Span.{Span}
use Rattle.coder.specs.Reading.{read_number, take_dynamic, take_number, take_plain, take_static, taken, taken_histogram}
use Rattle.coder.specs.Stream.{Stream}
use Rattle.coder.specs.Symbols.{after_symbols, dynamic_spans, plain_spans, static_spans}
use Rattle.coder.specs.Totals.{counted_as, quick_symbol, take_by, take_counted, take_quick, take_summed}
use Rattle.coder.specs.Values.{read_dynamic, read_plain, read_static}
use Rattle.coder.specs.declared.read.Found.{Found}
use Rattle.coder.specs.Writing.{dynamic_number, end, end_number, end_as, write, write_dynamic, write_number, write_plain, write_static, written_histogram}
use Rattle.coder.specs.declared.write.Writer.{Writer}
use borrow.Author.Tests.{ltb-true}
use lib.Dec.{eqb, ltb}
use lib.ListN.{length}
use mathlib.Core.Bool.{Bool, true, false, ◌&&◌, ◌||◌, not}
use mathlib.Core.List.{List}
use mathlib.Core.Path.{◌≡◌, refl}
use native.Mathlib.Omega.{arith}

-- ---- writing

module _ (l : List ℕ) (w : Writer) (context_good value_good compresses : Bool) (spans : List Span) where
  abbrev judged : ℕ
  judged = write_number l w.coder context_good value_good (after_symbols w.coder spans)

  -- symbols that are codable where the context and the value are good leave a well-formed state
  write_formed : (context_good ≡ true → value_good ≡ true → AllCodable spans) → (write judged l w compresses spans).number ≡ 0
      → writer_formed (write judged l w compresses spans).writer.coder (length l) ≡ true
  unfolding write
  write_formed codable e =
      let z : judged ≡ 0 = write-zero judged l w compresses spans e in
      let p = write_passed l w.coder context_good value_good _ z in
      rw z (writer_hold _ _ (all_wellformed spans w.coder p.writable.limits (codable p.context p.value)) p.room)

-- Each write that is done leaves a state that the next one takes: well-formed limits, and settled and pending bits that fit the buffer.
pub write_plain_formed : (n : ℕ) (l : List ℕ) (w : Writer) (v : ℕ) → (write_plain n l w v).number ≡ 0
    → writer_formed (write_plain n l w v).writer.coder (length l) ≡ true
unfolding write_plain
write_plain_formed n l w v e = write_formed l w true (ltb v (256 ^ n)) false (plain_spans n v) (λ c g. plain_codable n v) e

pub write_static_formed : (range : ℕ) (l : List ℕ) (w : Writer) (v : ℕ) → (write_static range l w v).number ≡ 0
    → writer_formed (write_static range l w v).writer.coder (length l) ≡ true
unfolding write_static
write_static_formed range l w v e =
    write_formed l w true (ltb v range) true (static_spans range v) (λ c g. range_codable range v (ltb-true _ _ g)) e

pub write_dynamic_formed : (h : Histogram) (l : List ℕ) (w : Writer) (v : ℕ) → (write_dynamic h l w v).number ≡ 0
    → writer_formed (write_dynamic h l w v).writer.coder (length l) ≡ true
unfolding write_dynamic dynamic_number
write_dynamic_formed h l w v e =
    write_formed l w (histogram_formed h) (ltb v values) true (dynamic_spans h v) (λ c g. dynamic_codable h v (histogram_true h c)) e

-- ---- the end

flush_wellformed : (compressed : Bool) (s : Coder) → WellFormed s → WellFormed (flush_state compressed s)
unfolding flush_state
flush_wellformed true s w = all_wellformed (plain_spans 4 0) s w (plain_codable 4 0)
flush_wellformed false s w = w

low_wellformed : (s : Coder) → WellFormed (low_state s)
unfolding low_state
low_wellformed s = omega arith

end_wellformed : (compressed : Bool) (s : Coder) → WellFormed s → WellFormed (end_state compressed s)
end_wellformed compressed s w =
    end_cases (λ (bits : List ℕ) (t : Coder). WellFormed t) compressed s (λ e. flush_wellformed compressed s w) (low_wellformed s)

-- So does the end.
pub end_formed : (l : List ℕ) (w : Writer) → (end l w).number ≡ 0 → writer_formed (end l w).writer.coder (length l) ≡ true
unfolding end end_as end_number
end_formed l w e =
    let z : end_number l w ≡ 0 = end-zero (end_number l w) l w _ _ e in
    let p = write_passed l w.coder true true _ z in
    rw z (writer_hold _ _ (end_wellformed w.compressed w.coder p.writable.limits) p.room)

-- ---- reading

-- a state that a reader hands out is one that it takes, as far as its counts are small: well-formed limits, a number from low to high,
-- and, where it looks, pending bits that are inverted; and the settled bits are within the data
pub record Handed (look : Bool) (d : List ℕ) (s : Coder) : Type 0 where
  pub limits : limits_formed s ≡ true
  pub found : code_within s (bit_at d) ≡ true
  pub looked : (not look || pending_inverted s (bit_at d)) ≡ true
  pub within : s.settled ≤ bits_in d

looked_on : (look : Bool) (x : Stream) (s t : Coder) → (Inverted s x → Inverted t x) → (not look || pending_inverted s x) ≡ true
    → (not look || pending_inverted t x) ≡ true
looked_on true x s t on e = inverted_hold t x (on (inverted_true s x e))
looked_on false x s t on e = refl

module _ (look : Bool) (d : List ℕ) (s : Coder) (context_good range_good : Bool) (found : Found) (value_good : Bool) where
  abbrev judged_read : ℕ
  judged_read = read_number look d s context_good range_good found.state.settled value_good

  -- a value that leads on leaves a good state
  taken-handed : LeadsOn d s context_good range_good found → (taken judged_read found s).number ≡ 0 → Handed look d (taken judged_read found s).state
  unfolding taken
  taken-handed on e =
      let z : judged_read ≡ 0 = taken-zero judged_read found s e in
      let p = read_passed look d s context_good range_good found.state.settled value_good z in
      let t = on p.context p.range p.readable.reading in
      let r = t.reading in
      rw z
      (record {
        limits = limits_hold _ r.limits;
        found = within_hold _ (bit_at d) r.from_low r.to_high;
        looked = looked_on look (bit_at d) s _ t.inverted p.readable.looked;
        within = p.within;
      })

-- Each read that is done hands out such a state.
pub take_plain-handed : (look : Bool) (n : ℕ) (d : List ℕ) (s : Coder) → (take_plain look n d s).number ≡ 0 → Handed look d (take_plain look n d s).state
unfolding take_plain
take_plain-handed look n d s e = taken-handed look d s true true (read_plain n (bit_at d) s) true (plain_on n d s) e

pub take_static-handed : (look : Bool) (range : ℕ) (d : List ℕ) (s : Coder) → (take_static look range d s).number ≡ 0
    → Handed look d (take_static look range d s).state
unfolding take_static
take_static-handed look range d s e =
    taken-handed look d s true (ltb 0 range) (read_static range (bit_at d) s) _ (range_on range d s) e

pub take_dynamic-handed : (h : Histogram) (d : List ℕ) (s : Coder) → (take_dynamic h d s).number ≡ 0 → Handed true d (take_dynamic h d s).state
unfolding take_dynamic take_number
take_dynamic-handed h d s e =
    taken-handed true d s (histogram_formed h) true (read_dynamic h (bit_at d) s) _ (dynamic_on h d s) e

pub take_counted-handed : (total : ℕ) (h : Histogram) (d : List ℕ) (s : Coder) → (take_counted total h d s).result.number ≡ 0
    → Handed false d (take_counted total h d s).result.state
unfolding take_counted take_by take_summed take_quick take_number counted_as
take_counted-handed total h d s e = go (quick_symbol total h (bit_at d) s) refl e
  where
    go : (k : ℕ) → quick_symbol total h (bit_at d) s ≡ k → (take_by k total h d s).result.number ≡ 0 → Handed false d (take_by k total h d s).result.state
    go zero q z =
        taken-handed false d s (eqb (sum h) total && histogram_formed h) true (read_dynamic h (bit_at d) s) _
        (λ c. dynamic_on h d s (and_both (eqb (sum h) total) _ c).1) z
    go (suc v) q z = taken-handed false d s true true _ _ (quick_on total h d s v q) z

-- ---- the value handed out

module _ (look : Bool) (d : List ℕ) (s : Coder) (context_good range_good : Bool) (found : Found) (bound : ℕ) where
  abbrev bounded : ℕ
  bounded = read_number look d s context_good range_good found.state.settled (ltb found.value bound)

  taken_below : (taken bounded found s).number ≡ 0 → (taken bounded found s).value < bound
  unfolding taken
  taken_below e =
      let z : bounded ≡ 0 = taken-zero bounded found s e in
      let p = read_passed look d s context_good range_good found.state.settled (ltb found.value bound) z in
      rw z (ltb-true _ _ p.value)

-- A value that is handed out is below its range, and a dynamic one at most 255.
pub take_static_below : (look : Bool) (range : ℕ) (d : List ℕ) (s : Coder) → (take_static look range d s).number ≡ 0
    → (take_static look range d s).value < range
unfolding take_static
take_static_below look range d s e = taken_below look d s true (ltb 0 range) (read_static range (bit_at d) s) range e

pub take_dynamic_below : (h : Histogram) (d : List ℕ) (s : Coder) → (take_dynamic h d s).number ≡ 0 → (take_dynamic h d s).value < values
unfolding take_dynamic take_number
take_dynamic_below h d s e = taken_below true d s (histogram_formed h) true (read_dynamic h (bit_at d) s) values e

pub take_counted_below : (total : ℕ) (h : Histogram) (d : List ℕ) (s : Coder) → (take_counted total h d s).result.number ≡ 0
    → (take_counted total h d s).result.value < values
unfolding take_counted take_by take_summed take_quick take_number counted_as
take_counted_below total h d s e = go (quick_symbol total h (bit_at d) s) e
  where
    go : (k : ℕ) → (take_by k total h d s).result.number ≡ 0 → (take_by k total h d s).result.value < values
    go zero z = taken_below false d s (eqb (sum h) total && histogram_formed h) true (read_dynamic h (bit_at d) s) values z
    go (suc v) z = taken_below false d s true true (found_as v (after_symbol s (span_in total h (suc v)))) values z

-- ---- the histogram handed out

-- A value that is written or read leaves a well-formed histogram.
pub written_histogram_formed : (h : Histogram) (l : List ℕ) (w : Writer) (v : ℕ) → (write_dynamic h l w v).number ≡ 0
    → histogram_formed (written_histogram h l w v) ≡ true
unfolding write_dynamic written_histogram dynamic_number
written_histogram_formed h l w v e =
    let z : dynamic_number h l w v ≡ 0 = write-zero (dynamic_number h l w v) l w true (dynamic_spans h v) e in
    let p = write_passed l w.coder (histogram_formed h) (ltb v values) _ z in
    rw z (histogram_hold _ (written-raised h v (histogram_true h p.context)))

pub taken_histogram_formed : (h : Histogram) (d : List ℕ) (s : Coder) → (take_dynamic h d s).number ≡ 0
    → histogram_formed (taken_histogram h d s) ≡ true
unfolding take_dynamic taken_histogram take_number
taken_histogram_formed h d s e =
    let found = read_dynamic h (bit_at d) s in
    let z : take_number true (histogram_formed h) d s found ≡ 0 = taken-zero (take_number true (histogram_formed h) d s found) found s e in
    let p = read_passed true d s (histogram_formed h) true _ _ z in
    rw z (histogram_hold _ (read_raised h (bit_at d) s (histogram_true h p.context)))
