-- A number that a call wrote is read back by the reader's call in the same context, from any data that continue what the call left: the
-- reader is pointed to the number's symbols, and passes each test because the writer did.
use Prim.Native.Nat.{ℕ, zero, suc, ◌^◌, ◌≤◌, ◌<◌}
use Rattle.coder.proofs.Backward.{Pointed}
use Rattle.coder_theorems.proofs.Continuing.{Continues, end_back, symbols_back}
use Rattle.coder.proofs.Judgements.{Readable, Writable, end-zero, histogram_true, looked_hold, read_hold, write_passed, write-zero}
use Rattle.coder_theorems.proofs.ReadBack.{dynamic_found, escape_found, plain_found, static_found}
use Rattle.coder.proofs.Spans.{AllCodable, dynamic_codable, plain_codable, range_codable}
use Rattle.coder.proofs.Weights.{span_codable, weight_inside}
use Rattle.coder.specs.Bytes.{bit_at, store_bits}
use Rattle.coder.specs.Histogram.{Histogram, WellFormedHistogram, histogram_formed, values}
use Rattle.coder.specs.Interval.{Agrees, code}
use Rattle.coder.specs.declared.interval.Coder.{Coder}
use Rattle.coder.specs.declared.interval.Span.{Span}
use Rattle.coder.specs.declared.read.Found.{Found}
use Rattle.coder.specs.Reading.{read_number, take_dynamic, take_number, take_plain, take_static, taken, taken_histogram}
use Rattle.coder_theorems.specs.Runs.{Context, Histograms, Typed, call_escape, call_read, call_write, called, dynamic, escape_after, escape_spans, plain, read_back, static}
use Rattle.coder.specs.Symbols.{after_symbols, dynamic_after, dynamic_spans, plain_spans, static_spans, symbols_bits}
use Rattle.coder.specs.Writing.{dynamic_number, end, end_number, end_as, kept, write, write_dynamic, write_number, write_plain, write_static, written_histogram}
use Rattle.coder.specs.declared.write.Writer.{Writer}
use Rattle.fields.specs.Limits.{largest_file}
use borrow.Author.Tests.{lt-ltb, ltb-true}
use lib.Dec.{ltb}
use lib.ListN.{get_or, length, take}
use lib.Seq.{set-get_or}
use mathlib.Core.Bool.{Bool, true, false, true≢false, false≢true}
use mathlib.Core.List.{List, [], ◌++◌}
use mathlib.Core.Path.{◌≡◌, refl}
use native.Mathlib.Omega.{arith}

-- ---- a writer's call

-- what is known of a done call when the data continue what it left
record Back (d l : List ℕ) (s : Coder) (context_good value_good : Bool) (spans : List Span) : Type 0 where
  done : write_number l s context_good value_good (after_symbols s spans) ≡ 0
  value : value_good ≡ true
  pointed : Pointed s (bit_at d) spans
  earlier : Continues d l s
  passes : (range_good read_good : Bool) → range_good ≡ true → read_good ≡ true
      → read_number true d s context_good range_good (after_symbols s spans).settled read_good ≡ 0

back : (d l : List ℕ) (w : Writer) (context_good value_good compresses : Bool) (spans : List Span)
    → (context_good ≡ true → value_good ≡ true → AllCodable spans)
    → (let r = write (write_number l w.coder context_good value_good (after_symbols w.coder spans)) l w compresses spans in
    r.number ≡ 0 → Continues d r.bytes r.writer.coder → Back d l w.coder context_good value_good spans)
unfolding write
back d l w context_good value_good compresses spans codable e h =
    let s : Coder = w.coder in
    let done = write-zero _ l w compresses spans e in
    let p = write_passed l s context_good value_good (after_symbols s spans) done in
    let good : Writable s (length l) = p.writable in
    let after : Continues d (store_bits l s.settled (symbols_bits s spans)) (after_symbols s spans) = rw done at h in
    let b = symbols_back d l s spans (codable p.context p.value) good.limits (omega (arith, p.room)) after in
    let a : Agrees s (bit_at d) = b.1.agrees in
    let ready : Readable true d s
    = record {
      small = h.small;
      reading = record { limits = good.limits; from_low = a.from_low; to_high = a.to_high };
      settled_small = omega arith;
      pending_small = omega arith;
      looked = looked_hold true s (bit_at d) a.inverted;
    } in
    record {
      done = done;
      value = p.value;
      pointed = b.0;
      earlier = b.1;
      passes = λ range_good read_good range value.
          read_hold true d s context_good range_good _ read_good
          (record { readable = ready; context = p.context; range = range; within = after.inside; value = value });
    }

-- ---- the same call of the reader

-- The reader's call in a context gives back the number that the writer's call in it was handed, and the data continue what was there before.
pub call_back : (d l : List ℕ) (w : Writer) (hs : Histograms) (c : Context) (v : ℕ) → Typed c v
    → (let r = call_write l w hs c v in r.result.number ≡ 0 → Continues d r.result.bytes r.result.writer.coder
    → (call_read d w.coder hs c ≡ read_back (called (record { context = c; value = v }) r)) × Continues d l w.coder)
unfolding call_read call_write dynamic_number take_dynamic take_number take_plain take_static taken taken_histogram write write_dynamic write_plain
    write_static written_histogram
call_back d l w hs (plain n) v t e h =
    let b = back d l w true (ltb v (256 ^ n)) false (plain_spans n v) (λ _ _. plain_codable n v) e h in
    let f = plain_found n v (bit_at d) w.coder t b.pointed in
    (rw (f, b.done, b.passes true true refl refl), b.earlier)
call_back d l w hs (static range) v t e h =
    let b = back d l w true (ltb v range) true (static_spans range v) (λ _ below. range_codable range v (ltb-true _ _ below)) e h in
    let f = static_found range v (bit_at d) w.coder t b.pointed in
    let below : v < range = ltb-true _ _ b.value in
    (rw (f, b.done, b.passes (ltb 0 range) (ltb v range) (lt-ltb 0 range (omega arith)) b.value), b.earlier)
call_back d l w hs (dynamic k) v t e h =
    let g : Histogram = get_or hs k [] in
    let b = back d l w (histogram_formed g) (ltb v values) true (dynamic_spans g v)
    (λ formed _. dynamic_codable g v (histogram_true g formed)) e h in
    let f = dynamic_found g v (bit_at d) w.coder t b.pointed in
    (rw (f.0, f.1, b.done, b.passes true (ltb v values) refl b.value), b.earlier)

-- So it does that of another writer's escape for a value already seen.
escape_codable : (h : Histogram) (v : ℕ) → WellFormedHistogram h → AllCodable (escape_spans h v)
escape_codable h v f = (span_codable h 0 f (weight_inside h 0 f.escape) f.escape, plain_codable 4 v)

pub escape_back : (d l : List ℕ) (w : Writer) (hs : Histograms) (k v : ℕ) → v < 256 ^ 4
    → (let r = call_escape l w hs k v in r.result.number ≡ 0 → Continues d r.result.bytes r.result.writer.coder
    → (call_read d w.coder hs (dynamic k) ≡ read_back (called (record { context = dynamic k; value = v }) r)) × Continues d l w.coder)
unfolding call_escape call_read take_dynamic take_number taken taken_histogram write
escape_back d l w hs k v t e h =
    let g : Histogram = get_or hs k [] in
    let b = back d l w (histogram_formed g) (ltb v values) true (escape_spans g v) (λ formed _. escape_codable g v (histogram_true g formed)) e h in
    let f = escape_found g v (bit_at d) w.coder t b.pointed in
    (rw (f.0, f.1, b.done, b.passes true (ltb v values) refl b.value), b.earlier)

-- ---- calls that are refused

-- a write is done with the number 0, or leaves buffer and writer
write_done : (n : ℕ) (l : List ℕ) (w : Writer) (compresses : Bool) (spans : List Span) → (write n l w compresses spans).done ≡ true
    → (write n l w compresses spans).number ≡ 0
unfolding write
write_done zero l w compresses spans e = refl
write_done (suc n) l w compresses spans e = absurd (false≢true e)

write_refused : (n : ℕ) (l : List ℕ) (w : Writer) (compresses : Bool) (spans : List Span) (later lent : Histogram)
    → (let r = write n l w compresses spans in r.done ≡ false → (r.bytes ≡ l) × (r.writer ≡ w) × (kept n later lent ≡ lent))
unfolding write
write_refused zero l w compresses spans later lent e = absurd (true≢false e)
write_refused (suc n) l w compresses spans later lent e = (refl, refl, refl)

pub call_done : (l : List ℕ) (w : Writer) (hs : Histograms) (c : Context) (v : ℕ)
    → (let r = call_write l w hs c v in r.result.done ≡ true → r.result.number ≡ 0)
unfolding call_write write_plain write_static write_dynamic
call_done l w hs (plain n) v e = write_done _ l w false _ e
call_done l w hs (static range) v e = write_done _ l w true _ e
call_done l w hs (dynamic k) v e = write_done _ l w true _ e

-- A call that is refused leaves all that was lent.
pub call_refused : (l : List ℕ) (w : Writer) (hs : Histograms) (c : Context) (v : ℕ)
    → (let r = call_write l w hs c v in r.result.done ≡ false → (r.result.bytes ≡ l) × (r.result.writer ≡ w) × (r.histograms ≡ hs))
unfolding call_write write_plain write_static write_dynamic written_histogram
call_refused l w hs (plain n) v e = let r = write_refused _ l w false _ [] [] e in (r.0, r.1, refl)
call_refused l w hs (static range) v e = let r = write_refused _ l w true _ [] [] e in (r.0, r.1, refl)
call_refused l w hs (dynamic k) v e =
    let h : Histogram = get_or hs k [] in
    let r = write_refused (dynamic_number h l w v) l w true (dynamic_spans h v) (dynamic_after h v) h e in
    (r.0, r.1, rw r.2 (set-get_or hs k []))

pub escape_done : (l : List ℕ) (w : Writer) (hs : Histograms) (k v : ℕ)
    → (let r = call_escape l w hs k v in r.result.done ≡ true → r.result.number ≡ 0)
unfolding call_escape
escape_done l w hs k v e = write_done _ l w true _ e

pub escape_refused : (l : List ℕ) (w : Writer) (hs : Histograms) (k v : ℕ)
    → (let r = call_escape l w hs k v in r.result.done ≡ false → (r.result.bytes ≡ l) × (r.result.writer ≡ w) × (r.histograms ≡ hs))
unfolding call_escape
escape_refused l w hs k v e =
    let h : Histogram = get_or hs k [] in
    let r = write_refused _ l w true (escape_spans h v) (escape_after h v) h e in
    (r.0, r.1, rw r.2 (set-get_or hs k []))

-- So does an end.
as_refused : (n : ℕ) (l : List ℕ) (w : Writer) (next : Coder) (bits : List ℕ)
    → (let r = end_as n l w next bits in r.done ≡ false → (r.bytes ≡ l) × (r.writer ≡ w))
unfolding end_as
as_refused zero l w next bits e = absurd (true≢false e)
as_refused (suc n) l w next bits e = (refl, refl)

as_done : (n : ℕ) (l : List ℕ) (w : Writer) (next : Coder) (bits : List ℕ)
    → (let r = end_as n l w next bits in r.done ≡ true → r.number ≡ 0)
unfolding end_as
as_done zero l w next bits e = refl
as_done (suc n) l w next bits e = absurd (false≢true e)

pub end_done : (l : List ℕ) (w : Writer) → (end l w).done ≡ true → (end l w).number ≡ 0
unfolding end
end_done l w e = as_done (end_number l w) l w _ _ e

pub end_refused : (l : List ℕ) (w : Writer) → (end l w).done ≡ false → ((end l w).bytes ≡ l) × ((end l w).writer ≡ w)
unfolding end
end_refused l w e = as_refused (end_number l w) l w _ _ e

-- A read is done with the number 0, or gives back the state that was handed in.
pub taken_done : (n : ℕ) (found : Found) (s : Coder) → (taken n found s).done ≡ true → (taken n found s).number ≡ 0
unfolding taken
taken_done zero found s e = refl
taken_done (suc n) found s e = absurd (false≢true e)

pub taken_refused : (n : ℕ) (found : Found) (s : Coder) → (taken n found s).done ≡ false → (taken n found s).state ≡ s
unfolding taken
taken_refused zero found s e = absurd (true≢false e)
taken_refused (suc n) found s e = refl

-- ---- the end

-- The bytes that the end says are used, whatever follows them, continue what was there before it.
pub ended_back : (l rest : List ℕ) (w : Writer) → (end l w).number ≡ 0
    → (let s = w.coder in let d = take (end l w).used (end l w).bytes ++ rest in
    length d ≤ largest_file → (w.compressed ≡ false → s.low ≡ 0 → s.pending ≡ 0 → code s (bit_at d) ≤ s.high) → Continues d l s)
unfolding end end_number end_as
ended_back l rest w e small number =
    let done = end-zero (end_number l w) l w _ _ e in
    let p = write_passed l w.coder _ _ _ done in
    rw done (end_back w.compressed l rest w.coder p.writable.limits (omega (arith, p.room)) (rw done at small) (rw done at number))
