-- What a call stores in the arrays that are lent is what the next call takes out of them: a state, a writer's state, a histogram.
use Prim.Native.Nat.{ℕ, zero, suc, ◌≤◌}
use mathlib.Core.Bool.{Bool, true, false, cond}
use mathlib.Core.Path.{◌≡◌, ◌∙◌, refl, sym}
use mathlib.Core.List.{List, [], map}
use borrow.Author.Tests.{le-ltb}
use native.Mathlib.Omega.{arith}
use lib.Dec.{eqb, leb}
use lib.ListN.{get_or, length, length-map, length-set, length-take, take, take-append-drop}
use lib.Seq.{sets, sets-eq, take_at}
use Rattle.fields.specs.Judged.{pick}
use Rattle.coder.proofs.Judgements.{limits_true, writer_true}
use Rattle.coder.proofs.Spans.{dynamic_cases}
use Rattle.coder.specs.Bytes.{bit_at}
use Rattle.coder.specs.Histogram.{Histogram, add_at, fresh_histogram, halve, histogram_formed, largest_total, raised, sum, symbols, thinned}
use Rattle.coder.specs.Interval.{WellFormed, fresh}
use Rattle.coder.specs.Reading.{Taken, take_dynamic, take_number, take_plain, take_static, taken, taken_histogram}
use Rattle.coder.specs.Symbols.{dynamic_after}
use Rattle.coder.specs.Values.{next_symbol, read_after, read_dynamic, symbol_after}
use Rattle.coder.specs.Writing.{Write, dynamic_number, end, fresh_writer, kept, write, write_dynamic, written_histogram}
use Rattle.coder.specs.declared.interval.Coder.{Coder}
use Rattle.coder.specs.declared.interval.Span.{Span}
use Rattle.coder.specs.declared.write.Writer.{Writer}
use Rattle.coder_theorems.specs.Runs.{Context, Histograms, call_read, call_write, dynamic, plain, static}
use Rattle.coder_theorems.proofs.Calls.{call_done, call_refused, end_done, end_refused, taken_done, taken_refused}
use Rattle.coder_theorems.proofs.States.{end_formed, take_dynamic-handed, take_plain-handed, take_static-handed, write_dynamic_formed, write_plain_formed, write_static_formed}
use Rattle.oysterfold.proofs.Lengths.{taken_length, written_length}
use Rattle.oysterfold.specs.CoderState.{coder_in, coder_length, coder_words, flag_of, histogram_into, low_in, no_limit, writer_in, writer_length, writer_words}
use Rattle.oysterfold.specs.Fresh.{stored_into}
use Rattle.oysterfold.specs.Writing.{end_write, handed_by}
use Rattle.oysterfold.specs.Reading as reading

-- A state of the coder, whose limits are U32s.
pub coder_returned : (state : List ℕ) (s : Coder) → coder_length ≤ length state → s.low ≤ no_limit → s.high ≤ no_limit
    → coder_in (sets state 0 (coder_words s)) ≡ s
coder_returned state s long low high = rw (sets-eq (coder_words s) state 0 long, le-ltb _ _ low, le-ltb _ _ high)

-- A writer's state.
flag_returned : (low : ℕ) (b : Bool) → (low_in low (flag_of b) ≡ low) × (eqb (flag_of b) 1 ≡ b)
flag_returned low true = (refl, refl)
flag_returned low false = (refl, refl)

pub writer_returned : (state : List ℕ) (w : Writer) → writer_length ≤ length state → w.coder.low ≤ no_limit → w.coder.high ≤ no_limit
    → writer_in (sets state 0 (writer_words w)) ≡ w
writer_returned state w long low high =
    let flag = flag_returned w.coder.low w.compressed in
    rw (sets-eq (writer_words w) state 0 long, le-ltb _ _ low, le-ltb _ _ high, flag.0, flag.1)

-- The 257 frequencies of a histogram.
pub histogram_returned : (histogram frequencies : List ℕ) → symbols ≤ length histogram → length frequencies ≡ symbols
    → take symbols (sets histogram 0 frequencies) ≡ frequencies
histogram_returned histogram frequencies long many =
    rw (sets-eq frequencies histogram 0 (omega arith)) (take_at frequencies _ symbols many)

-- ---- a writer's calls

call_formed : (l : List ℕ) (w : Writer) (hs : Histograms) (c : Context) (v : ℕ)
    → (let r = (call_write l w hs c v).result in r.number ≡ 0 → WellFormed r.writer.coder)
unfolding call_write
call_formed l w hs (plain n) v e = (writer_true _ (length l) (write_plain_formed n l w v e)).0
call_formed l w hs (static range) v e = (writer_true _ (length l) (write_static_formed range l w v e)).0
call_formed l w hs (dynamic k) v e = (writer_true _ (length l) (write_dynamic_formed (get_or hs k []) l w v e)).0

module _ (state : List ℕ) (long : writer_length ≤ length state) where
  carried : (r : Write) → (r.done ≡ true → WellFormed r.writer.coder) → (r.done ≡ false → r.writer ≡ writer_in state)
      → writer_in (handed_by r state).state ≡ r.writer
  carried r formed same = go r.done refl
    where
      go : (b : Bool) → r.done ≡ b → writer_in (pick b (sets state 0 (writer_words r.writer)) state) ≡ r.writer
      go true e = let w = formed e in writer_returned state r.writer long (omega arith) (omega arith)
      go false e = sym (same e)

  -- After a write, done or refused, the array has the writer that the coder gave back.
  pub write_carried : (buffer : List ℕ) (hs : Histograms) (c : Context) (v : ℕ)
      → (let r = (call_write buffer (writer_in state) hs c v).result in writer_in (handed_by r state).state ≡ r.writer)
  write_carried buffer hs c v =
      let w = writer_in state in
      carried (call_write buffer w hs c v).result
      (λ e. call_formed buffer w hs c v (call_done buffer w hs c v e)) (λ e. (call_refused buffer w hs c v e).1)

  -- So it has after an end.
  pub end_carried : (buffer : List ℕ) → (let e = end buffer (writer_in state) in writer_in (handed_by (end_write e) state).state ≡ e.writer)
  end_carried buffer =
      let w = writer_in state in
      carried (end_write (end buffer w)) (λ e. (writer_true _ (length buffer) (end_formed buffer w (end_done buffer w e))).0) (λ e. (end_refused buffer w e).1)

-- ---- a reader's calls

read_formed : (d : List ℕ) (s : Coder) (hs : Histograms) (c : Context)
    → (let t = (call_read d s hs c).result in t.done ≡ true → WellFormed t.state)
unfolding call_read take_plain take_static take_dynamic
read_formed d s hs (plain n) e = limits_true _ (take_plain-handed true n d s (taken_done _ _ s e)).limits
read_formed d s hs (static range) e = limits_true _ (take_static-handed true range d s (taken_done _ _ s e)).limits
read_formed d s hs (dynamic k) e = limits_true _ (take_dynamic-handed (get_or hs k []) d s (taken_done _ _ s e)).limits

read_refused : (d : List ℕ) (s : Coder) (hs : Histograms) (c : Context) → (let t = (call_read d s hs c).result in t.done ≡ false → t.state ≡ s)
unfolding call_read take_plain take_static take_dynamic
read_refused d s hs (plain n) e = taken_refused _ _ s e
read_refused d s hs (static range) e = taken_refused _ _ s e
read_refused d s hs (dynamic k) e = taken_refused _ _ s e

-- After a read, done or refused, the array has the state that the coder gave back.
pub read_carried : (state d result : List ℕ) (hs : Histograms) (c : Context) → coder_length ≤ length state
    → (let t = (call_read d (coder_in state) hs c).result in coder_in (reading.handed_by t state result).state ≡ t.state)
read_carried state d result hs c long = go t.done refl
  where
    t : Taken
    t = (call_read d (coder_in state) hs c).result

    go : (b : Bool) → t.done ≡ b → coder_in (pick b (sets state 0 (coder_words t.state)) state) ≡ t.state
    go true e = let w = read_formed d (coder_in state) hs c e in coder_returned state t.state long (omega arith) (omega arith)
    go false e = sym (read_refused d (coder_in state) hs c e)

-- ---- a dynamic context's histogram

module _ (histogram : List ℕ) (long : symbols ≤ length histogram) where
  into_carried : (frequencies : List ℕ) → length frequencies ≡ length (take symbols histogram)
      → take symbols (histogram_into false frequencies histogram) ≡ frequencies
  unfolding histogram_into
  into_carried frequencies many = histogram_returned histogram frequencies long (many ∙ simp length-take (omega arith))

  -- After a write or a read, done or refused, the array has the frequencies that the coder gave back.
  pub written_carried : (l : List ℕ) (w : Writer) (v : ℕ)
      → (let after = written_histogram (take symbols histogram) l w v in take symbols (histogram_into false after histogram) ≡ after)
  written_carried l w v = into_carried _ (written_length (take symbols histogram) l w v)

  pub taken_carried : (d : List ℕ) (s : Coder)
      → (let after = taken_histogram (take symbols histogram) d s in take symbols (histogram_into false after histogram) ≡ after)
  taken_carried d s = into_carried _ (taken_length (take symbols histogram) d s)

  -- A refused write or read leaves the whole array as it was lent.
  kept_left : (short : Bool) (n : ℕ) (later : List ℕ) → (n ≡ 0 → ⊥) → histogram_into short (kept n later (take symbols histogram)) histogram ≡ histogram
  unfolding histogram_into
  kept_left true n later h = refl
  kept_left false zero later h = absurd (h refl)
  kept_left false (suc n) later h =
      let many : length (take symbols histogram) ≡ symbols = simp length-take (omega arith) in
      rw (sets-eq (take symbols histogram) histogram 0 (omega arith), many) (take-append-drop symbols histogram)

  pub write_left : (short : Bool) (l : List ℕ) (w : Writer) (v : ℕ) → ((write_dynamic (take symbols histogram) l w v).number ≡ 0 → ⊥)
      → histogram_into short (written_histogram (take symbols histogram) l w v) histogram ≡ histogram
  unfolding written_histogram write_dynamic write
  write_left short l w v h = kept_left short (dynamic_number (take symbols histogram) l w v) _ (λ e. h (rw e refl))

  pub read_left : (short : Bool) (d : List ℕ) (s : Coder) → ((take_dynamic (take symbols histogram) d s).number ≡ 0 → ⊥)
      → histogram_into short (taken_histogram (take symbols histogram) d s) histogram ≡ histogram
  unfolding taken_histogram take_dynamic taken
  read_left short d s h = kept_left short (take_number true _ d s _) _ (λ e. h (rw e refl))

-- ---- what the fresh functions store

module _ (array : List ℕ) where
  pub writer_fresh : writer_length ≤ length array → writer_in (stored_into (writer_words fresh_writer) array).words ≡ fresh_writer
  unfolding stored_into
  writer_fresh long = rw (le-ltb _ _ long) (writer_returned array fresh_writer long (omega arith) (omega arith))

  pub reader_fresh : coder_length ≤ length array → coder_in (stored_into (coder_words fresh) array).words ≡ fresh
  unfolding stored_into
  reader_fresh long = rw (le-ltb _ _ long) (coder_returned array fresh long (omega arith) (omega arith))

  pub histogram_fresh : symbols ≤ length array → take symbols (stored_into fresh_histogram array).words ≡ fresh_histogram
  unfolding stored_into
  histogram_fresh long = rw (le-ltb (length array) symbols long) (histogram_returned array fresh_histogram long refl)
