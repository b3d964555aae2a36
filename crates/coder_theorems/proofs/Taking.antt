-- Numbers that their contexts take are all taken, and so is their end, in a buffer that is long enough: each call leaves a state and histograms
-- that are well formed, and at most 16 bits more for each symbol.
use Prim.Native.Nat.{ℕ, zero, suc, ◌+◌, ◌*◌, ◌/◌, ◌^◌, ◌≤◌}
use Rattle.coder.proofs.Flushing.{end_flush, end_none}
use Rattle.coder.proofs.Judgements.{histogram_hold, histogram_true, writer_hold}
use Rattle.coder.proofs.Raising.{written-raised}
use Rattle.coder.proofs.Spans.{AllCodable, all_wellformed, dynamic_cases, dynamic_codable, plain_codable, range_codable}
use Rattle.coder.specs.Ending.{end_state}
use Rattle.coder.specs.Histogram.{Histogram, histogram_formed, values}
use Rattle.coder.specs.Interval.{WellFormed, largest_range}
use Rattle.coder.specs.Symbols.{after_symbols, dynamic_after, dynamic_spans, plain_spans, static_span, static_spans}
use Rattle.coder.specs.Writing.{dynamic_number, end, end_as, end_number, write, write_dynamic, write_fault, write_number, write_plain, write_static, written_histogram}
use Rattle.coder.specs.declared.interval.Coder.{Coder}
use Rattle.coder.specs.declared.interval.Span.{Span}
use Rattle.coder.specs.declared.write.Writer.{Writer}
use Rattle.coder_theorems.proofs.Doubling.{bits, symbols_few}
use Rattle.coder_theorems.proofs.Opening.{Opened, Whole, steps_opened}
use Rattle.coder_theorems.proofs.Steady.{formed_at, formed_set}
use Rattle.coder_theorems.proofs.Storing.{length_store}
use Rattle.coder_theorems.specs.Runs.{AllKeep, Context, Held, Histograms, Number, WriteCall, after_step, after_steps, begun, call_write, dynamic, end_call, most_symbols, number_in, plain, put, static, taken_calls, write_calls}
use Rattle.coder_theorems.specs.Faults.{AllFormed}
use Rattle.coder_theorems.specs.Enough.{AllTake, Takes, all_symbols, enough}
use Rattle.fields.specs.Limits.{largest_file}
use borrow.Author.Tests.{le-leb, lt-ltb}
use lib.Dec.{leb, ltb}
use lib.ListN.{get_or, length, length-set}
use mathlib.Core.Bool.{Bool, true, false}
use mathlib.Core.List.{List, [], ◌∷◌, map}
use mathlib.Core.Path.{◌≡◌, ◌∙◌, ap, refl}
use native.Mathlib.Omega.{arith}

-- ---- how many symbols

plain_length : (n v : ℕ) → length (plain_spans n v) ≡ n
unfolding plain_spans
plain_length zero v = refl
plain_length (suc n) v = ap suc (plain_length n (v / 256))

static_length : (range v : ℕ) → length (static_spans range v) ≤ most_symbols (static range)
unfolding static_spans
static_length range v = go (leb range largest_range)
  where
    go : (t : Bool) → length {A = Span} (elim t [ true ↦ static_span range v ∷ [] | false ↦ plain_spans 4 v ]) ≤ 4
    go true = omega arith
    go false = omega (arith, plain_length 4 v)

dynamic_length : (h : Histogram) (v : ℕ) → length (dynamic_spans h v) ≤ 5
dynamic_length h v = dynamic_cases (λ spans _. length spans ≤ 5) h v (omega (arith, plain_length 4 v)) (λ _. omega arith)

-- ---- a call

number_zero : (l : List ℕ) (s next : Coder) (context_good value_good : Bool) → length l ≤ largest_file → WellFormed s → bits s ≤ 8 * length l
    → context_good ≡ true → value_good ≡ true → bits next ≤ 8 * length l → write_number l s context_good value_good next ≡ 0
unfolding write_number write_fault
number_zero l s next context_good value_good small w h context value room =
    rw (le-leb _ _ small, writer_hold s (length l) w h, context, value, le-leb _ _ room)

-- a buffer of `len` bytes and a writer of at most `used` bits
record Ready (len used : ℕ) (l : List ℕ) (w : Writer) : Type 0 where
  long : length l ≡ len
  limits : WellFormed w.coder
  few : bits w.coder ≤ used

later : {len used more : ℕ} {l : List ℕ} {w : Writer} → Ready len used l w → used ≤ more → Ready len more l w
later r h = record { long = r.long; limits = r.limits; few = omega (arith, r.few) }

module _ (len used more : ℕ) (small : len ≤ largest_file) (room : used + 16 * more ≤ 8 * len) (l : List ℕ) (w : Writer) (r : Ready len used l w) where
  -- so many symbols, where context and value are good
  taken : (context_good value_good compresses : Bool) (spans : List Span) → context_good ≡ true → value_good ≡ true → AllCodable spans
      → length spans ≤ more
      → (let n = write_number l w.coder context_good value_good (after_symbols w.coder spans) in
      let c = write n l w compresses spans in
      (n ≡ 0) × (c.done ≡ true) × Ready len (used + 16 * more) c.bytes c.writer)
  unfolding write
  taken context_good value_good compresses spans context value codable few =
      let grown = symbols_few spans w.coder r.limits codable in
      let e = number_zero l w.coder (after_symbols w.coder spans) context_good value_good (omega (arith, r.long)) r.limits
      (omega (arith, r.long, r.few)) context value (omega (arith, r.long, r.few)) in
      let limits = all_wellformed spans w.coder r.limits codable in
      (e, rw e refl, rw e (record { long = length_store _ l _ ∙ r.long; limits = limits; few = omega (arith, r.few) }))

-- a call is done, and leaves a writer and histograms of the same kind
record Goes (len used count : ℕ) (call : WriteCall) : Type 0 where
  done : call.result.done ≡ true
  ready : Ready len used call.result.bytes call.result.writer
  formed : AllFormed call.histograms
  many : length call.histograms ≡ count

call_goes : (len used : ℕ) (l : List ℕ) (w : Writer) (hs : Histograms) (c : Context) (v : ℕ) → len ≤ largest_file → Ready len used l w
    → AllFormed hs → Takes (length hs) c v → used + 16 * most_symbols c ≤ 8 * len
    → Goes len (used + 16 * most_symbols c) (length hs) (call_write l w hs c v)
unfolding call_write dynamic_number write_dynamic write_plain write_static written_histogram
call_goes len used l w hs (plain n) v small r a t room =
    let g = taken len used n small room l w r true (ltb v (256 ^ n)) false (plain_spans n v) refl (lt-ltb _ _ t) (plain_codable n v)
    (omega (arith, plain_length n v)) in
    record { done = g.1; ready = g.2; formed = a; many = refl }
call_goes len used l w hs (static range) v small r a t room =
    let g = taken len used 4 small room l w r true (ltb v range) true (static_spans range v) refl (lt-ltb _ _ t) (range_codable range v t)
    (static_length range v) in
    record { done = g.1; ready = g.2; formed = a; many = refl }
call_goes len used l w hs (dynamic k) v small r a t room =
    let h : Histogram = get_or hs k [] in
    let formed = formed_at hs k a t.0 in
    let well = histogram_true h formed in
    let g = taken len used 5 small room l w r (histogram_formed h) (ltb v values) true (dynamic_spans h v) formed (lt-ltb _ _ t.1) (dynamic_codable h v well)
    (dynamic_length h v) in
    let raised : histogram_formed (dynamic_after h v) ≡ true = histogram_hold _ (written-raised h v well) in
    record { done = g.1; ready = g.2; formed = formed_set hs k _ a (rw g.0 raised); many = simp length-set }

-- ---- numbers one after the other

-- they are all taken, and the writer is ready for the end
record AllTaken (len used : ℕ) (h : Held) (ns : List Number) : Type 0 where
  keep : AllKeep h (map put ns)
  taken : map number_in (taken_calls (write_calls h (map put ns))) ≡ ns
  ready : Ready len used (after_steps h (map put ns)).buffer (after_steps h (map put ns)).writer

numbers_taken : (len used : ℕ) (ns : List Number) (h : Held) → len ≤ largest_file → Ready len used h.buffer h.writer
    → AllFormed h.histograms → AllTake (length h.histograms) ns → used + 16 * all_symbols ns ≤ 8 * len
    → AllTaken len (used + 16 * all_symbols ns) h ns
unfolding AllKeep AllTake after_step after_steps taken_calls write_calls
numbers_taken len used [] h small r a t room = record { keep = tt; taken = refl; ready = later r (omega arith) }
numbers_taken len used (n ∷ ns) h small r a t room =
    let next = after_step h (put n) in
    let g = call_goes len used h.buffer h.writer h.histograms n.context n.value small r a t.0 (omega arith) in
    let rest = numbers_taken len (used + 16 * most_symbols n.context) ns next small g.ready g.formed (rw g.many t.1) (omega arith) in
    record { keep = (tt, rest.keep); taken = rw g.done (ap (λ (ms : List Number). n ∷ ms) rest.taken); ready = later rest.ready (omega arith) }

-- ---- the end

-- a plain U32 of 0, or nothing where no compressed value was written
end_few : (s : Coder) → WellFormed s → (compressed : Bool) → (compressed ≡ false → Whole s)
    → bits (end_state compressed s) ≤ bits s + 16 * most_symbols (plain 4)
end_few s w true opened =
    let more = symbols_few (plain_spans 4 0) s w (plain_codable 4 0) in
    rw (end_flush s w).0 (omega (arith, plain_length 4 0))
end_few s w false opened = let h = opened refl in rw (end_none s w h.low h.pending).0 (omega arith)

end-taken : (len used : ℕ) (l : List ℕ) (w : Writer) → len ≤ largest_file → Ready len used l w → used + 16 * most_symbols (plain 4) ≤ 8 * len
    → Opened w → ((end l w).number ≡ 0) × ((end l w).used ≤ len)
unfolding end end_number end_as
end-taken len used l w small r room opened =
    let few = end_few w.coder r.limits w.compressed opened in
    rw (number_zero l w.coder (end_state w.compressed w.coder) true true (omega (arith, r.long)) r.limits
    (omega (arith, r.long, r.few)) refl refl (omega (arith, r.long, r.few))) (refl, omega (arith, r.few))

-- Any numbers that their contexts take, in well-formed histograms, are all taken from the fresh state on, one after the other in one buffer that
-- has 16 bits for each symbol, and so is their end, whose bytes lie within the buffer.
pub all-taken : (ns : List Number) (hs : Histograms) (buffer : List ℕ) → AllFormed hs → AllTake (length hs) ns → enough ns ≤ length buffer
    → length buffer ≤ largest_file
    → (let start = begun buffer hs in
    let ended = end_call (after_steps start (map put ns)) in
    AllKeep start (map put ns) × (map number_in (taken_calls (write_calls start (map put ns))) ≡ ns) × (ended.number ≡ 0) × (ended.used ≤ length buffer))
all-taken ns hs buffer a t room small =
    let start = begun buffer hs in
    let fresh-ready : Ready (length buffer) 0 buffer start.writer = record { long = refl; limits = omega arith; few = omega arith } in
    let all = numbers_taken (length buffer) 0 ns start small fresh-ready a t (omega arith) in
    let last = after_steps start (map put ns) in
    let opened : Opened last.writer = steps_opened (map put ns) start all.keep (λ _. omega arith) in
    let ended = end-taken (length buffer) _ last.buffer last.writer small all.ready (omega arith) opened in
    (all.keep, all.taken, ended.0, ended.1)
