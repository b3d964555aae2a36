-- Runs of the exported coder: what a caller keeps in arrays between two calls. Each call does what its function promises, on the arrays that the
-- call before left.
use Rattle.std.specs.Prelude.{ℕ, ◌<◌, ◌≤◌, ◌||◌, true, List, [], ◌∷◌, map, ◌≡◌, get_or, length, set, take}
use Rattle.coder.specs.Histogram.{symbols}
use Rattle.coder.specs.Reading.{take_dynamic, take_static, taken_histogram}
use Rattle.coder.specs.Writing.{end, write_dynamic, write_static, written_histogram}
use Rattle.coder_theorems.specs.Runs.{Called, Context, Held, Histograms, ReadCall, Step, dynamic, escape, finish, lend, plain, put, static}
use Rattle.oysterfold.specs.CoderState.{coder_in, coder_length, context_short, histogram_into, is_width, shorter, writer_in, writer_length}
use Rattle.oysterfold.specs.Reading as reading
use Rattle.oysterfold.specs.Result.{result_words}
use Rattle.oysterfold.specs.Writing.{Handed, end_write, used_into, write_bytes, written_into}

-- the 257 frequencies at the start of each histogram array
abbrev pub frequencies_in : List (List ℕ) → Histograms
frequencies_in histograms = map (take symbols) histograms

-- ---- writing

-- a writer's state, histograms, and the buffer
pub record Arrays : Type 0 where
  pub state : List ℕ
  pub histograms : List (List ℕ)
  pub buffer : List ℕ

-- what the coder takes out of them
abbrev pub held_in : Arrays → Held
held_in a = record { buffer = a.buffer; writer = writer_in a.state; histograms = frequencies_in a.histograms }

-- 01's number, and the arrays after a call
pub record WriteAnswer : Type 0 where
  pub number : ℕ
  pub arrays : Arrays

abbrev pub answer_by : Handed → List (List ℕ) → WriteAnswer
answer_by h histograms = record { number = h.number; arrays = record { state = h.state; histograms = histograms; buffer = h.buffer } }

-- oysterfold_write_plain, oysterfold_write_static, oysterfold_write_dynamic
unfoldable pub exported_put : Arrays → Context → ℕ → WriteAnswer
exported_put a (plain bytes) v =
    answer_by (written_into (shorter writer_length a.state) (write_bytes bytes a.buffer (writer_in a.state) v) a.state a.buffer) a.histograms
exported_put a (static range) v =
    answer_by (written_into (shorter writer_length a.state) (write_static range a.buffer (writer_in a.state) v) a.state a.buffer) a.histograms
exported_put a (dynamic k) v =
    let histogram = get_or a.histograms k [] in
    let short = context_short writer_length a.state histogram in
    let w = writer_in a.state in
    answer_by (written_into short (write_dynamic (take symbols histogram) a.buffer w v) a.state a.buffer)
    (set a.histograms k (histogram_into short (written_histogram (take symbols histogram) a.buffer w v) histogram))

-- oysterfold_write_end, with its result: place and bytes used
unfoldable pub exported_end : List ℕ → Arrays → WriteAnswer
exported_end result a =
    let short = shorter result_words result || shorter writer_length a.state in
    answer_by (written_into short (end_write (end a.buffer (writer_in a.state))) a.state a.buffer) a.histograms

abbrev pub exported_used : List ℕ → Arrays → ℕ
exported_used result a = get_or (used_into (shorter writer_length a.state) (end a.buffer (writer_in a.state)) result) 1 0

-- the arrays after a step; no exported function escapes a value that was seen
unfoldable pub exported_step : List ℕ → Arrays → Step → Arrays
exported_step result a (put n) = (exported_put a n.context n.value).arrays
exported_step result a (escape k v) = a
exported_step result a (lend buffer) = record { state = a.state; histograms = a.histograms; buffer = buffer }
exported_step result a finish = (exported_end result a).arrays

unfoldable pub exported_steps : List ℕ → Arrays → List Step → Arrays
exported_steps result a [] = a
exported_steps result a (step ∷ steps) = exported_steps result (exported_step result a step) steps

-- the numbers that the calls for numbers answer
unfoldable pub exported_numbers : List ℕ → Arrays → List Step → List ℕ
exported_numbers result a [] = []
exported_numbers result a (put n ∷ steps) = (exported_put a n.context n.value).number ∷ exported_numbers result (exported_step result a (put n)) steps
exported_numbers result a (escape k v ∷ steps) = exported_numbers result (exported_step result a (escape k v)) steps
exported_numbers result a (lend buffer ∷ steps) = exported_numbers result (exported_step result a (lend buffer)) steps
exported_numbers result a (finish ∷ steps) = exported_numbers result (exported_step result a finish) steps

abbrev pub number_answered : Called → ℕ
number_answered c = c.call.result.number

-- ---- reading

-- what the exported readers answer: 01's number, the value, and the arrays after it
pub record ReadAnswer : Type 0 where
  pub number : ℕ
  pub value : ℕ
  pub state : List ℕ
  pub histograms : List (List ℕ)

abbrev pub read_by : reading.Handed → List (List ℕ) → ReadAnswer
read_by h histograms = record { number = h.number; value = get_or h.result 1 0; state = h.state; histograms = histograms }

-- oysterfold_read_plain, oysterfold_read_static, oysterfold_read_dynamic, each with its result: place and value
unfoldable pub exported_read : List ℕ → List ℕ → List ℕ → List (List ℕ) → Context → ReadAnswer
exported_read result d state histograms (plain bytes) =
    read_by (reading.read_into (shorter coder_length state) (reading.take_bytes bytes d (coder_in state)) state result) histograms
exported_read result d state histograms (static range) =
    read_by (reading.read_into (shorter coder_length state) (take_static true range d (coder_in state)) state result) histograms
exported_read result d state histograms (dynamic k) =
    let histogram = get_or histograms k [] in
    let short = context_short coder_length state histogram in
    read_by (reading.read_into short (take_dynamic (take symbols histogram) d (coder_in state)) state result)
    (set histograms k (histogram_into (shorter result_words result || short) (taken_histogram (take symbols histogram) d (coder_in state)) histogram))

unfoldable pub exported_reads : List ℕ → List ℕ → List ℕ → List (List ℕ) → List Context → List ReadAnswer
exported_reads result d state histograms [] = []
exported_reads result d state histograms (c ∷ cs) =
    let r = exported_read result d state histograms c in
    r ∷ exported_reads result d r.state r.histograms cs

-- ---- what a caller lends

-- histogram arrays that are long enough
unfoldable pub AllLong : List (List ℕ) → Type 0
AllLong [] = Unit {0}
AllLong (h ∷ hs) = (symbols ≤ length h) × AllLong hs

-- a writer's arrays that are long enough, with so many histograms
pub record LongEnough (count : ℕ) (a : Arrays) : Type 0 where
  pub state : writer_length ≤ length a.state
  pub histograms : AllLong a.histograms
  pub many : length a.histograms ≡ count

-- and a reader's
pub record ReaderLongEnough (count : ℕ) (state : List ℕ) (histograms : List (List ℕ)) : Type 0 where
  pub own : coder_length ≤ length state
  pub frequencies : AllLong histograms
  pub many : length histograms ≡ count

-- a context that has an exported function: a width of 1, 2 or 4 bytes, or a place among so many histograms
abbrev pub HasExport : ℕ → Context → Type 0
HasExport count (plain bytes) = is_width bytes ≡ true
HasExport count (static range) = Unit {0}
HasExport count (dynamic k) = k < count

unfoldable pub AllHaveExports : ℕ → List Context → Type 0
AllHaveExports count [] = Unit {0}
AllHaveExports count (c ∷ cs) = HasExport count c × AllHaveExports count cs

abbrev pub StepExported : ℕ → Step → Type 0
StepExported count (put n) = HasExport count n.context
StepExported count (escape k v) = ⊥
StepExported count (lend buffer) = Unit {0}
StepExported count finish = Unit {0}

unfoldable pub AllExported : ℕ → List Step → Type 0
AllExported count [] = Unit {0}
AllExported count (step ∷ steps) = StepExported count step × AllExported count steps

-- ---- what is told

-- the answer to a call for a number, its value, and the frequencies after it
pub record Report : Type 0 where
  pub number : ℕ
  pub value : ℕ
  pub histograms : Histograms

abbrev pub report : ℕ → ℕ → Histograms → Report
report number value histograms = record { number = number; value = value; histograms = histograms }

-- of an exported read, of the coder's own, and of a number that the writer took
abbrev pub read_report : ReadAnswer → Report
read_report r = report r.number r.value (frequencies_in r.histograms)

abbrev pub call_report : ReadCall → Report
call_report r = report r.result.number r.result.value r.histograms

abbrev pub written_report : Called → Report
written_report c = report 0 c.number.value c.call.histograms
