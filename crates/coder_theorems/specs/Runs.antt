-- Runs of calls: numbers in contexts, written one after the other in buffers that are lent, and read back. Each call is handed the state and
-- the histograms that the one before gave back.
use Rattle.std.specs.Prelude.{ℕ, suc, ◌^◌, ◌<◌, ltb, get_or, set, take, true, false, List, [], ◌∷◌, map, ◌≡◌}
use Rattle.coder.specs.Bytes.{bytes_of}
use Rattle.coder.specs.Histogram.{Histogram, histogram_formed, raised, span_of, sum, values}
use Rattle.coder.specs.declared.interval.Coder.{Coder}
use Rattle.coder.specs.declared.interval.Span.{Span}
use Rattle.coder.specs.Reading.{Taken, take_dynamic, take_plain, take_static, taken_histogram}
use Rattle.coder.specs.Symbols.{after_symbols, plain_spans}
use Rattle.coder.specs.Totals.{take_counted}
use Rattle.coder.specs.Writing.{End, Write, end, fresh_writer, kept, write, write_dynamic, write_number, write_plain, write_static, written_histogram}
use Rattle.coder.specs.declared.write.Writer.{Writer}
use Rattle.fields.specs.Judged.{pick}

pub data Context : Type 0 where
  -- so many plain bytes
  plain : ℕ → Context
  -- a range
  static : ℕ → Context
  -- the place of a histogram
  dynamic : ℕ → Context

-- the symbols of a number: an escape or a range above 0x3FFE has a plain U32
abbrev pub most_symbols : Context → ℕ
most_symbols (plain n) = n
most_symbols (static range) = 4
most_symbols (dynamic k) = 5

abbrev pub Histograms : Type 0
Histograms = List Histogram

pub record Number : Type 0 where
  pub context : Context
  pub value : ℕ

-- ---- writing

pub record WriteCall : Type 0 where
  pub result : Write
  pub histograms : Histograms

unfoldable pub call_write : List ℕ → Writer → Histograms → Context → ℕ → WriteCall
call_write l w hs (plain n) v = record { result = write_plain n l w v; histograms = hs }
call_write l w hs (static range) v = record { result = write_static range l w v; histograms = hs }
call_write l w hs (dynamic k) v =
    record { result = write_dynamic (get_or hs k []) l w v; histograms = set hs k (written_histogram (get_or hs k []) l w v) }

-- the symbols of an escaped value, and the histogram after it
abbrev pub escape_spans : Histogram → ℕ → List Span
escape_spans h v = span_of h 0 ∷ plain_spans 4 v

abbrev pub escape_after : Histogram → ℕ → Histogram
escape_after h v = raised (raised h 0) (suc v)

-- a call of another writer, which escapes a value though it was seen: "a reader accepts an escape for a value already seen, too"
unfoldable pub call_escape : List ℕ → Writer → Histograms → ℕ → ℕ → WriteCall
call_escape l w hs k v =
    let h = get_or hs k [] in
    let number = write_number l w.coder (histogram_formed h) (ltb v values) (after_symbols w.coder (escape_spans h v)) in
    record { result = write number l w true (escape_spans h v); histograms = set hs k (kept number (escape_after h v) h) }

-- what a writer's caller holds between two calls
pub record Held : Type 0 where
  pub buffer : List ℕ
  pub writer : Writer
  pub histograms : Histograms

abbrev pub begun : List ℕ → Histograms → Held
begun buffer hs = record { buffer = buffer; writer = fresh_writer; histograms = hs }

-- what it does: it hands the writer a number, or, in the dynamic context at a place, has a value escaped by another; lends another buffer; or
-- asks for the end
pub data Step : Type 0 where
  put : Number → Step
  escape : ℕ → ℕ → Step
  lend : List ℕ → Step
  finish : Step

abbrev pub put_call : Held → Number → WriteCall
put_call h n = call_write h.buffer h.writer h.histograms n.context n.value

abbrev pub escape_call : Held → ℕ → ℕ → WriteCall
escape_call h k v = call_escape h.buffer h.writer h.histograms k v

abbrev pub end_call : Held → End
end_call h = end h.buffer h.writer

abbrev pub held_after : WriteCall → Held
held_after c = record { buffer = c.result.bytes; writer = c.result.writer; histograms = c.histograms }

unfoldable pub after_step : Held → Step → Held
after_step h (put n) = held_after (put_call h n)
after_step h (escape k v) = held_after (escape_call h k v)
after_step h (lend buffer) = record { buffer = buffer; writer = h.writer; histograms = h.histograms }
after_step h finish = record { buffer = (end_call h).bytes; writer = (end_call h).writer; histograms = h.histograms }

unfoldable pub after_steps : Held → List Step → Held
after_steps h [] = h
after_steps h (step ∷ steps) = after_steps (after_step h step) steps

-- another buffer keeps the settled bytes of the one before, and an end within the run is refused
abbrev pub Keeps : Held → Step → Type 0
Keeps h (put n) = Unit {0}
Keeps h (escape k v) = Unit {0}
Keeps h (lend buffer) = let n = bytes_of h.writer.coder.settled in take n buffer ≡ take n h.buffer
Keeps h finish = (end_call h).done ≡ false

unfoldable pub AllKeep : Held → List Step → Type 0
AllKeep h [] = Unit {0}
AllKeep h (step ∷ steps) = Keeps h step × AllKeep (after_step h step) steps

-- a number that the writer was handed, and what it answered
pub record Called : Type 0 where
  pub number : Number
  pub call : WriteCall

abbrev pub called : Number → WriteCall → Called
called n c = record { number = n; call = c }

unfoldable pub write_calls : Held → List Step → List Called
write_calls h [] = []
write_calls h (put n ∷ steps) = called n (put_call h n) ∷ write_calls (after_step h (put n)) steps
write_calls h (escape k v ∷ steps) = called (record { context = dynamic k; value = v }) (escape_call h k v) ∷ write_calls (after_step h (escape k v)) steps
write_calls h (lend buffer ∷ steps) = write_calls (after_step h (lend buffer)) steps
write_calls h (finish ∷ steps) = write_calls (after_step h finish) steps

-- the calls that were done: the numbers that the writer took
unfoldable pub taken_calls : List Called → List Called
taken_calls [] = []
taken_calls (c ∷ cs) = pick c.call.result.done (c ∷ taken_calls cs) (taken_calls cs)

abbrev pub number_in : Called → Number
number_in c = c.number

abbrev pub context_in : Called → Context
context_in c = c.number.context

-- ---- reading

pub record ReadCall : Type 0 where
  pub result : Taken
  pub histograms : Histograms

unfoldable pub call_read : List ℕ → Coder → Histograms → Context → ReadCall
call_read d s hs (plain n) = record { result = take_plain true n d s; histograms = hs }
call_read d s hs (static range) = record { result = take_static true range d s; histograms = hs }
call_read d s hs (dynamic k) = record { result = take_dynamic (get_or hs k []) d s; histograms = set hs k (taken_histogram (get_or hs k []) d s) }

unfoldable pub read_calls : List ℕ → Coder → Histograms → List Context → List ReadCall
read_calls d s hs [] = []
read_calls d s hs (c ∷ cs) =
    let r = call_read d s hs c in
    r ∷ read_calls d r.result.state r.histograms cs

-- the same by the reader for runs of numbers, with the histograms' totals
pub record TakeCall : Type 0 where
  pub result : Taken
  pub histograms : Histograms
  pub totals : List ℕ

unfoldable pub call_take : List ℕ → Coder → Histograms → List ℕ → Context → TakeCall
call_take d s hs totals (plain n) = record { result = take_plain false n d s; histograms = hs; totals = totals }
call_take d s hs totals (static range) = record { result = take_static false range d s; histograms = hs; totals = totals }
call_take d s hs totals (dynamic k) =
    let t = take_counted (get_or totals k 0) (get_or hs k []) d s in
    record { result = t.result; histograms = set hs k t.histogram; totals = set totals k t.total }

unfoldable pub take_calls : List ℕ → Coder → Histograms → List ℕ → List Context → List TakeCall
take_calls d s hs totals [] = []
take_calls d s hs totals (c ∷ cs) =
    let r = call_take d s hs totals c in
    r ∷ take_calls d r.result.state r.histograms r.totals cs

-- what is told of a judged call, and the sums of its histograms
abbrev pub with_totals : ReadCall → TakeCall
with_totals r = record { result = r.result; histograms = r.histograms; totals = map sum r.histograms }

-- what a reader has to give back of a number that was taken: the number, and the state and histograms that the writer's call left
abbrev pub read_back : Called → ReadCall
read_back c = record {
  result = record { number = 0; done = true; value = c.number.value; state = c.call.result.writer.coder };
  histograms = c.call.histograms;
}

-- a number is one of its call's type
abbrev pub Typed : Context → ℕ → Type 0
Typed (plain n) v = v < 256 ^ n
Typed (static range) v = v < 256 ^ 4
Typed (dynamic k) v = v < 256 ^ 4

unfoldable pub AllTyped : List Number → Type 0
AllTyped [] = Unit {0}
AllTyped (n ∷ ns) = Typed n.context n.value × AllTyped ns
