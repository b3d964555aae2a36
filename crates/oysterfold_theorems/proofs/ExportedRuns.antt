-- Runs of exported calls are runs of the coder, on what the arrays hold: each call finds in the arrays what the call before gave back.
use Prim.Native.Nat.{ℕ, zero, suc, ◌<◌, ◌≤◌}
use mathlib.Core.Bool.{Bool, true, false}
use mathlib.Core.List.{List, [], ◌∷◌, map}
use mathlib.Core.Path.{◌≡◌, ◌∙◌, ap, refl, sym}
use native.Mathlib.Omega.{arith}
use borrow.Author.Tests.{le-ltb}
use lib.Seq.{length-sets, sets, sets-eq}
use lib.ListN.{get_or-map, get_or, length, length-set, set, take}
use Rattle.fields.specs.Judged.{pick}
use Rattle.coder.specs.Histogram.{Histogram, symbols}
use Rattle.coder.specs.Writing.{Write, end}
use Rattle.coder_theorems.specs.Runs.{Context, Held, Step, WriteCall, after_step, after_steps, call_write, dynamic, escape, finish, held_after, lend, plain, put, static, write_calls}
use Rattle.coder_theorems.proofs.Inner.{map_set}
use Rattle.oysterfold.specs.CoderState.{histogram_into, writer_in, writer_length, writer_words}
use Rattle.oysterfold.specs.Result.{result_words, value_told}
use Rattle.oysterfold.specs.Writing.{handed_by, used_into, write_bytes, written_into}
use Rattle.oysterfold_theorems.specs.ExportedRuns.{AllExported, AllLong, WriteAnswer, Arrays, HasExport, LongEnough, answer_by, exported_end, exported_numbers, exported_put, exported_step, exported_steps, exported_used, frequencies_in, held_in, number_answered}
use Rattle.oysterfold_theorems.proofs.Returned.{end_carried, write_carried, written_carried}

-- a value that is told in a result
pub value_told_lem : (value : ℕ) (result : List ℕ) → result_words ≤ length result → get_or (value_told value result) 1 0 ≡ value
value_told_lem value result h = rw (sets-eq (0 ∷ value ∷ []) result 0 h) refl

-- the frequencies of one array, and after it was changed
pub frequencies_at : (histograms : List (List ℕ)) (k : ℕ) → get_or (frequencies_in histograms) k [] ≡ take symbols (get_or histograms k [])
frequencies_at histograms k = get_or-map (take symbols) histograms k []

pub frequencies_set : (histograms : List (List ℕ)) (k : ℕ) (array : List ℕ) (h : Histogram) → take symbols array ≡ h
    → frequencies_in (set histograms k array) ≡ set (frequencies_in histograms) k h
frequencies_set histograms k array h e =
    sym (map_set (take symbols) histograms k array) ∙ ap (λ (f : Histogram). set (frequencies_in histograms) k f) e

-- ---- a call

-- a call of the exported writer answers as the coder's does, and leaves in the arrays what that leaves
pub record Carried (e : WriteAnswer) (c : WriteCall) : Type 0 where
  pub number : e.number ≡ c.result.number
  pub held : held_in e.arrays ≡ held_after c

carried_by : (state : List ℕ) (histograms : List (List ℕ)) (c : WriteCall) → writer_in (handed_by c.result state).state ≡ c.result.writer
    → frequencies_in histograms ≡ c.histograms → Carried (answer_by (handed_by c.result state) histograms) c
carried_by state histograms c writer frequencies =
    record { number = refl; held = λ i. record { buffer = c.result.bytes; writer = writer i; histograms = frequencies i } }

-- the place of an array that is long enough
pub long_at : (hs : List (List ℕ)) (k : ℕ) → AllLong hs → k < length hs → symbols ≤ length (get_or hs k [])
unfolding AllLong
long_at [] k l h = absurd (omega arith)
long_at (g ∷ hs) zero l h = l.0
long_at (g ∷ hs) (suc k) l h = long_at hs k l.1 (omega arith)

pub long_set : (hs : List (List ℕ)) (k : ℕ) (g : List ℕ) → AllLong hs → (symbols ≤ length (get_or hs k []) → symbols ≤ length g) → AllLong (set hs k g)
unfolding AllLong
long_set [] k g l h = tt
long_set (f ∷ hs) zero g l h = (h l.0, l.1)
long_set (f ∷ hs) (suc k) g l h = (l.0, long_set hs k g l.1 h)

pub into_long : (short : Bool) (frequencies histogram : List ℕ) → symbols ≤ length histogram → symbols ≤ length (histogram_into short frequencies histogram)
unfolding histogram_into
into_long true frequencies histogram h = h
into_long false frequencies histogram h = omega (arith, length-sets histogram 0 frequencies)

-- a state array stays as long as it was
into_state : (short : Bool) (w : Write) (state buffer : List ℕ) → writer_length ≤ length state
    → writer_length ≤ length (written_into short w state buffer).state
unfolding written_into
into_state true w state buffer h = h
into_state false w state buffer h = go w.done
  where
    go : (b : Bool) → writer_length ≤ length (pick b (sets state 0 (writer_words w.writer)) state)
    go true = omega (arith, length-sets state 0 (writer_words w.writer))
    go false = h

module _ (a : Arrays) (long : writer_length ≤ length a.state) where
  put_carried : (c : Context) (v : ℕ) → AllLong a.histograms → HasExport (length a.histograms) c
      → Carried (exported_put a c v) (call_write a.buffer (writer_in a.state) (frequencies_in a.histograms) c v)
  unfolding exported_put written_into write_bytes call_write
  put_carried (plain bytes) v l h =
      rw (le-ltb _ _ long, h) (carried_by a.state a.histograms _ (write_carried a.state long a.buffer (frequencies_in a.histograms) (plain bytes) v) refl)
  put_carried (static range) v l h =
      rw (le-ltb _ _ long) (carried_by a.state a.histograms _ (write_carried a.state long a.buffer (frequencies_in a.histograms) (static range) v) refl)
  put_carried (dynamic k) v l h =
      let many = long_at a.histograms k l h in
      let g : List ℕ = get_or a.histograms k [] in
      let there = frequencies_at a.histograms k in
      let stored = frequencies_set a.histograms k _ _ (written_carried g many a.buffer (writer_in a.state) v) in
      rw (le-ltb _ _ long, le-ltb _ _ many, there)
      (carried_by a.state _ _ (rw there at (write_carried a.state long a.buffer (frequencies_in a.histograms) (dynamic k) v)) stored)

  -- so does an end
  pub end_held : (result : List ℕ) → result_words ≤ length result
      → (let e = end a.buffer (writer_in a.state) in
      ((exported_end result a).number ≡ e.number)
      × (exported_used result a ≡ e.used)
      × (held_in (exported_end result a).arrays ≡ record { buffer = e.bytes; writer = e.writer; histograms = frequencies_in a.histograms }))
  unfolding exported_end written_into used_into
  end_held result h =
      let e = end a.buffer (writer_in a.state) in
      let writer = end_carried a.state long a.buffer in
      rw (le-ltb _ _ long, le-ltb _ _ h) (refl, value_told_lem e.used result h, λ i. record { buffer = e.bytes; writer = writer i; histograms = frequencies_in a.histograms })

-- ---- a run

put_long : (count : ℕ) (a : Arrays) (c : Context) (v : ℕ) → LongEnough count a → LongEnough count (exported_put a c v).arrays
unfolding exported_put
put_long count a (plain bytes) v l = record { state = into_state _ _ a.state a.buffer l.state; histograms = l.histograms; many = l.many }
put_long count a (static range) v l = record { state = into_state _ _ a.state a.buffer l.state; histograms = l.histograms; many = l.many }
put_long count a (dynamic k) v l = record {
  state = into_state _ _ a.state a.buffer l.state;
  histograms = long_set a.histograms k _ l.histograms (λ h. into_long _ _ _ h);
  many = length-set a.histograms k _ ∙ l.many;
}

end_long : (count : ℕ) (result : List ℕ) (a : Arrays) → LongEnough count a → LongEnough count (exported_end result a).arrays
unfolding exported_end
end_long count result a l = record { state = into_state _ _ a.state a.buffer l.state; histograms = l.histograms; many = l.many }

-- the arrays after any steps hold what the coder's caller then holds
pub steps_held : (count : ℕ) (result : List ℕ) (steps : List Step) (a : Arrays) → result_words ≤ length result → LongEnough count a → AllExported count steps
    → (held_in (exported_steps result a steps) ≡ after_steps (held_in a) steps) × LongEnough count (exported_steps result a steps)
unfolding AllExported after_steps after_step exported_steps exported_step
steps_held count result [] a h l x = (refl, l)
steps_held count result (put n ∷ steps) a h l x =
    let c = put_carried a l.state n.context n.value l.histograms (rw l.many x.0) in
    let rest = steps_held count result steps (exported_step result a (put n)) h (put_long count a n.context n.value l) x.1 in
    (rest.0 ∙ ap (λ (k : Held). after_steps k steps) c.held, rest.1)
steps_held count result (escape k v ∷ steps) a h l x = absurd x.0
steps_held count result (lend buffer ∷ steps) a h l x =
    steps_held count result steps (exported_step result a (lend buffer)) h (record { state = l.state; histograms = l.histograms; many = l.many }) x.1
steps_held count result (finish ∷ steps) a h l x =
    let e = end_held a l.state result h in
    let rest = steps_held count result steps (exported_step result a finish) h (end_long count result a l) x.1 in
    (rest.0 ∙ ap (λ (k : Held). after_steps k steps) e.2, rest.1)

-- the calls for numbers answer as the coder's do
pub numbers_answered : (count : ℕ) (result : List ℕ) (steps : List Step) (a : Arrays) → result_words ≤ length result → LongEnough count a
    → AllExported count steps → exported_numbers result a steps ≡ map number_answered (write_calls (held_in a) steps)
unfolding AllExported after_step exported_numbers exported_step write_calls
numbers_answered count result [] a h l x = refl
numbers_answered count result (put n ∷ steps) a h l x =
    let c = put_carried a l.state n.context n.value l.histograms (rw l.many x.0) in
    let rest = numbers_answered count result steps (exported_step result a (put n)) h (put_long count a n.context n.value l) x.1 in
    rw (c.number, ← c.held, rest) refl
numbers_answered count result (escape k v ∷ steps) a h l x = absurd x.0
numbers_answered count result (lend buffer ∷ steps) a h l x =
    numbers_answered count result steps (exported_step result a (lend buffer)) h (record { state = l.state; histograms = l.histograms; many = l.many }) x.1
numbers_answered count result (finish ∷ steps) a h l x =
    let e = end_held a l.state result h in
    rw (← e.2) (numbers_answered count result steps (exported_step result a finish) h (end_long count result a l) x.1)
