-- Exported reads are the coder's, on what the arrays hold.
use Prim.Native.Nat.{ℕ, ◌≤◌}
use mathlib.Core.Bool.{Bool, true, false}
use mathlib.Core.List.{List, [], ◌∷◌, map}
use mathlib.Core.Path.{◌≡◌, ◌∙◌, refl}
use native.Mathlib.Omega.{arith}
use borrow.Author.Tests.{le-ltb}
use lib.Dec.{ltb}
use lib.ListN.{get_or, length, length-set}
use lib.Seq.{length-sets, sets}
use Rattle.fields.specs.Judged.{pick}
use Rattle.fields.specs.Numbers.{no_room}
use Rattle.coder.specs.Reading.{Taken}
use Rattle.coder_theorems.specs.Runs.{Context, ReadCall, call_read, dynamic, plain, read_calls, static}
use Rattle.oysterfold.specs.CoderState.{coder_in, coder_length, coder_words}
use Rattle.oysterfold.specs.Reading as reading
use Rattle.oysterfold.specs.Result.{result_words, value_told}
use Rattle.oysterfold_theorems.specs.ExportedRuns.{AllHaveExports, AllLong, HasExport, ReadAnswer, ReaderLongEnough, call_report, exported_read, exported_reads, frequencies_in, read_by, read_report}
use Rattle.oysterfold_theorems.proofs.Returned.{read_carried, taken_carried}
use Rattle.oysterfold_theorems.proofs.ExportedRuns.{frequencies_at, frequencies_set, into_long, long_at, long_set, value_told_lem}

-- an exported read answers as the coder's does, and leaves in the arrays what that leaves
record ReadCarried (r : ReadAnswer) (c : ReadCall) : Type 0 where
  number : r.number ≡ c.result.number
  value : r.value ≡ c.result.value
  state : coder_in r.state ≡ c.result.state
  frequencies : frequencies_in r.histograms ≡ c.histograms

module _ (result : List ℕ) (h : result_words ≤ length result) (d state : List ℕ) (long : coder_length ≤ length state) (histograms : List (List ℕ)) where
  read_by_lem : (c : ReadCall) (after : List (List ℕ)) → coder_in (reading.handed_by c.result state result).state ≡ c.result.state
      → frequencies_in after ≡ c.histograms → ReadCarried (read_by (reading.handed_by c.result state result) after) c
  read_by_lem c after same frequencies =
      record { number = refl; value = value_told_lem c.result.value result h; state = same; frequencies = frequencies }

  reading_carried : (c : Context) → AllLong histograms → HasExport (length histograms) c
      → ReadCarried (exported_read result d state histograms c) (call_read d (coder_in state) (frequencies_in histograms) c)
  unfolding exported_read reading.read_into reading.take_bytes call_read
  reading_carried (plain bytes) l x =
      rw (le-ltb _ _ h, le-ltb _ _ long, x) (read_by_lem _ histograms (read_carried state d result (frequencies_in histograms) (plain bytes) long) refl)
  reading_carried (static range) l x =
      rw (le-ltb _ _ h, le-ltb _ _ long) (read_by_lem _ histograms (read_carried state d result (frequencies_in histograms) (static range) long) refl)
  reading_carried (dynamic k) l x =
      let g : List ℕ = get_or histograms k [] in
      let many = long_at histograms k l x in
      let there = frequencies_at histograms k in
      let stored = frequencies_set histograms k _ _ (taken_carried g many d (coder_in state)) in
      rw (le-ltb _ _ h, le-ltb _ _ long, le-ltb _ _ many, there)
      (read_by_lem _ _ (rw there at (read_carried state d result (frequencies_in histograms) (dynamic k) long)) stored)

-- ---- reads one after the other

read_long : (short : Bool) (t : Taken) (state result : List ℕ) → coder_length ≤ length state → coder_length ≤ length (reading.read_into short t state result).state
unfolding reading.read_into
read_long short t state result h = by (ltb (length result) result_words) short
  where
    handed : (b : Bool) → coder_length ≤ length (pick b (sets state 0 (coder_words t.state)) state)
    handed true = omega (arith, length-sets state 0 (coder_words t.state))
    handed false = h

    by : (b c : Bool)
        → coder_length ≤ length (pick b (reading.handed no_room state result) (pick c (reading.handed no_room state (value_told 0 result)) (reading.handed_by t state result))).state
    by true c = h
    by false true = h
    by false false = handed t.done

reader_long : (count : ℕ) (result d state : List ℕ) (histograms : List (List ℕ)) (c : Context) → ReaderLongEnough count state histograms
    → (let r = exported_read result d state histograms c in ReaderLongEnough count r.state r.histograms)
unfolding exported_read
reader_long count result d state histograms (plain bytes) l =
    record { own = read_long _ _ state result l.own; frequencies = l.frequencies; many = l.many }
reader_long count result d state histograms (static range) l =
    record { own = read_long _ _ state result l.own; frequencies = l.frequencies; many = l.many }
reader_long count result d state histograms (dynamic k) l = record {
  own = read_long _ _ state result l.own;
  frequencies = long_set histograms k _ l.frequencies (λ h. into_long _ _ _ h);
  many = length-set histograms k _ ∙ l.many;
}

pub reads_told : (count : ℕ) (result d : List ℕ) (cs : List Context) (state : List ℕ) (histograms : List (List ℕ)) → result_words ≤ length result
    → ReaderLongEnough count state histograms → AllHaveExports count cs
    → map read_report (exported_reads result d state histograms cs) ≡ map call_report (read_calls d (coder_in state) (frequencies_in histograms) cs)
unfolding AllHaveExports exported_reads read_calls
reads_told count result d [] state histograms h l x = refl
reads_told count result d (c ∷ cs) state histograms h l x =
    let r = exported_read result d state histograms c in
    let one = reading_carried result h d state l.own histograms c l.frequencies (rw l.many x.0) in
    let rest = reads_told count result d cs r.state r.histograms h (reader_long count result d state histograms c l) x.1 in
    rw (rest, one.number, one.value, one.frequencies, one.state) refl
