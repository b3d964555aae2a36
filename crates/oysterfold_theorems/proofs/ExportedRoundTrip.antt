-- The round trip of the exported coder: its run is the coder's, whose numbers are read back, and its reads are the coder's.
use Prim.Native.Nat.{ℕ, ◌≤◌}
use mathlib.Core.Bool.{Bool, true, false}
use mathlib.Core.List.{List, [], ◌∷◌, ◌++◌, map}
use mathlib.Core.Path.{◌≡◌, ◌∙◌, ap, refl, subst, sym}
use lib.ListN.{length, take}
use Rattle.fields.specs.Judged.{pick}
use Rattle.fields.specs.Limits.{largest_file}
use Rattle.coder.specs.Interval.{fresh}
use Rattle.coder.specs.Writing.{End, fresh_writer}
use Rattle.coder_theorems.specs.Runs.{AllKeep, AllTyped, Called, Held, Step, after_step, after_steps, begun, called, context_in, end_call, escape, finish, lend, number_in, put, put_call, read_back, read_calls, taken_calls, write_calls}
use Rattle.coder_theorems.proofs.RoundTrip.{round_trip}
use Rattle.oysterfold.specs.CoderState.{coder_in, writer_in}
use Rattle.oysterfold.specs.Result.{result_words}
use Rattle.oysterfold_theorems.specs.ExportedRuns.{AllExported, AllHaveExports, Arrays, HasExport, LongEnough, ReaderLongEnough, Report, call_report, exported_end, exported_reads, exported_steps, exported_used, frequencies_in, held_in, read_report, written_report}
use Rattle.oysterfold_theorems.proofs.ExportedRuns.{end_held, steps_held}
use Rattle.oysterfold_theorems.proofs.ExportedReads.{reads_told}

-- ---- the contexts of the numbers that were taken have exported functions

exports_pick : (count : ℕ) (c : Called) (took : List Called) → HasExport count (context_in c) → AllHaveExports count (map context_in took) → (b : Bool)
    → AllHaveExports count (map context_in (pick b (c ∷ took) took))
unfolding AllHaveExports
exports_pick count c took h all true = (h, all)
exports_pick count c took h all false = all

taken_exports : (count : ℕ) (steps : List Step) (h : Held) → AllExported count steps
    → AllHaveExports count (map context_in (taken_calls (write_calls h steps)))
unfolding AllExported AllHaveExports taken_calls write_calls
taken_exports count [] h x = tt
taken_exports count (put n ∷ steps) h x =
    exports_pick count (called n (put_call h n)) (taken_calls (write_calls (after_step h (put n)) steps)) x.0
    (taken_exports count steps (after_step h (put n)) x.1) (put_call h n).result.done
taken_exports count (escape k v ∷ steps) h x = absurd x.0
taken_exports count (lend buffer ∷ steps) h x = taken_exports count steps (after_step h (lend buffer)) x.1
taken_exports count (finish ∷ steps) h x = taken_exports count steps (after_step h finish) x.1

-- what is told of a number that is read back
told_back : (took : List Called) → map call_report (map read_back took) ≡ map written_report took
told_back [] = refl
told_back (c ∷ took) = ap (λ (l : List Report). written_report c ∷ l) (told_back took)

-- the coder's round trip, from what a caller holds
Returns : List ℕ → List Step → Held → Type 0
Returns rest steps h =
    let took = taken_calls (write_calls h steps) in
    let ended = end_call (after_steps h steps) in
    let d = take ended.used ended.bytes ++ rest in
    AllTyped (map number_in took) → AllKeep h steps → ended.number ≡ 0 → length d ≤ largest_file
    → read_calls d fresh h.histograms (map context_in took) ≡ map read_back took

held_returns : (rest : List ℕ) (steps : List Step) (h : Held) → h.writer ≡ fresh_writer → Returns rest steps h
unfolding Returns
held_returns rest steps h new =
    let start : begun h.buffer h.histograms ≡ h = λ i. record { buffer = h.buffer; writer = sym new i; histograms = h.histograms } in
    subst (Returns rest steps) start (round_trip steps h.histograms h.buffer rest)

-- What the exported writers take, from a fresh state on, in whatever buffers and with refused calls between, is read back once it is ended: from the
-- bytes that the end tells are used, whatever follows them within 16 MiB, the exported reads in the same contexts, from a fresh state on, each answer
-- 0 and tell the number; and after each the histogram arrays hold the frequencies that they held after the write.
pub exported_round_trip : (count : ℕ) (steps : List Step) (a : Arrays) (result reader : List ℕ) (histograms : List (List ℕ)) (rest : List ℕ)
    → result_words ≤ length result → LongEnough count a → ReaderLongEnough count reader histograms → writer_in a.state ≡ fresh_writer → coder_in reader ≡ fresh
    → frequencies_in histograms ≡ frequencies_in a.histograms → AllExported count steps
    → (let took = taken_calls (write_calls (held_in a) steps) in
    let last = exported_steps result a steps in
    let ended = exported_end result last in
    let d = take (exported_used result last) ended.arrays.buffer ++ rest in
    AllTyped (map number_in took) → AllKeep (held_in a) steps → ended.number ≡ 0 → length d ≤ largest_file
    → map read_report (exported_reads result d reader histograms (map context_in took)) ≡ map written_report took)
unfolding Returns
exported_round_trip count steps a result reader histograms rest h l r new began same x t keep e small =
    let took = taken_calls (write_calls (held_in a) steps) in
    let last = exported_steps result a steps in
    let run = steps_held count result steps a h l x in
    let report = end_held last run.1.state result h in
    let ended = end_call (after_steps (held_in a) steps) in
    let as-held : end_call (held_in last) ≡ ended = ap end_call run.0 in
    let used : exported_used result last ≡ ended.used = report.1 ∙ ap (λ (k : End). k.used) as-held in
    let bytes : (exported_end result last).arrays.buffer ≡ ended.bytes = ap (λ (k : Held). k.buffer) report.2 ∙ ap (λ (k : End). k.bytes) as-held in
    let number : ended.number ≡ 0 = sym (report.0 ∙ ap (λ (k : End). k.number) as-held) ∙ e in
    let d : List ℕ = take ended.used ended.bytes ++ rest in
    let coded : take (exported_used result last) (exported_end result last).arrays.buffer ++ rest ≡ d = λ i. take (used i) (bytes i) ++ rest in
    let back = held_returns rest steps (held_in a) new t keep number (subst (λ (k : List ℕ). length k ≤ largest_file) coded small) in
    subst (λ (k : List ℕ). map read_report (exported_reads result k reader histograms (map context_in took)) ≡ map written_report took) (sym coded)
    (reads_told count result d (map context_in took) reader histograms h r (taken_exports count steps (held_in a) x)
    ∙ rw (began, same) (ap (map call_report) back) ∙ told_back took)
