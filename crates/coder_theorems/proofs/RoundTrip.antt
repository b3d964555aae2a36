-- The round trip: the end leaves data that continue the run's bytes, and each step, from the last to the first, carries this back to what the
-- caller held before it, where the reader's call gives back the number of a call that was done.
use Prim.Native.Nat.{ℕ, ◌≤◌}
use Rattle.coder_theorems.proofs.Calls.{call_back, call_done, call_refused, end_refused, ended_back, escape_back, escape_done, escape_refused}
use Rattle.coder_theorems.proofs.Continuing.{Continues, lent_back}
use Rattle.coder_theorems.proofs.Opening.{Opened, steps_opened, whole_number}
use Rattle.coder.proofs.Streams.{bit_binary}
use Rattle.coder.specs.Interval.{fresh}
use Rattle.coder_theorems.specs.Runs.{AllKeep, AllTyped, Called, Held, Histograms, Keeps, Number, Step, Typed, after_step, after_steps, begun, call_read, called, context_in, dynamic, end_call, escape, escape_call, finish, held_after, lend, number_in, put, put_call, read_back, read_calls, taken_calls, write_calls}
use Rattle.fields.specs.Judged.{pick}
use Rattle.fields.specs.Limits.{largest_file}
use lib.ListN.{length, take}
use mathlib.Core.Bool.{Bool, true, false}
use mathlib.Core.List.{List, [], ◌∷◌, ◌++◌, map}
use mathlib.Core.Path.{◌≡◌, refl, subst}
use native.Mathlib.Omega.{arith}

-- data are read back to these calls, and continue what the caller held before them
abbrev Back : List ℕ → Held → List Called → Type 0
Back d h took =
    (read_calls d h.writer.coder h.histograms (map context_in took) ≡ map read_back took) × Continues d h.buffer h.writer.coder

-- a call, done or refused
call_step : (d : List ℕ) (h : Held) (c : Called) (took : List Called)
    → (c.call.result.done ≡ true → Typed c.number.context c.number.value
    → Continues d c.call.result.bytes c.call.result.writer.coder
    → (call_read d h.writer.coder h.histograms c.number.context ≡ read_back c) × Continues d h.buffer h.writer.coder)
    → (c.call.result.done ≡ false
    → (c.call.result.bytes ≡ h.buffer) × (c.call.result.writer ≡ h.writer) × (c.call.histograms ≡ h.histograms))
    → (let all = pick c.call.result.done (c ∷ took) took in
    (AllTyped (map number_in took) → Back d (held_after c.call) took) → AllTyped (map number_in all) → Back d h all)
unfolding AllTyped read_calls
call_step d h c took done refused rest t = go c.call.result.done refl t
  where
    go : (b : Bool) → c.call.result.done ≡ b → AllTyped (map number_in (pick b (c ∷ took) took)) → Back d h (pick b (c ∷ took) took)
    go true e t =
        let later = rest t.1 in
        let first = done e t.0 later.1 in
        (rw (first.0, later.0), first.1)
    go false e t =
        let r = refused e in
        let same : held_after c.call ≡ h = λ i. record { buffer = r.0 i; writer = r.1 i; histograms = r.2 i } in
        subst (λ (k : Held). Back d k took) same (rest t)

module _ (d : List ℕ) (h : Held) (took : List Called) where
  -- a number that the writer is handed
  put_back : (n : Number)
      → (let all = pick (put_call h n).result.done (called n (put_call h n) ∷ took) took in
      (AllTyped (map number_in took) → Back d (after_step h (put n)) took) → AllTyped (map number_in all) → Back d h all)
  unfolding after_step
  put_back n =
      call_step d h (called n (put_call h n)) took
      (λ e t.
      call_back d h.buffer h.writer h.histograms n.context n.value t
      (call_done h.buffer h.writer h.histograms n.context n.value e))
      (call_refused h.buffer h.writer h.histograms n.context n.value)

  -- another writer's escape
  escape_step : (k v : ℕ)
      → (let c = called (record { context = dynamic k; value = v }) (escape_call h k v) in
      let all = pick c.call.result.done (c ∷ took) took in
      (AllTyped (map number_in took) → Back d (after_step h (escape k v)) took) → AllTyped (map number_in all) → Back d h all)
  unfolding after_step
  escape_step k v =
      call_step d h (called (record { context = dynamic k; value = v }) (escape_call h k v)) took
      (λ e t. escape_back d h.buffer h.writer h.histograms k v t (escape_done h.buffer h.writer h.histograms k v e))
      (escape_refused h.buffer h.writer h.histograms k v)

-- another buffer
lend_back : (d : List ℕ) (h : Held) (took : List Called) (buffer : List ℕ) → Keeps h (lend buffer) → Back d (after_step h (lend buffer)) took
    → Back d h took
unfolding after_step
lend_back d h took buffer keep later = (later.0, lent_back d h.buffer buffer h.writer.coder keep later.1)

-- a refused end
finish_back : (d : List ℕ) (h : Held) (took : List Called) → Keeps h finish → Back d (after_step h finish) took → Back d h took
unfolding after_step
finish_back d h took keep later =
    let r = end_refused h.buffer h.writer keep in
    let same : after_step h finish ≡ h = λ i. record { buffer = r.0 i; writer = r.1 i; histograms = h.histograms } in
    subst (λ (k : Held). Back d k took) same later

-- Data that continue what a run left are read back number by number.
pub run_back : (d : List ℕ) (steps : List Step) (h : Held)
    → (let took = taken_calls (write_calls h steps) in
    let last = after_steps h steps in
    AllTyped (map number_in took) → AllKeep h steps → Continues d last.buffer last.writer.coder
    → (read_calls d h.writer.coder h.histograms (map context_in took) ≡ map read_back took) × Continues d h.buffer h.writer.coder)
unfolding AllKeep after_steps write_calls taken_calls read_calls
run_back d [] h t keep end = (refl, end)
run_back d (put n ∷ steps) h t keep end =
    put_back d h (taken_calls (write_calls (after_step h (put n)) steps)) n (λ t. run_back d steps (after_step h (put n)) t keep.1 end) t
run_back d (escape k v ∷ steps) h t keep end =
    escape_step d h (taken_calls (write_calls (after_step h (escape k v)) steps)) k v (λ t. run_back d steps (after_step h (escape k v)) t keep.1 end) t
run_back d (lend buffer ∷ steps) h t keep end =
    lend_back d h (taken_calls (write_calls (after_step h (lend buffer)) steps)) buffer keep.0 (run_back d steps (after_step h (lend buffer)) t keep.1 end)
run_back d (finish ∷ steps) h t keep end =
    finish_back d h (taken_calls (write_calls (after_step h finish) steps)) keep.0 (run_back d steps (after_step h finish) t keep.1 end)

-- What the writer takes, from the fresh state on, is read back once it is ended. A caller may hand over any numbers in any contexts, lend
-- another buffer at any time, as long as that keeps the settled bytes, and go on after a refusal, which leaves everything; another writer's
-- escapes for values already seen may stand among the numbers. From the bytes that the end says are used, whatever follows them within 16 MiB,
-- the reader's calls in the same contexts give back exactly the numbers that were taken: each call is done, with the number, and with the state
-- and the histograms that the writer's call left.
pub round_trip : (steps : List Step) (hs : Histograms) (buffer rest : List ℕ)
    → (let start = begun buffer hs in
    let took = taken_calls (write_calls start steps) in
    let ended = end_call (after_steps start steps) in
    let d = take ended.used ended.bytes ++ rest in
    AllTyped (map number_in took) → AllKeep start steps → ended.number ≡ 0 → length d ≤ largest_file
    → read_calls d fresh hs (map context_in took) ≡ map read_back took)
round_trip steps hs buffer rest t keep e small =
    let start = begun buffer hs in
    let last = after_steps start steps in
    let opened : Opened last.writer = steps_opened steps start keep (λ _. omega arith) in
    let d : List ℕ = take (end_call last).used (end_call last).bytes ++ rest in
    (run_back d steps start t keep
    (ended_back last.buffer rest last.writer e small (λ none _ _. whole_number last.writer.coder _ (bit_binary d) (opened none)))).0
