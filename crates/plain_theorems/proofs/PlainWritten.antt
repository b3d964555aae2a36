-- From fresh limits on, a run of plain values that fits writes exactly its little-endian bytes and ends at fresh limits.
use Prim.Native.Nat.{ℕ, zero, suc, ◌+◌, ◌*◌, ◌/◌, ◌%◌, ◌^◌, ◌≤◌, ◌<◌}
use Rattle.coder.proofs.Flushing.{end_none}
use Rattle.coder.proofs.Judgements.{writer_hold}
use Rattle.coder.specs.Bytes.{store_bits}
use Rattle.coder.specs.Interval.{WellFormed}
use Rattle.coder.specs.Symbols.{after_symbols, plain_spans, symbols_bits}
use Rattle.coder.specs.Writing.{Write, bytes_in, end, end_as, end_number, write, write_fault, write_number, write_plain}
use Rattle.coder.specs.declared.interval.Coder.{Coder}
use Rattle.coder.specs.declared.write.Writer.{Writer}
use Rattle.coder_theorems.specs.Runs.{AllTyped, Called, Held, Histograms, Number, after_step, after_steps, begun, call_write, called, end_call, number_in, put, put_call, taken_calls, write_calls}
use Rattle.fields.proofs.Stores.{sets_append}
use Rattle.fields.specs.Limits.{largest_file}
use Rattle.fields.specs.Numbers.{no_room, out_of_range}
use Rattle.fields_theorems.proofs.FieldsBack.{length_number_bytes}
use Rattle.fields_theorems.specs.Encoding.{number_bytes}
use Rattle.plain_theorems.proofs.Byte.{byte_plain, byte_then, none_stored}
use Rattle.plain_theorems.specs.PlainRuns.{PlainValue, fresh_at, held_at, laid_buffer, laid_calls, laid_to, laid_write, overlaid, plain_number, put_all, run_bytes}
use borrow.Author.Tests.{le-leb, le-ltb, leb-false, leb-true, lt-leb, lt-ltb, ltb-false, ltb-true}
use lib.Dec.{leb, ltb}
use lib.ListN.{drop, length, length-append, length-set, set}
use lib.Seq.{length-sets, sets, sets-eq}
use mathlib.Core.Bool.{Bool, true, false, or-false}
use mathlib.Core.List.{List, [], ◌∷◌, ◌++◌, map}
use mathlib.Core.Path.{◌≡◌, ◌∙◌, ap, refl, sym}
use native.Mathlib.Nat.{add-zero, zero-add}
use native.Mathlib.Omega.{arith}

-- ---- n plain bytes

plain_after : (n v p : ℕ) → after_symbols (fresh_at p) (plain_spans n v) ≡ fresh_at (p + n)
unfolding after_symbols plain_spans
plain_after zero v p = ap fresh_at (sym (add-zero p))
plain_after (suc n) v p =
    let place : suc p + n ≡ p + suc n = omega arith in
    ap (λ (s : Coder). after_symbols s (plain_spans n (v / 256))) (byte_plain p v).0 ∙ plain_after n (v / 256) (suc p) ∙ ap fresh_at place

-- their bits are stored as their bytes, one after the other
plain_stored : (n v p : ℕ) (l : List ℕ) → p + n ≤ length l
    → store_bits l (8 * p) (symbols_bits (fresh_at p) (plain_spans n v)) ≡ sets l p (number_bytes n v)
unfolding symbols_bits plain_spans number_bytes
plain_stored zero v p l h = none_stored l p
plain_stored (suc n) v p l h =
    let b : ℕ = v % 256 in
    let byte = byte_plain p v in
    let rest : List ℕ = symbols_bits (fresh_at (suc p)) (plain_spans n (v / 256)) in
    rw (byte.0, byte.1) (byte_then l p b rest (omega arith) (omega arith))
    ∙ plain_stored n (v / 256) (suc p) (set l p b) (omega (arith, length-set l p b))

-- ---- a call

fresh_limits : (p : ℕ) → WellFormed (fresh_at p)
fresh_limits p = omega arith

-- a buffer that holds the bytes so far is at no fault
fresh_fault : (p len : ℕ) → p ≤ len → len ≤ largest_file → write_fault (fresh_at p) len ≡ 0
unfolding write_fault
fresh_fault p len h small = rw (le-leb _ _ small, writer_hold (fresh_at p) len (fresh_limits p) (omega arith))

-- an end without a compressed value writes nothing
fresh_ended : (p : ℕ) (l : List ℕ) → p ≤ length l → length l ≤ largest_file
    → (let w : Writer = record { coder = fresh_at p; compressed = false } in
    end l w ≡ record { number = 0; done = true; used = p; writer = w; bytes = l })
unfolding end end_as end_number write_number
fresh_ended p l h small =
    let none = end_none (fresh_at p) (fresh_limits p) refl refl in
    let room : 8 * p + 0 ≤ 8 * length l = omega arith in
    let count : (8 * p + 7) / 8 ≡ p = omega arith in
    rw (none.0, none.1, fresh_fault p (length l) h small, le-leb _ _ room, count, none_stored l p)

module _ (p : ℕ) (compressed : Bool) (l : List ℕ) (hs : Histograms) (small : length l ≤ largest_file) where
  abbrev held : Held
  held = held_at p compressed l hs

  -- a value that fits is done
  value_written : (n v : ℕ) → v < 256 ^ n → p + n ≤ length l
      → write_plain n l held.writer v
      ≡ record { number = 0; done = true; writer = (held_at (p + n) compressed l hs).writer; bytes = sets l p (number_bytes n v) }
  unfolding write_plain write_number write
  value_written n v below fit =
      let room : 8 * (p + n) + 0 ≤ 8 * length l = omega arith in
      rw (plain_after n v p, fresh_fault p (length l) (omega arith) small, lt-ltb _ _ below, le-leb _ _ room, or-false, plain_after n v p, plain_stored n v p l fit)

  -- one that doesn't is 12
  value_refused : (n v : ℕ) → v < 256 ^ n → p ≤ length l → length l < p + n
      → write_plain n l held.writer v ≡ record { number = no_room; done = false; writer = held.writer; bytes = l }
  unfolding write_plain write_number write
  value_refused n v below here past =
      let over : 8 * length l < 8 * (p + n) + 0 = omega arith in
      rw (plain_after n v p, fresh_fault p (length l) here small, lt-ltb _ _ below, lt-leb _ _ over)

  -- one that is none of its width's is 10
  value_outside : (n v : ℕ) → 256 ^ n ≤ v → p ≤ length l
      → write_plain n l held.writer v ≡ record { number = out_of_range; done = false; writer = held.writer; bytes = l }
  unfolding write_plain write_number write
  value_outside n v over here = rw (fresh_fault p (length l) here small, le-ltb _ _ over)

  -- so each is answered as by a writer of bytes alone, which leaves what it wrote within the buffer
  value_laid : (v : PlainValue) → p ≤ length l
      → (write_plain (bytes_in v.width) l held.writer v.value ≡ laid_write p compressed l v)
      × (laid_to p l v ≤ length l) × (length (laid_buffer p l v) ≡ length l)
  value_laid v here = go (ltb v.value (256 ^ n)) (leb (p + n) (length l)) refl refl
    where
      n : ℕ
      n = bytes_in v.width

      bytes : List ℕ
      bytes = number_bytes n v.value

      go : (a b : Bool) → ltb v.value (256 ^ n) ≡ a → leb (p + n) (length l) ≡ b
          → (write_plain n l held.writer v.value ≡ laid_write p compressed l v) × (laid_to p l v ≤ length l) × (length (laid_buffer p l v) ≡ length l)
      go false b e f = rw e (value_outside n v.value (ltb-false _ _ e) here, here, refl)
      go true false e f = rw (e, f) (value_refused n v.value (ltb-true _ _ e) here (leb-false _ _ f), here, refl)
      go true true e f =
          let fit : p + n ≤ length l = leb-true _ _ f in
          let laid : sets l p bytes ≡ overlaid l p bytes = sets-eq bytes l p (omega (arith, length_number_bytes n v.value)) in
          let after : Writer = record { coder = fresh_at (p + n); compressed = compressed } in
          rw (e, f) (
            value_written n v.value (ltb-true _ _ e) fit ∙ ap (λ (b : List ℕ). record { number = 0; done = true; writer = after; bytes = b }) laid,
            fit,
            ap length (sym laid) ∙ length-sets l p bytes,
          )

  value_done : (v : PlainValue) → v.value < 256 ^ bytes_in v.width → p + bytes_in v.width ≤ length l
      → (put_call held (plain_number v)).result.done ≡ true
  unfolding call_write
  value_done v below fit = ap (λ (r : Write). r.done) (value_written (bytes_in v.width) v.value below fit)

  value_held : (v : PlainValue) → v.value < 256 ^ bytes_in v.width → p + bytes_in v.width ≤ length l
      → after_step held (put (plain_number v)) ≡ held_at (p + bytes_in v.width) compressed (sets l p (number_bytes (bytes_in v.width) v.value)) hs
  unfolding after_step call_write
  value_held v below fit =
      ap (λ (r : Write). record { buffer = r.bytes; writer = r.writer; histograms = hs }) (value_written (bytes_in v.width) v.value below fit)

-- ---- values one after the other

-- From fresh limits after p bytes on, any plain values are answered as by a writer of bytes alone, refusals too.
pub plain_calls : (vs : List PlainValue) (p : ℕ) (compressed : Bool) (l : List ℕ) (hs : Histograms) → p ≤ length l → length l ≤ largest_file
    → write_calls (held_at p compressed l hs) (put_all vs) ≡ laid_calls p compressed l hs vs
unfolding write_calls laid_calls after_step call_write
plain_calls [] p compressed l hs here small = refl
plain_calls (v ∷ vs) p compressed l hs here small =
    let one = value_laid p compressed l hs small v here in
    let rest = plain_calls vs (laid_to p l v) compressed (laid_buffer p l v) hs (omega (arith, one.1, one.2)) (omega (arith, one.2)) in
    rw one.0 (ap (λ (cs : List Called). called (plain_number v) (record { result = laid_write p compressed l v; histograms = hs }) ∷ cs) rest)

-- ---- a run

run_laid : (run : List PlainValue) (p : ℕ) (compressed : Bool) (l : List ℕ) (hs : Histograms) → AllTyped (map plain_number run)
    → p + length (run_bytes run) ≤ length l → length l ≤ largest_file
    → (let start = held_at p compressed l hs in
    (map number_in (taken_calls (write_calls start (put_all run))) ≡ map plain_number run)
    × (after_steps start (put_all run) ≡ held_at (p + length (run_bytes run)) compressed (sets l p (run_bytes run)) hs))
unfolding AllTyped after_steps write_calls taken_calls run_bytes
run_laid [] p compressed l hs typed fit small = (refl, rw add-zero)
run_laid (v ∷ run) p compressed l hs typed fit small =
    let n : ℕ = bytes_in v.width in
    let bytes : List ℕ = number_bytes n v.value in
    let size : length bytes ≡ n = length_number_bytes n v.value in
    let all : length (bytes ++ run_bytes run) ≡ n + length (run_bytes run) = length-append bytes (run_bytes run) ∙ ap (λ (k : ℕ). k + length (run_bytes run)) size in
    let next : List ℕ = sets l p bytes in
    let long : length next ≡ length l = length-sets l p bytes in
    let rest = run_laid run (p + n) compressed next hs typed.1 (omega arith) (omega arith) in
    let done = value_done p compressed l hs small v typed.0 (omega arith) in
    let after = value_held p compressed l hs small v typed.0 (omega arith) in
    let place : p + n + length (run_bytes run) ≡ p + length (bytes ++ run_bytes run) = omega arith in
    let stored : sets next (p + n) (run_bytes run) ≡ sets l p (bytes ++ run_bytes run) =
    ap (λ (k : ℕ). sets next (p + k) (run_bytes run)) (sym size) ∙ sym (sets_append l p bytes (run_bytes run)) in
    (rw (done, after) (ap (λ (ns : List Number). plain_number v ∷ ns) rest.0), ap (λ (h : Held). after_steps h (put_all run)) after ∙ rest.1 ∙ (λ i. held_at (place i) compressed (stored i) hs))

-- ---- the theorems

module _ (run : List PlainValue) (typed : AllTyped (map plain_number run)) (p : ℕ) (l : List ℕ) (hs : Histograms)
    (fit : p + length (run_bytes run) ≤ length l) (small : length l ≤ largest_file) where
  abbrev last : ℕ
  last = p + length (run_bytes run)

  abbrev bytes : List ℕ
  bytes = overlaid l p (run_bytes run)

  long : length bytes ≡ length l
  long = ap length (sym (sets-eq (run_bytes run) l p fit)) ∙ length-sets l p (run_bytes run)

  -- From fresh limits after p bytes, a run that fits is taken, every value of it; the buffer has exactly its little-endian bytes from p on, and
  -- all else as it was; and low, high and pending are fresh again, after just those bytes.
  pub plain_written : (compressed : Bool)
      → (let start = held_at p compressed l hs in
      (map number_in (taken_calls (write_calls start (put_all run))) ≡ map plain_number run)
      × (after_steps start (put_all run) ≡ held_at last compressed bytes hs))
  plain_written compressed =
      let all = run_laid run p compressed l hs typed fit small in
      (all.0, all.1 ∙ ap (λ (b : List ℕ). held_at last compressed b hs) (sets-eq (run_bytes run) l p fit))

  -- The first value past the end is 12, and leaves the buffer and the state as the values before left them.
  pub plain_not_fit : (compressed : Bool) (v : PlainValue) → v.value < 256 ^ bytes_in v.width → length l < last + bytes_in v.width
      → put_call (after_steps (held_at p compressed l hs) (put_all run)) (plain_number v)
      ≡ record { result = record { number = no_room; done = false; writer = (held_at last compressed bytes hs).writer; bytes = bytes }; histograms = hs }
  unfolding call_write
  plain_not_fit compressed v below past =
      ap (λ (h : Held). put_call h (plain_number v)) (plain_written compressed).1
      ∙ ap (λ (r : Write). record { result = r; histograms = hs })
      (value_refused last compressed bytes hs (omega (arith, long)) (bytes_in v.width) v.value below (omega (arith, long)) (omega (arith, long)))

  -- Where no compressed value was written the end writes nothing, and says that just those bytes are used.
  pub plain_ended : end_call (after_steps (held_at p false l hs) (put_all run))
      ≡ record { number = 0; done = true; used = last; writer = (held_at last false bytes hs).writer; bytes = bytes }
  plain_ended = ap end_call (plain_written false).1 ∙ fresh_ended last bytes (omega (arith, long)) (omega (arith, long))

-- 02, Ask 13: "from a fresh start any run of plain U8, U16 and U32 values that fits writes exactly its little-endian bytes and ends with low, high
-- and pending fresh"; the bytes past them are as they were, and the end adds none.
pub plain_from_fresh : (run : List PlainValue) (buffer : List ℕ) (hs : Histograms) → AllTyped (map plain_number run)
    → length (run_bytes run) ≤ length buffer → length buffer ≤ largest_file
    → (let start = begun buffer hs in
    let n = length (run_bytes run) in
    let after = held_at n false (run_bytes run ++ drop n buffer) hs in
    (map number_in (taken_calls (write_calls start (put_all run))) ≡ map plain_number run)
    × (after_steps start (put_all run) ≡ after)
    × (end_call after ≡ record { number = 0; done = true; used = n; writer = after.writer; bytes = after.buffer }))
plain_from_fresh run buffer hs typed fit small =
    let written = plain_written run typed 0 buffer hs (omega arith) small false in
    let ended = plain_ended run typed 0 buffer hs (omega arith) small in
    let whole = rw zero-add at written.1 in
    (written.0, whole, ap end_call (sym whole) ∙ rw zero-add at ended)
