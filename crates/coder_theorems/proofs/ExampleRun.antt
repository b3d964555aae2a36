-- A run that meets the round trip's assumptions, computed: the theorem speaks of something.
use Prim.Native.Nat.{ℕ, ◌≤◌}
use Rattle.coder_theorems.proofs.RoundTrip.{round_trip}
use Rattle.coder.specs.Bytes.{padded, put_bit, put_bits, store_bits}
use Rattle.coder.specs.Ending.{bits_of, end_bits, end_state, flush_bits, flush_state, low_bits, low_state, placed}
use Rattle.coder.specs.Forms.{code_within, finds, is_run, limits_formed, pending_inverted, writer_formed}
use Rattle.coder.specs.Histogram.{fresh_histogram, histogram_formed, raised, span_of, sum, thinned}
use Rattle.coder.specs.Interval.{after_symbol, code, fresh, narrow, postpones, settle_tops, settled_bits, symbol_bits, top_bits}
use Rattle.coder_theorems.specs.Runs.{AllKeep, AllTyped, Called, Held, Number, Step, after_step, after_steps, begun, call_escape, call_write, context_in, dynamic, end_call, escape, finish, lend, number_in, plain, put, read_back, read_calls, static, taken_calls, write_calls}
use Rattle.coder.specs.Stream.{word}
use Rattle.coder.specs.Symbols.{after_symbols, dynamic_after, dynamic_spans, plain_spans, reversed, static_spans, symbols_bits}
use Rattle.coder.specs.Writing.{End, dynamic_number, end, end_number, end_as, write, write_dynamic, write_fault, write_number, write_plain, write_static, written_histogram}
use Rattle.fields.specs.Limits.{largest_file}
use lib.ListN.{length, replicate, take}
use mathlib.Core.List.{List, [], ◌∷◌, ◌++◌, map}
use mathlib.Core.Path.{◌≡◌, refl}
use native.Mathlib.Omega.{arith}

-- a plain value, a range, and a value escaped, known, and escaped again
abbrev numbers : List Number
numbers =
    record { context = plain 2; value = 0x1234 } ∷ record { context = static 3; value = 1 } ∷ record { context = dynamic 0; value = 7 }
    ∷ record { context = dynamic 0; value = 7 } ∷ record { context = dynamic 0; value = 7 } ∷ []

-- four bytes are too few for the third (12), a value is out of range (10), and there is no room for the end (12); then more is lent
run : List Step
run =
    put (record { context = plain 2; value = 0x1234 }) ∷ put (record { context = static 3; value = 1 })
    ∷ put (record { context = dynamic 0; value = 7 }) ∷ put (record { context = static 3; value = 3 }) ∷ finish
    ∷ lend (0x34 ∷ 0x12 ∷ replicate 30 0xAA)
    ∷ put (record { context = dynamic 0; value = 7 }) ∷ put (record { context = dynamic 0; value = 7 }) ∷ escape 0 7 ∷ []

abbrev start : Held
start = begun (replicate 4 0xFF) (fresh_histogram ∷ [])

abbrev took : List Called
took = taken_calls (write_calls start run)

abbrev ended : End
ended = end_call (after_steps start run)

run_taken : (map number_in took ≡ numbers) × AllKeep start run × (ended.number ≡ 0) × (ended.used ≡ 15)
unfolding AllKeep after_step after_steps after_symbol after_symbols bits_of call_escape call_write code code_within dynamic_after dynamic_number dynamic_spans end
    end_as end_bits end_number end_state finds flush_bits flush_state histogram_formed is_run limits_formed low_bits low_state narrow padded
    pending_inverted placed plain_spans postpones put_bit put_bits raised reversed run settle_tops settled_bits span_of static_spans store_bits sum
    symbol_bits symbols_bits taken_calls thinned top_bits word write write_calls write_dynamic write_fault write_number write_plain write_static
    writer_formed written_histogram
run_taken = (refl, (tt, (tt, (tt, (tt, (refl, (refl, (tt, (tt, (tt, tt))))))))), refl, refl)

run_typed : AllTyped numbers
unfolding AllTyped
run_typed = (omega arith, (omega arith, (omega arith, (omega arith, (omega arith, tt)))))

run_read : (rest : List ℕ)
    → (let d = take ended.used ended.bytes ++ rest in
    length d ≤ largest_file → read_calls d fresh (fresh_histogram ∷ []) (map context_in took) ≡ map read_back took)
run_read rest small =
    round_trip run (fresh_histogram ∷ []) (replicate 4 0xFF) rest (rw run_taken.0 run_typed) run_taken.1 run_taken.2 small
