-- After a compressed value plain bytes need not be plain. By computing.
use Prim.Native.Nat.{ℕ}
use Rattle.coder.specs.Bytes.{bit_at, padded, put_bit, put_bits, store_bits}
use Rattle.coder.specs.Ending.{end_bits, end_state, flush_bits, flush_state, placed}
use Rattle.coder.specs.Forms.{code_within, finds, is_run, limits_formed, pending_inverted, reader_formed, writer_formed}
use Rattle.coder.specs.Interval.{after_symbol, code, fresh, narrow, postpones, settle_tops, settled_bits, symbol_bits, target, top_bits}
use Rattle.coder.specs.Reading.{read_fault, read_number, take_plain, take_static, taken}
use Rattle.coder.specs.Stream.{word}
use Rattle.coder.specs.Symbols.{after_symbols, plain_spans, reversed, static_spans, symbols_bits}
use Rattle.coder.specs.Values.{read_plain, read_static}
use Rattle.coder.specs.Writing.{end, end_as, end_number, write, write_fault, write_number, write_plain, write_static}
use Rattle.coder.specs.declared.interval.Coder.{Coder}
use Rattle.coder_theorems.specs.Runs.{Held, ReadCall, after_step, after_steps, begun, call_read, call_write, end_call, read_calls}
use Rattle.fields.specs.Field.{field_at, little_endian}
use Rattle.fields.specs.Judged.{done}
use Rattle.fields_theorems.specs.Encoding.{number_bytes}
use Rattle.plain_theorems.specs.PlainRuns.{fresh_at, held_at, overlaid, plain_context, run_bytes}
use Rattle.plain_theorems.specs.Witnesses.{ended_after_three, five, five_after, held_after_three, one_of_three, only_one}
use lib.ListN.{get_or, replicate}
use mathlib.Core.Bool.{true}
use mathlib.Core.List.{List, [], ◌∷◌, map}
use mathlib.Core.Path.{◌≡◌, ap, refl}
use native.Mathlib.Omega.{arith}

abbrev held : Held
held = after_steps (begun (replicate 8 0) []) (five_after one_of_three)

written : (held ≡ held_after_three) × ((end_call held).bytes ≡ ended_after_three)
unfolding after_step after_steps after_symbol after_symbols call_write code code_within end end_as end_bits end_number end_state finds flush_bits flush_state is_run
    limits_formed narrow padded pending_inverted placed plain_spans postpones put_bit put_bits reversed settle_tops settled_bits static_spans store_bits
    symbol_bits symbols_bits top_bits word write write_fault write_number write_plain write_static writer_formed
written = (refl, refl)

-- the value of each read
abbrev value_read : ReadCall → ℕ
value_read r = r.result.value

-- After the value 1 in range 3 the plain U8 5 is written as 51 01, and not as its byte. Low and high are not fresh then, at any count of settled
-- bits. And once that is ended, the coder's reader finds 5 where the headers' reader finds 0x51.
pub after_compressed_fails : (held ≡ held_after_three)
    × ((end_call held).bytes ≡ ended_after_three)
    × (held_after_three.buffer ≡ overlaid (replicate 8 0) 0 (run_bytes (five ∷ [])) → ⊥)
    × ((p : ℕ) → held_after_three.writer.coder ≡ fresh_at p → ⊥)
    × (map value_read (read_calls ended_after_three fresh [] (one_of_three.context ∷ plain_context five.width ∷ [])) ≡ 1 ∷ 5 ∷ [])
    × (field_at 1 ended_after_three 0 ≡ done 0x51)
unfolding after_symbol bit_at call_read code code_within field_at is_run limits_formed little_endian narrow number_bytes pending_inverted postpones read_calls
    read_fault read_number read_plain read_static reader_formed reversed run_bytes settle_tops take_plain take_static taken target word
after_compressed_fails = (
  written.0,
  written.1,
  (λ e. let byte : ◌≡◌ {A = ℕ} 0x51 5 = ap (λ (l : List ℕ). get_or l 0 0) e in omega (arith, byte)),
  (λ p e. let low : ◌≡◌ {A = ℕ} 0x5400 0 = ap (λ (s : Coder). s.low) e in omega (arith, low)),
  refl,
  refl,
)

-- After the one value of range 1 a plain byte is still plain; but a compressed value was written, so the end writes four zero bytes (10.4.10).
pub range_one_still_plain :
    let still = after_steps (begun (replicate 8 0xFF) []) (five_after only_one) in
    (still ≡ held_at 1 true (5 ∷ replicate 7 0xFF) [])
    × (end_call still ≡ record { number = 0; done = true; used = 5; writer = (held_at 5 true [] []).writer; bytes = 5 ∷ 0 ∷ 0 ∷ 0 ∷ 0 ∷ replicate 3 0xFF })
unfolding after_step after_steps after_symbol after_symbols call_write limits_formed narrow padded plain_spans postpones put_bit put_bits reversed settle_tops
    settled_bits static_spans store_bits symbol_bits symbols_bits top_bits write write_fault write_number write_plain write_static writer_formed
    code code_within end end_as end_bits end_number end_state finds flush_bits flush_state is_run pending_inverted placed word
range_one_still_plain = (refl, refl)
