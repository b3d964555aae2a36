-- One symbol and the plain bytes after it; the frequencies rise where that is done.
use Rattle.std.proofs.Common.{◌≡◌, ◌∷◌, refl, arith}
use Rattle.std.proofs.lemmas.Result.{err_from_is_err_and}
use Rattle.coder.specs.Symbols.{dynamic_spans, plain_spans}
use Rattle.coder.proofs.Dynamics.{lead_codable, lead_inside, lead_led, written_answer, written-kept, written_left}
use Rattle.coder.proofs.write.Writer.write_formed.Goals as goal
use Rattle.coder.proofs.write.Writer.write_formed.Goals.{After-span_of-span}

-- the symbol and the bytes after it are the value's
led_of : (c : After-span_of-span) → (let a = c.args in
    c.span_of-span.result ∷ plain_spans c.bytes_after-count.result a.value ≡ dynamic_spans a.frequencies.now a.value)
led_of c = lead_led c.args.frequencies.now c.args.value _ _ _ c.symbol_of-symbol.ensures c.bytes_after-count.ensures.value c.span_of-span.ensures

pub span_of-span-requires : goal.span_of-span-requires
span_of-span-requires c =
    rw c.symbol_of-symbol.ensures (lead_inside _ c.args.value 257 (omega (arith, c.requires.totalled.1)))

pub write_led-requires : goal.write_led-requires
write_led-requires c =
    let h = c.requires.totalled in
    record { well_formed = c.requires.well_formed.0; codable = (rw (c.span_of-span.ensures, c.symbol_of-symbol.ensures) (lead_codable _ c.args.value h.0.formed (omega (arith, h.1))), c.bytes_after-count.ensures.upper_bound); holds = c.requires.well_formed.1 }

pub returns-in_err-writer : goal.returns-in_err-writer
returns-in_err-writer c =
    let a = c.args in
    let p = err_from_is_err_and c.from_residual.result c.from_residual.ensures.1 in
    let led = led_of (goal.at.returns-in_err-writer c).After-span_of-span in
    rw (p.1, p.2) record { buf_after = written_answer a.frequencies.now a.buf.now a.self a.value _ led _ c.in_err-writer.ensures; frequencies_after = written_left a.frequencies.now a.buf.now a.self a.value _ led _ c.in_err-writer.ensures refl }

pub raise_after-requires : goal.raise_after-requires
raise_after-requires c =
    let h = c.requires.totalled in
    (rw c.symbol_of-symbol.ensures (lead_inside _ c.args.value 257 (omega (arith, h.1))), h.1, h.0)

pub returns : goal.returns
returns c =
    let a = c.args in
    let led = led_of (goal.at.returns c).After-span_of-span in
    record { buf_after = written_answer a.frequencies.now a.buf.now a.self a.value _ led _ c.in_ok-writer.ensures; frequencies_after = written-kept a.frequencies.now a.buf.now a.self a.value _ led _ c.in_ok-writer.ensures _ _ refl c.symbol_of-symbol.ensures c.raise_after.ensures }
