-- A plain value is its low byte and the bytes after it.
use Rattle.std.proofs.Common.{◌≡◌, ℕ, ◌+◌, ◌-◌, ◌^◌, ◌<◌, ◌≤◌, true, length, sym, refl, ap, ◌∙◌, arith, le-ltb, lt-ltb}
use Rattle.std.proofs.lemmas.Result.{err_from_is_err_and}
use Rattle.coder.specs.Symbols.{plain_spans}
use Rattle.coder.specs.Writing.{bytes_in, write_plain}
use Rattle.coder.proofs.Judgements.{Writable, writable}
use Rattle.coder.proofs.Led.{led_judged, number_fault, number_value, plain_led, write_refused}
use Rattle.coder.proofs.Sequence.{byte_codable}
use Rattle.coder.proofs.Tests.{fault_some}
use Rattle.coder.proofs.write.Writer.write_plain.Goals as goal
use Rattle.coder.proofs.write.Writer.write_plain.Goals.{In_ok-write_fault}

-- no fault tells that the buffer can be written
ready : (c : In_ok-write_fault) → Writable c.args.self.coder (length c.args.buf.now)
ready c = writable c.args.self.coder _ (sym c.in_ok-write_fault.ensures)

pub returns-in_err-write_fault : goal.returns-in_err-write_fault
unfolding write_plain
returns-in_err-write_fault c =
    let p = err_from_is_err_and c.from_residual.result c.from_residual.ensures.1 in
    let some = fault_some c.in_err-write_fault.field-0.0 in
    rw (p.1, p.2) (write_refused _ _ some (number_fault _ _ _ _ _ _ c.in_err-write_fault.ensures some))

pub returns-then-largest-value : goal.returns-then-largest-value
unfolding write_plain
returns-then-largest-value c =
    let a = c.args in
    let above : 256 ^ bytes_in a.width ≤ a.value = rw (← c.largest.ensures) (omega (arith, c.if-largest-value.true)) in
    write_refused _ _ (λ e. omega arith)
    (number_value _ _ true _ _ _ c.in_ok-write_fault.ensures refl refl (le-ltb a.value (256 ^ bytes_in a.width) above))

pub write_led-requires : goal.write_led-requires
write_led-requires c =
    let ok = ready (goal.at.write_led-requires c).In_ok-write_fault in
    record { well_formed = ok.limits; codable = (rw c.byte_span.ensures (byte_codable _), omega (arith, c.bytes-more.ensures.2)); holds = record { small = ok.small; within = ok.holds } }

pub returns : goal.returns
unfolding write_plain
returns c =
    let a = c.args in
    let n = c.bytes-more.result in
    let width = c.bytes-more.ensures in
    let below : a.value < 256 ^ bytes_in a.width = rw (← c.largest.ensures) (omega (arith, c.if-largest-value.false)) in
    let whole : n - 1 + 1 ≡ n = omega (arith, width.1) in
    let spans = plain_led (n - 1) a.value ∙ ap (λ (k : ℕ). plain_spans k a.value) (whole ∙ width.0) in
    led_judged _ a.self _ true _ _ _ _ _ c.in_ok-write_fault.ensures refl refl (lt-ltb a.value (256 ^ bytes_in a.width) below) spans
    (rw (← c.byte_span.ensures) c.write_led.ensures)
