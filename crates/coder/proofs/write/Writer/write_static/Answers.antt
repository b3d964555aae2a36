-- A value in a static range is its first symbol and the bytes after it.
use Rattle.std.proofs.Common.{true, length, sym, refl, arith, rules, le-ltb, lt-ltb}
use Rattle.std.proofs.lemmas.Result.{err_from_is_err_and}
use Rattle.coder.specs.Writing.{write_static}
use Rattle.coder.proofs.Judgements.{Writable, writable}
use Rattle.coder.proofs.Led.{led_judged, number_fault, number_value, write_refused}
use Rattle.coder.proofs.Tests.{fault_some}
use Rattle.coder.proofs.write.Writer.write_static.Goals as goal
use Rattle.coder.proofs.write.Writer.write_static.Goals.{In_ok-write_fault}

-- no fault tells that the buffer can be written
ready : (c : In_ok-write_fault) → Writable c.args.self.coder (length c.args.buf.now)
ready c = writable c.args.self.coder _ (sym c.in_ok-write_fault.ensures)

pub returns-in_err-write_fault : goal.returns-in_err-write_fault
unfolding write_static
returns-in_err-write_fault c =
    let p = err_from_is_err_and c.from_residual.result c.from_residual.ensures.1 in
    let some = fault_some c.in_err-write_fault.field-0.0 in
    rw (p.1, p.2) (write_refused _ _ some (number_fault _ _ _ _ _ _ c.in_err-write_fault.ensures some))

pub returns-then-range-value : goal.returns-then-range-value
unfolding write_static
returns-then-range-value c = write_refused _ _ (λ e. omega arith) (number_value _ _ true _ _ _ c.in_ok-write_fault.ensures refl refl (le-ltb c.args.value c.args.range (search rules)))

pub write_led-requires : goal.write_led-requires
write_led-requires c =
    let ok = ready (goal.at.write_led-requires c).In_ok-write_fault in
    let lead = c.static_lead-lead.ensures.codable in
    record { well_formed = ok.limits; codable = (lead.0 (search rules), lead.1); holds = record { small = ok.small; within = ok.holds } }

pub returns : goal.returns
unfolding write_static
returns c =
    let a = c.args in
    led_judged _ a.self _ true _ _ _ _ _ c.in_ok-write_fault.ensures refl refl (lt-ltb a.value a.range (search rules))
    c.static_lead-lead.ensures.rest_value c.write_led.ensures
