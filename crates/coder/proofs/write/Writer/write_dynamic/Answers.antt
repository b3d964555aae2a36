-- Faults first, then the histogram and the value.
use Rattle.std.proofs.Common.{length, sym, refl, ◌∙◌, arith, rules, le-ltb, lt-ltb}
use Rattle.std.proofs.lemmas.Result.{err_from_is_err_and}
use Rattle.coder.specs.Histogram.{histogram_formed, values}
use Rattle.coder.specs.Writing.{dynamic_number, write_dynamic, written_histogram}
use Rattle.coder.proofs.Judgements.{Writable, histogram_true, writable}
use Rattle.coder.proofs.Led.{led_judged, number_context, number_fault, number_room, number_value, write_refused}
use Rattle.coder.proofs.Tests.{fault_some, kept_refused, kept_same}
use Rattle.coder.proofs.write.Writer.write_dynamic.Goals as goal
use Rattle.coder.proofs.write.Writer.write_dynamic.Goals.{In_ok-write_fault}

-- no fault tells that the buffer can be written
ready : (c : In_ok-write_fault) → Writable c.args.self.coder (length c.args.buf.now)
ready c = writable c.args.self.coder _ (sym c.in_ok-write_fault.ensures)

pub returns-in_err-write_fault : goal.returns-in_err-write_fault
unfolding write_dynamic dynamic_number written_histogram
returns-in_err-write_fault c =
    let p = err_from_is_err_and c.from_residual.result c.from_residual.ensures.1 in
    let some = fault_some c.in_err-write_fault.field-0.0 in
    let bad = number_fault _ _ (histogram_formed c.args.frequencies.now) _ _ _ c.in_err-write_fault.ensures some in
    rw (p.1, p.2) record { buf_after = write_refused _ _ some bad; frequencies_after = kept_refused _ _ some bad }

pub returns-then-not-histogram_formed : goal.returns-then-not-histogram_formed
unfolding write_dynamic dynamic_number written_histogram
returns-then-not-histogram_formed c =
    let unformed = sym c.histogram_formed.ensures ∙ c.if-not-histogram_formed.true in
    let bad = number_context _ _ (histogram_formed c.args.frequencies.now) _ _ _ c.in_ok-write_fault.ensures refl unformed in
    record { buf_after = write_refused _ _ (λ e. omega arith) bad; frequencies_after = kept_refused _ _ (λ e. omega arith) bad }

pub returns-then-value-ge-VALUES : goal.returns-then-value-ge-VALUES
unfolding write_dynamic dynamic_number written_histogram
returns-then-value-ge-VALUES c =
    let formed = sym c.histogram_formed.ensures ∙ c.if-not-histogram_formed.false in
    let above = le-ltb c.args.value values (search rules) in
    let bad = number_value _ _ (histogram_formed c.args.frequencies.now) _ _ _ c.in_ok-write_fault.ensures refl formed above in
    record { buf_after = write_refused _ _ (λ e. omega arith) bad; frequencies_after = kept_refused _ _ (λ e. omega arith) bad }

pub write_formed-requires : goal.write_formed-requires
write_formed-requires c =
    let ok = ready (goal.at.write_formed-requires c).In_ok-write_fault in
    record { well_formed = (ok.limits, record { small = ok.small; within = ok.holds }); totalled = (record { formed = histogram_true _ (sym c.histogram_formed.ensures ∙ c.if-not-histogram_formed.false); summed = c.total_of-total.ensures }, search rules) }

pub returns : goal.returns
unfolding write_dynamic dynamic_number written_histogram
returns c =
    let formed = sym c.histogram_formed.ensures ∙ c.if-not-histogram_formed.false in
    let below = lt-ltb c.args.value values (search rules) in
    let fault = c.in_ok-write_fault.ensures in
    record { buf_after = led_judged _ c.args.self _ _ _ _ _ _ _ fault refl formed below refl c.write_formed.ensures.buf_after; frequencies_after = kept_same _ _ (number_room _ _ (histogram_formed c.args.frequencies.now) _ _ _ fault refl formed below) c.write_formed.ensures.frequencies_after }
