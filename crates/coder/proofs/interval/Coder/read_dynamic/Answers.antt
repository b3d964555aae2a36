-- Faults first, then the pending bits and the histogram, then the value that is found.
use Rattle.std.proofs.Common.{◌≡◌, true, false, sym, refl, ◌∙◌, arith}
use Rattle.std.proofs.lemmas.Result.{err_from_is_err_and}
use Rattle.coder.proofs.Judgements.{Readable, readable, histogram_true}
use Rattle.coder.proofs.Starting.{fault_first, fault_looked, fault_none, read_context, read_fault_lem, read_rest, taken_judged, taken_refused}
use Rattle.coder.proofs.Tests.{fault_some, kept_refused, kept_same}
use Rattle.coder.specs.Histogram.{histogram_formed}
use Rattle.coder.specs.Reading.{read_fault, take_dynamic, take_number, taken_histogram}
use Rattle.coder.proofs.interval.Coder.read_dynamic.Goals as goal
use Rattle.coder.proofs.interval.Coder.read_dynamic.Goals.{Else-not-pending_inverted, In_ok-number}

-- no fault tells that the data can be read
readable_of : (c : In_ok-number) → Readable false c.args.bytes.now c.args.self
readable_of c =
    let a = c.args in
    readable false a.bytes.now a.self (sym c.in_ok-number.ensures.0)

-- the pending bits are inverted, so nothing is wrong with the state
none_of : (c : Else-not-pending_inverted) → (let a = c.args in 0 ≡ read_fault true a.bytes.now a.self)
none_of c =
    let seen = sym c.pending_inverted.ensures ∙ c.if-not-pending_inverted.false in
    fault_none true _ _ _ c.in_ok-number.ensures.0 refl seen

pub returns-in_err-number : goal.returns-in_err-number
unfolding take_dynamic take_number taken_histogram
returns-in_err-number c =
    let p = err_from_is_err_and c.from_residual.result c.from_residual.ensures.1 in
    let some = fault_some c.in_err-number.field-0.0 in
    let bad = read_fault_lem _ _ _ (histogram_formed c.args.frequencies.now) true _ _ _ (fault_first true _ _ _ c.in_err-number.ensures some) some in
    rw (p.1, p.2) record { result_value = taken_refused _ some bad; frequencies_after = kept_refused _ _ some bad }

pub pending_inverted-requires : goal.pending_inverted-requires
pending_inverted-requires c = let k = readable_of c in (k.settled_small, k.pending_small, k.small)

pub returns-then-not-pending_inverted : goal.returns-then-not-pending_inverted
unfolding take_dynamic take_number taken_histogram
returns-then-not-pending_inverted c =
    let seen = sym c.pending_inverted.ensures ∙ c.if-not-pending_inverted.true in
    let fault = fault_looked true _ _ _ c.in_ok-number.ensures.0 refl seen in
    let bad = read_fault_lem _ _ _ (histogram_formed c.args.frequencies.now) true _ _ _ fault (λ e. omega arith) in
    record { result_value = taken_refused _ (λ e. omega arith) bad; frequencies_after = kept_refused _ _ (λ e. omega arith) bad }

pub returns-then-not-histogram_formed : goal.returns-then-not-histogram_formed
unfolding take_dynamic take_number taken_histogram
returns-then-not-histogram_formed c =
    let none = none_of (goal.at.returns-then-not-histogram_formed c).Else-not-pending_inverted in
    let bad = read_context _ _ _ _ true _ _ _ none refl (sym c.histogram_formed.ensures ∙ c.if-not-histogram_formed.true) in
    record { result_value = taken_refused _ (λ e. omega arith) bad; frequencies_after = kept_refused _ _ (λ e. omega arith) bad }

pub read_formed-requires : goal.read_formed-requires
read_formed-requires c =
    let k = readable_of (goal.at.read_formed-requires c).In_ok-number in
    record { pointed = record { reading = k.reading; same = c.in_ok-number.ensures.1 }; pending_bound = (omega arith, k.small); totalled = record { formed = histogram_true _ (sym c.histogram_formed.ensures ∙ c.if-not-histogram_formed.false); summed = c.total_of-total.ensures } }

pub returns : goal.returns
unfolding take_dynamic take_number taken_histogram
returns c =
    let none = none_of (goal.at.returns c).Else-not-pending_inverted in
    let formed = sym c.histogram_formed.ensures ∙ c.if-not-histogram_formed.false in
    record { result_value = taken_judged _ _ _ _ true _ _ _ _ none refl formed refl c.read_formed.ensures.result_value; frequencies_after = kept_same _ _ (read_rest _ _ _ _ true _ _ _ none refl formed refl) c.read_formed.ensures.frequencies_after }
