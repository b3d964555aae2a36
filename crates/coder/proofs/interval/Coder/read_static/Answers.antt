-- Faults first, then the pending bits and the range, then the value that is found.
use Rattle.std.proofs.Common.{◌≡◌, true, false, sym, refl, ◌∙◌, arith, rules, le-ltb, lt-ltb}
use Rattle.std.proofs.lemmas.Result.{err_from_is_err_and}
use Rattle.coder.proofs.Judgements.{Readable, readable}
use Rattle.coder.proofs.Starting.{fault_first, fault_looked, fault_none, read_fault_lem, read_range, taken_judged, taken_refused}
use Rattle.coder.proofs.Tests.{fault_some}
use Rattle.coder.specs.Reading.{read_fault, take_static}
use Rattle.coder.proofs.interval.Coder.read_static.Goals as goal
use Rattle.coder.proofs.interval.Coder.read_static.Goals.{Else-not-pending_inverted, In_ok-number}

-- no fault tells that the data can be read
readable_of : (c : In_ok-number) → Readable false c.args.bytes.now c.args.self
readable_of c =
    let a = c.args in
    readable false a.bytes.now a.self (sym c.in_ok-number.ensures.0)

-- the pending bits are inverted, so nothing is wrong with the state
none_of : (c : Else-not-pending_inverted) → (let a = c.args in 0 ≡ read_fault true a.bytes.now a.self)
none_of c =
    let seen = sym c.pending_inverted.ensures ∙ c.if-not-pending_inverted.false in
    fault_none true _ _ _ c.in_ok-number.ensures.0 refl seen

pub returns-in_err-number : goal.returns-in_err-number
unfolding take_static
returns-in_err-number c =
    let p = err_from_is_err_and c.from_residual.result c.from_residual.ensures.1 in
    let some = fault_some c.in_err-number.field-0.0 in
    let bad = fault_first true _ _ _ c.in_err-number.ensures some in
    rw (p.1, p.2) (taken_refused _ some (read_fault_lem _ _ _ _ _ _ _ _ bad some))

pub pending_inverted-requires : goal.pending_inverted-requires
pending_inverted-requires c = let k = readable_of c in (k.settled_small, k.pending_small, k.small)

pub returns-then-not-pending_inverted : goal.returns-then-not-pending_inverted
unfolding take_static
returns-then-not-pending_inverted c =
    let seen = sym c.pending_inverted.ensures ∙ c.if-not-pending_inverted.true in
    let bad = fault_looked true _ _ _ c.in_ok-number.ensures.0 refl seen in
    taken_refused _ (λ e. omega arith) (read_fault_lem _ _ _ _ _ _ _ _ bad (λ e. omega arith))

pub returns-then-range-eq0 : goal.returns-then-range-eq0
unfolding take_static
returns-then-range-eq0 c =
    let bad = le-ltb 0 c.args.range (search rules) in
    taken_refused _ (λ e. omega arith) (read_range _ _ _ true _ _ _ _ (none_of (goal.at.returns-then-range-eq0 c).Else-not-pending_inverted) refl refl bad)

pub static_value-found-requires : goal.static_value-found-requires
static_value-found-requires c =
    let k = readable_of (goal.at.static_value-found-requires c).In_ok-number in
    record { pointed = record { reading = k.reading; same = c.in_ok-number.ensures.1 }; pending_bound = (omega arith, search rules) }

pub accepted-requires : goal.accepted-requires
accepted-requires c = (readable_of (goal.at.accepted-requires c).In_ok-number).small

pub returns : goal.returns
unfolding take_static
returns c =
    let some = lt-ltb 0 c.args.range (search rules) in
    let none = none_of (goal.at.returns c).Else-not-pending_inverted in
    rw (← c.static_value-found.ensures) (taken_judged _ _ _ true _ _ c.static_value-found.result _ _ none refl refl some (c.accepted.ensures c.args.self))
