-- Faults first, then the pending bits, then the value that is found.
use Rattle.std.proofs.Common.{◌≡◌, true, false, sym, refl, ◌∙◌, arith}
use Rattle.std.proofs.lemmas.Result.{err_from_is_err_and}
use Rattle.coder.proofs.Judgements.{Readable, readable}
use Rattle.coder.proofs.Starting.{fault_first, fault_looked, fault_none, read_fault_lem, taken_judged, taken_refused}
use Rattle.coder.proofs.Tests.{fault_some}
use Rattle.coder.specs.Bytes.{bit_at}
use Rattle.coder.specs.Reading.{take_plain}
use Rattle.coder.specs.Values.{read_plain}
use Rattle.coder.specs.Writing.{bytes_in}
use Rattle.coder.proofs.interval.Coder.judged_plain.Goals as goal
use Rattle.coder.proofs.interval.Coder.judged_plain.Goals.{After-plain_value-found, In_ok-number}

-- no fault tells that the data can be read
readable_of : (c : In_ok-number) → Readable false c.args.bytes.now c.args.self
readable_of c =
    let a = c.args in
    readable false a.bytes.now a.self (sym c.in_ok-number.ensures.0)

-- the state is copied and the width counted
found_of : (c : After-plain_value-found) → (let a = c.args in
    c.plain_value-found.result ≡ read_plain (bytes_in a.width) (bit_at a.bytes.now) a.self)
found_of c = c.plain_value-found.ensures ∙ rw (c.bytes.ensures.0, c.copied.ensures)

pub returns-in_err-number : goal.returns-in_err-number
unfolding take_plain
returns-in_err-number c =
    let p = err_from_is_err_and c.from_residual.result c.from_residual.ensures.1 in
    let some = fault_some c.in_err-number.field-0.0 in
    let bad = fault_first c.args.look _ _ _ c.in_err-number.ensures some in
    rw (p.1, p.2) (taken_refused _ some (read_fault_lem _ _ _ _ _ _ _ _ bad some))

pub looked-requires : goal.looked-requires
looked-requires c = let k = readable_of c in (k.settled_small, k.pending_small, k.small)

pub returns-then-not-looked : goal.returns-then-not-looked
unfolding take_plain
returns-then-not-looked c =
    let seen = sym c.looked.ensures ∙ c.if-not-looked.true in
    let bad = fault_looked c.args.look _ _ _ c.in_ok-number.ensures.0 refl seen in
    taken_refused _ (λ e. omega arith) (read_fault_lem _ _ _ _ _ _ _ _ bad (λ e. omega arith))

pub plain_value-found-requires : goal.plain_value-found-requires
plain_value-found-requires c =
    let k = readable_of (goal.at.plain_value-found-requires c).In_ok-number in
    rw c.copied.ensures record { pointed = record { reading = k.reading; same = c.in_ok-number.ensures.1 }; pending_bound = (omega arith, c.bytes.ensures.1, c.bytes.ensures.2) }

pub accepted-requires : goal.accepted-requires
accepted-requires c = (readable_of (goal.at.accepted-requires c).In_ok-number).small

pub returns : goal.returns
unfolding take_plain
returns c =
    let seen = sym c.looked.ensures ∙ c.if-not-looked.false in
    let none = fault_none c.args.look _ _ _ c.in_ok-number.ensures.0 refl seen in
    rw (← found_of (goal.at.returns c).After-plain_value-found) (taken_judged _ _ _ true true true c.plain_value-found.result _ _ none refl refl refl (c.accepted.ensures c.args.self))
