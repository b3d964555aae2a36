-- Faults first, then the range, then the value that is found.
use Rattle.std.proofs.Common.{◌≡◌, true, false, ltb, length, sym, refl, ◌∙◌, arith, rules, le-ltb, lt-ltb}
use Rattle.std.proofs.lemmas.Result.{err_from_is_err_and}
use Rattle.coder.proofs.Forward.{static_codable}
use Rattle.coder.proofs.Judgements.{Readable, readable}
use Rattle.coder.proofs.Starting.{fault_first, fault_none, read_fault_lem, read_range, taken_judged, taken_refused}
use Rattle.coder.proofs.Stepping.{range_one, range_plain}
use Rattle.coder.proofs.Tests.{fault_some}
use Rattle.coder.specs.Bytes.{bit_at}
use Rattle.coder.specs.Inside.{found_as, value_number}
use Rattle.coder.specs.Interval.{target}
use Rattle.coder.specs.Reading.{Taken, taken, take_static}
use Rattle.coder.specs.Values.{Found, read_static}
use Rattle.coder.proofs.interval.Coder.take_static.Goals as goal
use Rattle.coder.proofs.interval.Coder.take_static.Goals.{After-after-next, Else-range-eq0, In_ok-number}

-- no fault tells that the data can be read
readable_of : (c : In_ok-number) → Readable false c.args.bytes.now c.args.self
readable_of c =
    let a = c.args in
    readable false a.bytes.now a.self (sym c.in_ok-number.ensures.0)

-- what is found is judged as every value in a static range
judge-of : (c : Else-range-eq0) (found : Found) (r : Taken) → (let a = c.args in
    found ≡ read_static a.range (bit_at a.bytes.now) a.self
    → r ≡ taken (value_number (length a.bytes.now) found (ltb found.value a.range)) found a.self
    → r ≡ take_static false a.range a.bytes.now a.self)
unfolding take_static
judge-of c found r e took =
    let none = fault_none false _ _ _ c.in_ok-number.ensures.0 refl refl in
    let some = lt-ltb 0 c.args.range (search rules) in
    rw (← e) (taken_judged _ _ _ true _ _ found _ r none refl refl some took)

-- the symbol and the state after it
found_of : (c : After-after-next) → (let a = c.args in
    found_as c.target-value.result c.after-next.result ≡ read_static a.range (bit_at a.bytes.now) a.self)
unfolding target
found_of c =
    let a = c.args in
    range_one a.range (bit_at a.bytes.now) a.self c.target-value.result c.after-next.result (search rules)
    (c.target-value.ensures ∙ rw c.in_ok-number.ensures.1) (c.after-next.ensures ∙ rw c.static_span.ensures)

pub returns-in_err-number : goal.returns-in_err-number
unfolding take_static
returns-in_err-number c =
    let p = err_from_is_err_and c.from_residual.result c.from_residual.ensures.1 in
    let some = fault_some c.in_err-number.field-0.0 in
    let bad = fault_first false _ _ _ c.in_err-number.ensures some in
    rw (p.1, p.2) (taken_refused _ some (read_fault_lem _ _ _ _ _ _ _ _ bad some))

pub returns-then-range-eq0 : goal.returns-then-range-eq0
unfolding take_static
returns-then-range-eq0 c =
    let none = fault_none false _ _ _ c.in_ok-number.ensures.0 refl refl in
    let bad = le-ltb 0 c.args.range (search rules) in
    taken_refused _ (λ e. omega arith) (read_range _ _ _ true _ _ _ _ none refl refl bad)

pub target-value-requires : goal.target-value-requires
target-value-requires c =
    let k = readable_of (goal.at.target-value-requires c).In_ok-number in
    let e = c.in_ok-number.ensures.1 in
    record { well_formed = (k.reading.limits, rw e k.reading.from_low, rw e k.reading.to_high); le_total = (search rules, search rules) }

pub after-next-requires : goal.after-next-requires
unfolding target
after-next-requires c =
    let a = c.args in
    let k = readable_of (goal.at.after-next-requires c).In_ok-number in
    let codable = static_codable a.self a.range (bit_at a.bytes.now) k.reading (search rules) (search rules) in
    record { well_formed = k.reading.limits; room = record { room = omega arith }; codable = rw (c.static_span.ensures, c.target-value.ensures, c.in_ok-number.ensures.1) codable }

pub accepted-requires : goal.accepted-requires
accepted-requires c = (readable_of (goal.at.accepted-requires c).In_ok-number).small

pub returns-then-range-le-LARGEST_RANGE : goal.returns-then-range-le-LARGEST_RANGE
returns-then-range-le-LARGEST_RANGE c =
    let at = goal.at.returns-then-range-le-LARGEST_RANGE c in
    judge-of at.Else-range-eq0 _ _ (found_of at.After-after-next) (c.accepted.ensures c.args.self)

pub plain_value-found-requires : goal.plain_value-found-requires
plain_value-found-requires c =
    let k = readable_of (goal.at.plain_value-found-requires c).In_ok-number in
    record { pointed = record { reading = k.reading; same = c.in_ok-number.ensures.1 }; pending_bound = (omega arith, omega arith, omega arith) }

pub accepted-requires-2 : goal.accepted-requires-2
accepted-requires-2 c = (readable_of (goal.at.accepted-requires-2 c).In_ok-number).small

pub returns : goal.returns
returns c =
    let a = c.args in
    let plain = range_plain a.range (bit_at a.bytes.now) a.self _ (search rules) c.plain_value-found.ensures in
    judge-of (goal.at.returns c).Else-range-eq0 c.plain_value-found.result _ plain (c.accepted-2.ensures a.self)
