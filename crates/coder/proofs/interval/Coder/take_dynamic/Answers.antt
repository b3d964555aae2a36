-- A fault first; then a symbol that is found quickly, or the frequencies added up.
use Rattle.std.proofs.Common.{false, sym, refl, ◌∙◌, arith}
use Rattle.std.proofs.lemmas.Result.{err_from_is_err_and}
use Rattle.coder.proofs.Counts.{counted_fault, counted_quick, counted_summed}
use Rattle.coder.proofs.Judgements.{Readable, readable}
use Rattle.coder.proofs.Tests.{fault_some}
use Rattle.coder.proofs.interval.Coder.take_dynamic.Goals as goal
use Rattle.coder.proofs.interval.Coder.take_dynamic.Goals.{In_ok-number}

-- no fault tells that the data can be read
readable_of : (c : In_ok-number) → Readable false c.args.bytes.now c.args.self
readable_of c =
    let a = c.args in
    readable false a.bytes.now a.self (sym c.in_ok-number.ensures.0)

pub returns-in_err-number : goal.returns-in_err-number
returns-in_err-number c =
    let p = err_from_is_err_and c.from_residual.result c.from_residual.ensures.1 in
    rw (p.1, p.2) (counted_fault _ _ _ _ _ c.in_err-number.ensures (fault_some c.in_err-number.field-0.0))

pub quick_symbol-requires : goal.quick_symbol-requires
quick_symbol-requires c =
    record { reading = (readable_of (goal.at.quick_symbol-requires c).In_ok-number).reading; same = c.in_ok-number.ensures.1 }

pub take_quick-requires : goal.take_quick-requires
take_quick-requires c =
    let k = readable_of (goal.at.take_quick-requires c).In_ok-number in
    let q = c.in-Some.ensures in
    record { len_le_largest_file = (k.small, k.reading.limits, record { room = omega arith }); start_value = q.before_it; index_nonzero = (q.some, omega (arith, q.inside), q.below); codable = q.codable }

pub returns-in-Some : goal.returns-in-Some
returns-in-Some c =
    let a = c.args in
    let q = c.in-Some.ensures in
    c.take_quick.ensures ∙ counted_quick _ a.frequencies.now a.bytes.now a.self _ c.in_ok-number.ensures.0 refl _ q.same (λ e. omega (arith, e, q.some))

pub take_summed-requires : goal.take_summed-requires
take_summed-requires c =
    let k = readable_of (goal.at.take_summed-requires c).In_ok-number in
    record { pointed = record { reading = k.reading; same = c.in_ok-number.ensures.1 }; pending_bound = (omega arith, k.small) }

pub returns-in-None : goal.returns-in-None
returns-in-None c =
    let a = c.args in
    c.take_summed.ensures ∙ counted_summed _ a.frequencies.now a.bytes.now a.self _ c.in_ok-number.ensures.0 refl (sym c.in-None.ensures)
