-- Each judgement in turn; the number is the one that is judged.
use Rattle.std.proofs.Common.{false, length, sym, refl, ◌∙◌, arith}
use Rattle.std.proofs.lemmas.Result.{err_from_is_err_and}
use Rattle.coder.proofs.Starting.{Countable, countable, fault_counted, fault_unheld, fault_unlooked, held}
use Rattle.coder.proofs.Tests.{fault_some}
use Rattle.coder.proofs.interval.Coder.start.Goals as goal
use Rattle.coder.proofs.interval.Coder.start.Goals.{In_ok-count_fault}

-- no fault tells that the limits are formed and the counts small
counted : (c : In_ok-count_fault) → Countable c.args.self (length c.args.bytes.now)
counted c = countable c.args.self _ (sym c.in_ok-count_fault.ensures)

pub returns-in_err-count_fault : goal.returns-in_err-count_fault
returns-in_err-count_fault c =
    let p = err_from_is_err_and c.from_residual.result c.from_residual.ensures.1 in
    rw (p.1, p.2) (fault_counted false _ _ _ c.in_err-count_fault.ensures (fault_some c.in_err-count_fault.field-0.0))

pub code-number-requires : goal.code-number-requires
code-number-requires c = let k = counted c in omega arith

pub returns-then-holds : goal.returns-then-holds
returns-then-holds c = (fault_unlooked false _ c.args.self (counted (goal.at.returns-then-holds c).In_ok-count_fault) (held _ _ _ _ c.code-number.ensures (sym c.holds.ensures ∙ c.if-holds.true)) refl, c.code-number.ensures)

pub returns-else-holds : goal.returns-else-holds
returns-else-holds c = fault_unheld false _ c.args.self (counted (goal.at.returns-else-holds c).In_ok-count_fault) (held _ _ _ _ c.code-number.ensures (sym c.holds.ensures ∙ c.if-holds.false))
