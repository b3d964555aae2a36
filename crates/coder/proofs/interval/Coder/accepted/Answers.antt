-- A refusal gives back the state that was handed in, whatever it is; else the value is found.
use Rattle.std.proofs.Common.{refl, sym}
use Rattle.std.proofs.lemmas.Result.{err_from_is_err_and}
use Rattle.coder.proofs.Starting.{taken_got, taken_refused}
use Rattle.coder.proofs.Tests.{fault_some}
use Rattle.coder.specs.Inside.{found_as}
use Rattle.coder.proofs.interval.Coder.accepted.Goals as goal

pub returns-in_err-value_fault : goal.returns-in_err-value_fault
returns-in_err-value_fault c s =
    let p = err_from_is_err_and c.from_residual.result c.from_residual.ensures.1 in
    rw (p.1, p.2) (taken_refused (found_as c.args.value c.args.self) (fault_some c.in_err-value_fault.field-0.0) c.in_err-value_fault.ensures)

pub returns : goal.returns
returns c s = taken_got s (found_as c.args.value c.args.self) (sym c.in_ok-value_fault.ensures) refl
