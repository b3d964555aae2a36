-- After the fault each way to end is one of the three that the end can be.
use Rattle.coder.proofs.Finishing.{end_refused, end_writable, finish_low, finish_none, finish_zero}
use Rattle.coder.proofs.Judgements.{Writable}
use Rattle.coder.proofs.Tests.{fault_some}
use Rattle.std.proofs.Common.{length, refl, arith}
use Rattle.std.proofs.lemmas.Result.{err_from_is_err_and}
use Rattle.coder.proofs.write.Writer.finish.Goals as goal
use Rattle.coder.proofs.write.Writer.finish.Goals.{In_ok-write_fault}

-- no fault tells that the buffer can be written
ready : (c : In_ok-write_fault) → Writable c.args.self.coder (length c.args.buf.now)
ready c = end_writable c.args.buf.now c.args.self _ c.in_ok-write_fault.ensures refl

pub returns-in_err-write_fault : goal.returns-in_err-write_fault
returns-in_err-write_fault c =
    let a = c.args in
    let p = err_from_is_err_and c.from_residual.result c.from_residual.ensures.1 in
    rw (p.1, p.2) (end_refused a.buf.now a.self _ c.in_err-write_fault.ensures (fault_some c.in_err-write_fault.field-0.0))

pub end_zero-requires : goal.end_zero-requires
end_zero-requires c =
    let ok = ready (goal.at.end_zero-requires c).In_ok-write_fault in
    (ok.limits, record { small = ok.small; within = ok.holds })

pub returns-then-compressed : goal.returns-then-compressed
returns-then-compressed c =
    let a = c.args in
    finish_zero a.buf.now a.self _ c.in_ok-write_fault.ensures refl _ c.if-compressed.true c.end_zero.ensures

pub end_low-requires : goal.end_low-requires
end_low-requires c =
    let ok = ready (goal.at.end_low-requires c).In_ok-write_fault in
    (ok.limits, record { small = ok.small; within = ok.holds })

pub returns-then-start-ne0 : goal.returns-then-start-ne0
returns-then-start-ne0 c =
    let a = c.args in
    finish_low a.buf.now a.self _ c.in_ok-write_fault.ensures refl _ c.if-compressed.false c.then-start-ne0.either c.end_low.ensures

pub pad-requires : goal.pad-requires
pad-requires c = omega (arith, (ready (goal.at.pad-requires c).In_ok-write_fault).holds)

pub bytes_of-requires : goal.bytes_of-requires
bytes_of-requires c =
    let ok = ready (goal.at.bytes_of-requires c).In_ok-write_fault in
    omega (arith, ok.small, ok.holds)

pub returns : goal.returns
returns c =
    let a = c.args in
    finish_none a.buf.now a.self _ c.in_ok-write_fault.ensures refl _ _ c.if-compressed.false c.if-start-ne0.false c.if-start-ne0-2.false c.bytes_of.ensures c.pad.ensures
