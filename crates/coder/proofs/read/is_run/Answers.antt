-- The invariant: the bits that are left decide the same.
use Rattle.std.proofs.Common.{◌≡◌, ◌+◌, ◌-◌, sym, refl, ◌∙◌, arith}
use Rattle.coder.proofs.Streams.{run_more, run_stop, run_none, run_past}
use Rattle.coder.proofs.read.is_run.Goals as goal

pub loop-at-init : goal.loop-at-init
loop-at-init c =
    let a = c.args in
    let all : a.from + a.count - a.from ≡ a.count = omega arith in
    (rw all, refl)

pub returns-then-bit_at-bit : goal.returns-then-bit_at-bit
returns-then-bit_at-bit c =
    let l = c.loop-at in
    run_stop _ l.at _ _ (omega arith) (λ e. c.if-bit_at-bit.true (c.bit_at.ensures ∙ e)) ∙ l.invariant.0

pub returns-then-bits-at : goal.returns-then-bits-at
returns-then-bits-at c =
    let l = c.loop-at in
    run_past _ l.at _ _ (omega (arith, c.if-bits-at.true)) (sym c.bit_at.ensures ∙ c.if-bit_at-bit.false) ∙ l.invariant.0

pub loop-at-preserved : goal.loop-at-preserved
loop-at-preserved c =
    let l = c.loop-at in
    let a = c.args in
    let less : a.from + a.count - (l.at + 1) ≡ a.from + a.count - l.at - 1 = omega arith in
    (rw less (run_more _ l.at _ _ (omega arith) (sym c.bit_at.ensures ∙ c.if-bit_at-bit.false) ∙ l.invariant.0), l.invariant.1)

pub returns : goal.returns
returns c = let l = c.loop-at in run_none _ l.at _ _ (omega arith) ∙ l.invariant.0
