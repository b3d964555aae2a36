use Prim.Native.Nat.{◌-◌, ◌+◌}
use native.Mathlib.Omega.{arith}
use Rattle.fields.proofs.Bytes.{zero_bytes, below_seven, step, all_bytes}
use Rattle.fields.proofs.field.value_at.Goals as goal

pub loop-i-init : goal.loop-i-init
loop-i-init c = zero_bytes _ _ _

pub overflow_mul-value : goal.overflow_mul-value
overflow_mul-value c = omega (arith, below_seven c.loop-i.i _ _ c.loop-i-test.true c.requires.1 c.loop-i.invariant.1)

pub overflow_add-value : goal.overflow_add-value
overflow_add-value c =
    let l = c.loop-i in
    omega (arith, below_seven l.i _ _ c.loop-i-test.true c.requires.1 l.invariant.1, c.type_inv.s (c.args.at + (l.i - 1)))

pub loop-i-preserved : goal.loop-i-preserved
loop-i-preserved c =
    let l = c.loop-i in
    let a = c.args in
    step a.s.now a.at a.width l.i l.value c.from.result c.loop-i-test.true l.auto.i l.invariant.0 l.invariant.1
    c.from.ensures (omega (arith, c.from.ensures, c.type_inv.s (a.at + (l.i - 1))))

pub returns : goal.returns
returns c = all_bytes c.loop-i.invariant.0 c.loop-i.invariant.1 (omega arith)
