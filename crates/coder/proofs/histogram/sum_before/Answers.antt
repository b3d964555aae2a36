-- The total is the sum of the frequencies passed, each of which fits 32 bits.
use Rattle.std.proofs.Common.{◌≡◌, arith, rules}
use Rattle.coder.proofs.Weights.{sum_more}
use Rattle.coder.specs.Histogram.{sum}
use Rattle.coder.proofs.histogram.sum_before.Goals as goal

pub loop-i-init : goal.loop-i-init
unfolding sum
loop-i-init c = search rules

pub overflow_add-total : goal.overflow_add-total
overflow_add-total c = omega (arith, c.loop-i.invariant.1, c.requires)

pub loop-i-preserved : goal.loop-i-preserved
loop-i-preserved c =
    let l = c.loop-i in
    (rw (c.from-total.ensures, l.invariant.0) (sum_more c.args.h.now l.i (omega (arith, c.requires))), omega (arith, l.invariant.1))

pub returns : goal.returns
returns c =
    let l = c.loop-i in
    let all : l.i ≡ c.args.count = omega arith in
    rw (← all) l.invariant.0
