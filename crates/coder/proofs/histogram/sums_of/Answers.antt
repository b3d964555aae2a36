-- The sum of the frequencies passed, modulo 2^32, and all their bits.
use Rattle.std.proofs.Common.{◌≡◌, arith, rules}
use Rattle.coder.proofs.Weights.{summed_all, summed_more}
use Rattle.coder.specs.Histogram.{sum}
use Rattle.coder.proofs.histogram.sums_of.Goals as goal

pub loop-frequency-init : goal.loop-frequency-init
unfolding sum
loop-frequency-init c = search rules

pub loop-frequency-preserved : goal.loop-frequency-preserved
loop-frequency-preserved c = let l = c.loop-frequency in summed_more c.args.h.now l.frequency-index l.bits l.low (omega arith) l.invariant

pub returns : goal.returns
returns c =
    let l = c.loop-frequency in
    let all : l.frequency-index ≡ 257 = omega arith in
    summed_all c.args.h.now 257 l.bits l.low (omega arith) (rw (← all) l.invariant)
