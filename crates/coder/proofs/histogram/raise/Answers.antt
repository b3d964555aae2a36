-- A frequency is within the total, and a thinned histogram has room for one more.
use Rattle.coder.proofs.Raising.{thinned_roomy}
use Rattle.coder.proofs.Weights.{weight_le}
use Rattle.coder.specs.Histogram.{raised, thinned}
use Rattle.std.proofs.Common.{arith, rules}
use Rattle.coder.proofs.histogram.raise.Goals as goal

pub overflow_add-h : goal.overflow_add-h
overflow_add-h c =
    let a = c.args in
    rw c.thin.ensures (omega (arith, weight_le (thinned a.h.now) a.symbol, thinned_roomy a.h.now (search rules)))

pub returns : goal.returns
unfolding raised
returns c = rw c.thin.ensures
