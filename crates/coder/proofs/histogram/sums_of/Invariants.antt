use Rattle.coder.proofs.Weights.{Summed}
use Rattle.coder.proofs.histogram.sums_of.Given as goal

abbrev pub invariant-loop-frequency : goal.invariant-loop-frequency
invariant-loop-frequency l = Summed l.h l.frequency-index l.bits l.low
