-- The frequencies passed are halved, and those left are still to be.
use Rattle.std.proofs.Common.{◌∙◌, length-set, arith}
use Rattle.coder.proofs.Weights.{halve_more, halve_none}
use Rattle.coder.proofs.histogram.halve_all.Goals as goal

pub loop-frequency-preserved : goal.loop-frequency-preserved
loop-frequency-preserved c =
    let l = c.loop-frequency in
    (halve_more l.frequency-items l.frequency-index (omega (arith, l.invariant.1)) ∙ l.invariant.0, simp length-set l.invariant.1)

pub returns : goal.returns
returns c = let l = c.loop-frequency in halve_none l.frequency-items l.frequency-index (omega (arith, l.invariant.1)) ∙ l.invariant.0
