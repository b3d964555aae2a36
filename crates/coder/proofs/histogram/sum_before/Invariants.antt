use Rattle.std.proofs.Common.{◌≡◌, ◌*◌, ◌≤◌, take}
use Rattle.coder.specs.Histogram.{sum}
use Rattle.coder.proofs.histogram.sum_before.Given as goal

abbrev pub invariant-loop-i : goal.invariant-loop-i
invariant-loop-i l = (l.total ≡ sum (take l.i l.h)) × (l.total ≤ l.i * 0xFFFFFFFF)
