use Rattle.std.proofs.Common.{◌≡◌, ◌++◌, length, map, take, drop}
use Rattle.coder.specs.Histogram.{halve}
use Rattle.coder.proofs.histogram.halve_all.Given as goal

abbrev pub invariant-loop-frequency : goal.invariant-loop-frequency
invariant-loop-frequency l =
    let h = l.frequency-items in
    (take l.frequency-index h ++ map halve (drop l.frequency-index h) ≡ map halve l.fn.h) × (length h ≡ 257)
