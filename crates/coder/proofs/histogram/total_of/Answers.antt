-- The narrow sum is exact where no frequency is large; else the first 257 frequencies are all of them.
use Rattle.coder.specs.Histogram.{sum}
use Rattle.std.proofs.Common.{ap, ◌∙◌, take_all, rules}
use Rattle.coder.proofs.histogram.total_of.Goals as goal

pub returns-else-sums-lt-NARROW : goal.returns-else-sums-lt-NARROW
returns-else-sums-lt-NARROW c = c.sum_before.ensures ∙ ap sum (take_all 257 c.args.h.now (search rules))
