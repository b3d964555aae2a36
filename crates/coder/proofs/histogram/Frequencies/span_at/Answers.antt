-- Each part is below the total, which fits.
use Rattle.std.proofs.Common.{arith}
use Rattle.coder.specs.Histogram.{span_of}
use Rattle.coder.proofs.Weights.{before_le}
use Rattle.coder.proofs.histogram.Frequencies.span_at.Goals as goal

pub overflow_cast-result : goal.overflow_cast-result
overflow_cast-result c = omega (arith, before_le c.args.self.each.now c.args.symbol.index)

pub returns : goal.returns
unfolding span_of
returns c = rw (c.requires.1, c.args.self.totalled.summed)
