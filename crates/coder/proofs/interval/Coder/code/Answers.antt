-- A bit and fifteen more fit.
use Rattle.std.proofs.Common.{◌+◌, arith}
use Rattle.coder.specs.Bytes.{bit_at}
use Rattle.coder.specs.Interval.{code}
use Rattle.coder.proofs.Streams.{word_below, bit_binary}
use Rattle.coder.proofs.interval.Coder.code.Goals as goal

pub overflow_mul-result : goal.overflow_mul-result
overflow_mul-result c = omega (arith, bit_binary c.args.bytes.now c.args.self.settled)

pub overflow_add-result : goal.overflow_add-result
overflow_add-result c = let x = c.args.bytes.now in omega (arith, bit_binary x c.args.self.settled, word_below (bit_at x) (c.args.self.settled + 1 + c.args.self.pending) 15 (bit_binary x))

pub returns : goal.returns
unfolding code
returns c = rw (c.word_at.ensures, c.bit_at.ensures)
