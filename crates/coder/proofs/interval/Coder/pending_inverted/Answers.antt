-- The run of the pending bits.
use Rattle.std.proofs.Common.{arith}
use Rattle.coder.specs.Forms.{pending_inverted}
use Rattle.coder.proofs.Streams.{bit_binary}
use Rattle.coder.proofs.interval.Coder.pending_inverted.Goals as goal

pub overflow_sub-next : goal.overflow_sub-next
overflow_sub-next c = omega (arith, bit_binary c.args.bytes.now c.args.self.settled)

pub returns : goal.returns
unfolding pending_inverted
returns c = rw (c.is_run.ensures, c.bit_at-next.ensures)
