-- The leading zeros of the bits in which the limits differ, 16 of the 32 bits left out.
use Rattle.std.proofs.Common.{rules}
use Rattle.coder.proofs.Together.{agreeing_of}
use Rattle.coder.proofs.interval.agreeing.Goals as goal

pub overflow_sub-result : goal.overflow_sub-result
overflow_sub-result c = (agreeing_of c.args.low c.args.high (search rules) (search rules)).0

pub returns : goal.returns
returns c = (agreeing_of c.args.low c.args.high (search rules) (search rules)).1
