-- The leading zeros that the two distances from the middle share.
use Rattle.std.proofs.Common.{rules}
use Rattle.coder.proofs.Together.{straddling_of}
use Rattle.coder.proofs.interval.straddling.Goals as goal

pub overflow_sub-result-3 : goal.overflow_sub-result-3
overflow_sub-result-3 c = (straddling_of c.args.low c.args.high (search rules) (search rules) (search rules)).0

pub returns : goal.returns
returns c = (straddling_of c.args.low c.args.high (search rules) (search rules) (search rules)).1
