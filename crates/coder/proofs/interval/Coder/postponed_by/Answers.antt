-- Both distances from the middle stay within their half.
use Rattle.std.proofs.Common.{rules}
use Rattle.coder.proofs.Together.{postponed_at}
use Rattle.coder.proofs.interval.Coder.postponed_by.Goals as goal

pub returns : goal.returns
returns c = let a = c.args in rw c.from.ensures (postponed_at a.n a.self (search rules))
