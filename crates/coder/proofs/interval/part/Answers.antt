-- `coder::interval::part` meets its contract: the product fits, and a part is no longer than the whole.
use Rattle.std.proofs.Common.{refl, rules}
use Rattle.coder.proofs.Narrowing.{part_fits, part_le}
use Rattle.coder.proofs.interval.part.Goals as goal

pub overflow_mul-result : goal.overflow_mul-result
overflow_mul-result c = record { fits = part_fits c.args.range c.args.weight (search rules) (search rules) }

pub returns : goal.returns
returns c = record { value = refl; upper_bound = part_le c.args.range c.args.weight c.args.total (search rules) }
