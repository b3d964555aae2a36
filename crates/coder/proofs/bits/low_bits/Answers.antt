-- A mask of ones takes the remainder.
use Rattle.std.proofs.Common.{refl, rules}
use Rattle.coder.proofs.Stored.{masked}
use Rattle.coder.proofs.bits.low_bits.Goals as goal

pub overflow_sub-result : goal.overflow_sub-result
overflow_sub-result c = (masked c.args.n c.args.value (search rules)).0

pub returns : goal.returns
returns c =
    let m = masked c.args.n c.args.value (search rules) in
    rw m.1 (refl, m.2)
