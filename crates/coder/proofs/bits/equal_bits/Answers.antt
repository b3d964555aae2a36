-- All ones below a power of two, or 0.
use Rattle.std.proofs.Common.{refl, arith, pow_mono, rules}
use Rattle.coder.proofs.Stored.{equal_at}
use Rattle.coder.proofs.bits.equal_bits.Goals as goal

pub overflow_sub-result : goal.overflow_sub-result
overflow_sub-result c = (equal_at c.args.bit c.args.count (search rules) (search rules)).0

pub overflow_mul-result : goal.overflow_mul-result
overflow_mul-result c =
    let e = equal_at c.args.bit c.args.count (search rules) (search rules) in
    omega (arith, e.1, e.2, pow_mono {i = c.args.count} {j = 31} (search rules))

pub returns : goal.returns
returns c =
    let e = equal_at c.args.bit c.args.count (search rules) (search rules) in
    rw e.1 (refl, e.2)
