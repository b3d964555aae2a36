-- No turn where there is none to make; else the shifts stay within 32 bits.
use Rattle.std.proofs.Common.{◌^◌, one-mul, arith, pow_pos, pow_mono, rules}
use Rattle.coder.proofs.Together.{settled_at, settled_none, shl_small}
use Rattle.coder.proofs.interval.Coder.settled_by.Goals as goal

pub returns-then-n-eq0 : goal.returns-then-n-eq0
returns-then-n-eq0 c = settled_none c.args.n c.args.self (search rules)

pub overflow_sub-result : goal.overflow_sub-result
overflow_sub-result c =
    let n = c.args.n in
    omega (arith, shl_small n 1 (search rules) (search rules), one-mul (2 ^ n), pow_pos n)

pub overflow_add-result : goal.overflow_add-result
overflow_add-result c =
    let a = c.args in
    omega (arith, shl_small a.n 1 (search rules) (search rules), one-mul (2 ^ a.n), pow_mono {i = a.n} {j = 16} (search rules))

pub returns : goal.returns
returns c =
    let a = c.args in
    rw c.from.ensures (settled_at a.n a.self (search rules) (search rules) (search rules) (search rules))
