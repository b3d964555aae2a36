-- The number is in the limits, so nothing wraps.
use Rattle.std.proofs.Common.{◌+◌, ◌-◌, ◌*◌, ◌≤◌, mul-le-mul, arith, rules}
use Rattle.coder.proofs.interval.Coder.target.Goals as goal

pub overflow_mul-result : goal.overflow_mul-result
overflow_mul-result c = let m : c.args.total * (c.args.number + 1 - c.args.self.low) ≤ 0x3FFE * 0x10000 = mul-le-mul {n₂ = 0x3FFE} {m₂ = 0x10000} (omega arith) (omega arith) in omega arith

pub overflow_sub-result-2 : goal.overflow_sub-result-2
overflow_sub-result-2 c = mul-le-mul {n₁ = 1} {m₁ = 1} (search rules) (omega arith)
