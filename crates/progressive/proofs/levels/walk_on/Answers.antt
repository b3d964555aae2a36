use Rattle.std.proofs.Common.{◌≡◌, arith}
use Rattle.progressive.proofs.levels.walk_on.Goals as goal

pub returns : goal.returns
returns c =
    let same : c.loop-i.i ≡ c.args.k = omega arith in
    rw same at c.loop-i.invariant
