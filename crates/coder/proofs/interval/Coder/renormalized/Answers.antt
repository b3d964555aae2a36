-- Nothing is to be done where the interval is wide; else the turns that settle come first. The counts rise by at most 16 in each of the two.
use Rattle.std.proofs.Common.{arith, rules}
use Rattle.coder.proofs.Limits.{settle_grown, tops_parted}
use Rattle.coder.proofs.Together.{wide_none}
use Rattle.coder.proofs.interval.Coder.renormalized.Goals as goal

pub returns-then-self-ge32768 : goal.returns-then-self-ge32768
returns-then-self-ge32768 c = wide_none _ (search rules) (search rules) (search rules)

pub all_postponed-requires : goal.all_postponed-requires
all_postponed-requires c =
    let s = c.args.self in
    let p = tops_parted s (search rules) in
    rw c.tops_settled.ensures record { room = omega (arith, settle_grown 16 s); low_bound = (p.low_top, (p.high_top, p.fits)) }

pub returns : goal.returns
returns c = rw (c.all_postponed.ensures, c.tops_settled.ensures)
