-- The interval is narrowed, and then as wide again as it can be.
use Rattle.std.proofs.Common.{arith, rules}
use Rattle.coder.specs.Interval.{after_symbol}
use Rattle.coder.proofs.Limits.{narrow_grown, narrow_ordered}
use Rattle.coder.proofs.interval.Coder.after.Goals as goal

pub renormalized-requires : goal.renormalized-requires
renormalized-requires c =
    let a = c.args in
    let o = narrow_ordered a.self a.span (search rules) (search rules) in
    rw c.narrowed.ensures record { room = omega (arith, narrow_grown a.self a.span); low_le_high = (o.order, o.fits) }

pub returns : goal.returns
unfolding after_symbol
returns c = rw (c.renormalized.ensures, c.narrowed.ensures)
