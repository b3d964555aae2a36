-- A halved frequency is within the total, so one more fits.
use Rattle.coder.proofs.Weights.{halved_half, weight_le}
use Rattle.coder.specs.Histogram.{halve, sum, thinned}
use Rattle.std.proofs.Common.{map, arith, rules, le-leb}
use borrow.Author.Tests.{lt-leb}
use Rattle.coder.proofs.histogram.thin.Goals as goal

pub overflow_add-h : goal.overflow_add-h
overflow_add-h c =
    let l = c.args.h.now in
    rw c.halve_all.ensures (omega (arith, weight_le (map halve l) 0, halved_half l))

pub returns-then-total-from : goal.returns-then-total-from
unfolding thinned
returns-then-total-from c = rw (c.halve_all.ensures, le-leb 0x1FFF (sum c.args.h.now) (search rules))

pub returns-else-total-from : goal.returns-else-total-from
unfolding thinned
returns-else-total-from c = rw (lt-leb 0x1FFF (sum c.args.h.now) (search rules))
