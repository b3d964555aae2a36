-- `coder::interval::Coder::narrowed` meets its contract: the upper part is not empty, since a well-formed interval is larger than any total.
use Rattle.std.proofs.Common.{◌+◌, ◌-◌, arith, rules}
use Rattle.coder.specs.Interval.{narrow}
use Rattle.coder.proofs.Narrowing.{part_next}
use Rattle.coder.proofs.interval.Coder.narrowed.Goals as goal

pub overflow_sub-result : goal.overflow_sub-result
overflow_sub-result c =
    let a = c.args in
    omega (
      arith,
      part_next (a.self.high + 1 - a.self.low) a.span.start a.span.weight a.span.total
          (search rules) (search rules) (search rules),
    )

pub returns : goal.returns
unfolding narrow
returns c = rw (c.part.ensures.value, c.part-2.ensures.value)
