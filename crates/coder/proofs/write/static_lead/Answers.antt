-- The range says which.
use Rattle.std.proofs.Common.{arith, rules}
use Rattle.coder.proofs.Led.{static_one, static_plain}
use Rattle.coder.proofs.Sequence.{byte_codable}
use Rattle.coder.proofs.write.static_lead.Goals as goal

pub returns-then-range-le-LARGEST_RANGE : goal.returns-then-range-le-LARGEST_RANGE
returns-then-range-le-LARGEST_RANGE c =
    let a = c.args in
    rw c.static_span.ensures record { rest_value = static_one a.range a.value (search rules); codable = ((λ h. record { some = omega arith; within = omega arith; small = search rules }), omega arith) }

pub returns-else-range-le-LARGEST_RANGE : goal.returns-else-range-le-LARGEST_RANGE
returns-else-range-le-LARGEST_RANGE c =
    let a = c.args in
    rw c.byte_span.ensures record { rest_value = static_plain a.range a.value (search rules); codable = ((λ h. byte_codable a.value), omega arith) }
