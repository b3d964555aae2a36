-- The masks keep every step small, and the steps reverse the bits.
use Rattle.coder.proofs.Reversal.{reversed_small, reversed_swapped, swapped_pairs}
use Rattle.std.proofs.Common.{◌/◌, arith}
use lib.Bits.{and_le_r}
use Rattle.coder.proofs.reverse.reversed_byte.Goals as goal

pub overflow_mul-pairs : goal.overflow_mul-pairs
overflow_mul-pairs c = omega (arith, and_le_r c.args.v 0x55)

pub overflow_add-pairs : goal.overflow_add-pairs
overflow_add-pairs c = omega (arith, and_le_r c.args.v 0x55, and_le_r (c.args.v / 2) 0x55)

pub overflow_mul-fours : goal.overflow_mul-fours
overflow_mul-fours c = omega (arith, and_le_r (swapped_pairs c.args.v) 0x33)

pub overflow_add-fours : goal.overflow_add-fours
overflow_add-fours c = omega (arith, and_le_r (swapped_pairs c.args.v) 0x33, and_le_r (swapped_pairs c.args.v / 4) 0x33)

pub overflow_add-result : goal.overflow_add-result
overflow_add-result c = omega (arith, reversed_swapped c.args.v c.requires, reversed_small c.args.v)

pub returns : goal.returns
returns c =
    let e = reversed_swapped c.args.v c.requires in
    (e, omega (arith, e, reversed_small c.args.v))
