-- The low bits that stay and the new ones above them make a byte.
use Rattle.std.proofs.Common.{◌^◌, one-mul, arith, pow_pos, rules}
use Rattle.coder.proofs.Stored.{parts_below, with_bits_at}
use Rattle.coder.proofs.Together.{shl_small}
use Rattle.coder.proofs.bits.with_bits.Goals as goal

pub overflow_sub-result : goal.overflow_sub-result
overflow_sub-result c = let a = c.args in omega (arith, shl_small a.place 1 (search rules) (search rules), one-mul (2 ^ a.place), pow_pos a.place)

pub overflow_add-result : goal.overflow_add-result
overflow_add-result c =
    let a = c.args in
    rw c.from.ensures (omega (arith, with_bits_at a.place a.count a.value a.byte (search rules) (search rules), parts_below a.place a.count a.value a.byte (search rules) (search rules)))

pub overflow_cast-result : goal.overflow_cast-result
overflow_cast-result c =
    let a = c.args in
    rw c.from.ensures (omega (arith, with_bits_at a.place a.count a.value a.byte (search rules) (search rules), parts_below a.place a.count a.value a.byte (search rules) (search rules)))

pub returns : goal.returns
returns c = let a = c.args in rw c.from.ensures (with_bits_at a.place a.count a.value a.byte (search rules) (search rules))
