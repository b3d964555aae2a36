-- The quotient by the bit's value ends in the bit.
use Rattle.coder.proofs.bits.bit_of.Goals as goal

pub returns : goal.returns
returns c = rw c.power.ensures.value
