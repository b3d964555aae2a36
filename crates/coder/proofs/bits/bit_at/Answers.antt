-- The bit of the byte that holds the place is the definition's.
use Rattle.coder.specs.Bytes.{bit_at}
use Rattle.coder.proofs.bits.bit_at.Goals as goal

pub returns : goal.returns
unfolding bit_at
returns c = rw (c.bit_of.ensures, c.byte_at.ensures)
