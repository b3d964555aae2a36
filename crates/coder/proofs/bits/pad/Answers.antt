-- Inside a byte a 0 is put at the place, which makes those above it 0; elsewhere nothing is to be done.
use Rattle.std.proofs.Common.{arith, eq-eqb, ne_eqb}
use Rattle.coder.specs.Bytes.{padded}
use Rattle.coder.proofs.Stored.{up_one}
use Rattle.coder.proofs.bits.pad.Goals as goal

pub returns-then-at-ne0 : goal.returns-then-at-ne0
unfolding padded
returns-then-at-ne0 c = rw (c.put_part.ensures, up_one _ _ 0 (omega arith), ne_eqb _ _ c.if-at-ne0.true)

pub returns-else-at-ne0 : goal.returns-else-at-ne0
unfolding padded
returns-else-at-ne0 c = rw (eq-eqb _ _ c.if-at-ne0.false)
