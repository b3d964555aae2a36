-- The shift loses nothing, since a power of 2 below the sixteenth fits.
use Rattle.std.proofs.Common.{arith, pow_pos, pow_mono, rules}
use Rattle.coder.proofs.bits.power.Goals as goal

pub returns : goal.returns
returns c = omega (arith, pow_mono {i = c.args.place} {j = 15} (search rules), pow_pos c.args.place)
