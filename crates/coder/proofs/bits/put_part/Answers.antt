-- One byte is stored for all the bits.
use Rattle.std.proofs.Common.{rules}
use Rattle.coder.proofs.Stored.{put_part_at}
use Rattle.coder.proofs.bits.put_part.Goals as goal

pub returns : goal.returns
returns c =
    let a = c.args in
    rw c.with_bits.ensures (put_part_at a.count a.value a.buf.now a.at (search rules) (search rules) (search rules) (search rules))
