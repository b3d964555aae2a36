-- The rest of the first byte, the whole bytes, and the bits of the last.
use Rattle.coder.proofs.Stored.{run_long}
use Rattle.std.proofs.Common.{◌∙◌, rules}
use Rattle.coder.proofs.bits.put_long.Goals as goal

pub returns : goal.returns
returns c =
    let a = c.args in
    c.put_short-2.ensures ∙ rw (c.fill.ensures, c.put_short.ensures) (run_long a.from a.count a.bit a.buf.now (search rules))
