-- Equal bits are those of a number.
use Rattle.std.proofs.Common.{sym, ap, ◌∙◌, rules}
use Rattle.coder.specs.Bytes.{put_bits}
use Rattle.coder.proofs.Stored.{run_up}
use Rattle.coder.proofs.bits.put_short.Goals as goal

pub returns : goal.returns
returns c =
    let a = c.args in
    c.put_up.ensures
    ∙ rw c.equal_bits.ensures.0 (ap (put_bits a.buf.now a.from) (sym (run_up a.count a.bit (search rules))))
