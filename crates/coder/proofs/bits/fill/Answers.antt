-- Equal bytes are equal bits.
use Rattle.std.proofs.Common.{◌≡◌, ◌-◌, length, take, drop, arith, rules}
use Rattle.coder.proofs.Stored.{filled}
use Rattle.coder.proofs.bits.fill.Goals as goal

pub returns : goal.returns
returns c =
    let a = c.args in
    let long : length (take (a.end - a.from) (drop a.from a.buf.now)) ≡ a.end - a.from = search (rules, arith) in
    rw (c.fill.ensures.after (λ y e. e), c.equal_bits-byte.ensures.0, long) (filled (a.end - a.from) a.from a.bit a.buf.now (omega (arith, c.requires)) c.requires.2)
