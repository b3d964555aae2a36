-- Three bytes hold the fifteen bits, wherever in its byte the first of them stands; doubled, they are turned round as sixteen.
use Rattle.coder.proofs.Windows.{window}
use Rattle.std.proofs.Common.{arith}
use Rattle.coder.proofs.bits.word_at.Goals as goal

pub returns : goal.returns
returns c =
    rw (c.reversed_word.ensures.value, c.power.ensures.value, c.three_at-three.ensures.value)
    (window _ (λ i. omega (arith, c.type_inv.bytes i)) c.args.from)
