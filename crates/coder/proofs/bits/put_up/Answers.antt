-- The invariant: the bits of the number that are left lead to the same bytes.
use Rattle.std.proofs.Common.{◌∙◌, rules}
use Rattle.coder.proofs.Stored.{up_none, up_turn}
use Rattle.coder.proofs.bits.put_up.Goals as goal

pub loop-left-preserved : goal.loop-left-preserved
loop-left-preserved c =
    let l = c.loop-left in
    let n = c.taken-n.result in (
      rw (c.from-at.ensures, c.from-left.ensures, c.high_bits-rest.ensures, c.put_part.ensures, c.low_bits.ensures.0)
          (up_turn n l.left l.rest l.buf l.at (search rules) ∙ l.invariant.0),
      search rules,
      search rules,
    )

pub returns : goal.returns
returns c = let l = c.loop-left in up_none l.left l.rest l.buf l.at (search rules) ∙ l.invariant.0
