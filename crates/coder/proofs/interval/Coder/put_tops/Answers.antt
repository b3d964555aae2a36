-- The top bit, the pending ones and the other bits are put one after the other.
use Rattle.std.proofs.Common.{◌≡◌, ◌/◌, ◌∙◌, rules}
use Rattle.coder.proofs.Stored.{lead_none, lead_put, mirror_of}
use Rattle.coder.specs.Symbols.{reversed}
use Rattle.coder.proofs.interval.Coder.put_tops.Goals as goal

pub returns-then-n-eq0 : goal.returns-then-n-eq0
returns-then-n-eq0 c = lead_none _ _ _ (search rules)

pub returns : goal.returns
returns c =
    let a = c.args in
    let mirror : c.reversed_word.result / 2 ≡ reversed 15 a.self.low = rw c.reversed_word.ensures.value (mirror_of a.self.low) in
    c.put_up.ensures ∙ rw (c.put_run.ensures, c.put_part.ensures, c.from.ensures)
    (lead_put a.n a.self a.buf.now _ (search rules) (search rules) (search rules) mirror)
