-- As many bits are put as are settled together.
use Rattle.std.proofs.Common.{ap, ◌∙◌, arith, rules}
use Rattle.coder.specs.Bytes.{put_bits}
use Rattle.coder.proofs.Limits.{settle_grown, tops_parted, turns_hold}
use Rattle.coder.proofs.Stored.{lead_tops, tops_fit}
use Rattle.coder.proofs.Together.{settle_together}
use Rattle.coder.proofs.interval.Coder.put_renormalized.Goals as goal

pub put_tops-requires : goal.put_tops-requires
put_tops-requires c =
    let a = c.args in
    let g = c.agreeing-n.ensures in
    record { low_bound = (omega arith, omega (arith, g.whole)); buf_len_bound = (search rules, tops_fit c.agreeing-n.result a.self a.buf.now g (turns_hold a.self a.buf.now (search rules))) }

pub settled_by-requires : goal.settled_by-requires
settled_by-requires c =
    let a = c.args in
    let h = turns_hold a.self a.buf.now (search rules) in
    let g = c.agreeing-n.ensures in
    record { room = omega (arith, settle_grown 16 a.self, h); low_bound = omega (arith, g.whole) }

pub all_postponed-requires : goal.all_postponed-requires
all_postponed-requires c =
    let a = c.args in
    let p = tops_parted a.self (search rules) in
    let h = turns_hold a.self a.buf.now (search rules) in
    rw (c.settled_by.ensures, ← settle_together c.agreeing-n.result a.self c.agreeing-n.ensures)
    record { room = omega (arith, h); low_bound = (p.low_top, (p.high_top, p.fits)) }

pub returns : goal.returns
returns c =
    let a = c.args in
    let g = c.agreeing-n.ensures in record { value = rw (c.all_postponed.ensures, c.settled_by.ensures, settle_together c.agreeing-n.result a.self g); buf_after = c.put_tops.ensures ∙ ap (put_bits a.buf.now a.self.settled) (lead_tops c.agreeing-n.result a.self g) }
