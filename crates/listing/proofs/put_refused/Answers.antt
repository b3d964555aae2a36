-- The length decides, and then two pieces are stored.
use native.Mathlib.Omega.{arith}
use Rattle.listing.proofs.Pieces.{end_short, refused_stored, refused_short}
use Rattle.listing.proofs.put_refused.Goals as goal

pub overflow_add-size : goal.overflow_add-size
overflow_add-size c = omega (arith, c.end_size-size.ensures, end_short c.from-number.result 0)

pub returns-then-text-size : goal.returns-then-text-size
returns-then-text-size c =
    let q = refused_short c.from-number.result c.args.e.place c.args.text.now (omega (arith, c.end_size-size.ensures, c.if-text-size.true)) in
    rw (← c.from-number.ensures) (record { result_value = rw c.at.ensures q.0; text_after = q.1 })

pub returns : goal.returns
returns c =
    let first = c.put_first-from in
    let both = refused_stored c.from-number.result c.args.e.place c.args.text.now first.new.text c.put_end.new.text first.result _
    first.ensures.text_after first.ensures.value c.put_end.ensures.text_after (omega (arith, c.end_size-size.ensures)) c.if-text-size.false in
    rw (← c.from-number.ensures) (record { result_value = both.0; text_after = both.1 })
