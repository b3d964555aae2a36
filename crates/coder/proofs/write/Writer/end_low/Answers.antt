-- Refused where low's bits don't fit; else the byte is padded, and all sixteen are put.
use Rattle.coder.proofs.Finishing.{low_done, low_refused, low_within}
use Rattle.coder.proofs.Led.{holds}
use Rattle.std.proofs.Common.{sym, ◌∙◌, arith, rules}
use Rattle.coder.proofs.write.Writer.end_low.Goals as goal

pub returns-then-not-has_room : goal.returns-then-not-has_room
returns-then-not-has_room c =
    let a = c.args in
    low_refused a.buf.now a.self _ c.low_ended-next.ensures (sym c.has_room.ensures ∙ c.if-not-has_room.true)

pub put_tops-requires : goal.put_tops-requires
put_tops-requires c =
    let a = c.args in
    let w = low_within a.buf.now a.self _ c.low_ended-next.ensures (sym c.has_room.ensures ∙ c.if-not-has_room.false) in
    omega (arith, c.requires, c.pad.auto, w)

pub bytes_of-requires : goal.bytes_of-requires
bytes_of-requires c =
    let h = holds c.low_ended-next.result c.args.buf.now (search rules) (sym c.has_room.ensures ∙ c.if-not-has_room.false) in
    omega (arith, h)

pub returns : goal.returns
returns c =
    let a = c.args in
    low_done a.buf.now a.self _ c.low_ended-next.ensures _ _ _ (sym c.has_room.ensures ∙ c.if-not-has_room.false)
    c.bytes_of.ensures c.pad.ensures c.put_tops.ensures
