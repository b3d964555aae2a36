-- Each part that passes the end is refused in turn.
use borrow.Author.Tests.{lt-ltb, le-ltb}
use Rattle.blocks.specs.Head.{room_of}
use Rattle.blocks.proofs.head.room.Goals as goal

pub returns-then-len-e : goal.returns-then-len-e
unfolding room_of
returns-then-len-e c = rw (c.at.ensures, lt-ltb _ _ c.if-len-e.true)

pub returns-then-len-e-2 : goal.returns-then-len-e-2
unfolding room_of
returns-then-len-e-2 c = rw (c.at-then-len-e-2.ensures, le-ltb _ _ c.if-len-e.false, lt-ltb _ _ c.if-len-e-2.true)

pub returns-then-len-e-3 : goal.returns-then-len-e-3
unfolding room_of
returns-then-len-e-3 c = rw (c.at-then-len-e-3.ensures, le-ltb _ _ c.if-len-e.false, le-ltb _ _ c.if-len-e-2.false, lt-ltb _ _ c.if-len-e-3.true)

pub returns-then-len-e-4 : goal.returns-then-len-e-4
unfolding room_of
returns-then-len-e-4 c = rw (c.at-then-len-e-4.ensures, le-ltb _ _ c.if-len-e.false, le-ltb _ _ c.if-len-e-2.false, le-ltb _ _ c.if-len-e-3.false, lt-ltb _ _ c.if-len-e-4.true)

pub returns : goal.returns
unfolding room_of
returns c = rw (le-ltb _ _ c.if-len-e.false, le-ltb _ _ c.if-len-e-2.false, le-ltb _ _ c.if-len-e-3.false, le-ltb _ _ c.if-len-e-4.false)
