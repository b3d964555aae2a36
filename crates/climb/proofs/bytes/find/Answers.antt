-- The invariant: what is found from here on is what is found from the start on.
use native.Mathlib.Omega.{arith}
use Rattle.climb.proofs.Finding.{found_here, found_more, found_none}
use Rattle.climb.proofs.bytes.find.Goals as goal

pub loop-i-init : goal.loop-i-init
loop-i-init c = (c.requires, λ r f. f)

pub returns-then-s-i : goal.returns-then-s-i
returns-then-s-i c =
    let l = c.loop-i in
    (omega arith, l.invariant.1 l.i (found_here _ c.args.s.now l.i (omega arith) c.if-s-i.true))

pub loop-i-preserved : goal.loop-i-preserved
loop-i-preserved c =
    let l = c.loop-i in
    (omega arith, λ r f. l.invariant.1 r (found_more _ c.args.s.now l.i (omega arith) c.if-s-i.false r f))

pub returns : goal.returns
returns c =
    let l = c.loop-i in
    l.invariant.1 _ (found_none _ c.args.s.now l.i l.invariant.0 (omega arith))
