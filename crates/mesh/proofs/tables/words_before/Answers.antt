-- The invariant: the sum is that of the first i pools.
use native.Mathlib.Omega.{arith}
use Rattle.mesh.specs.Inside.{words_before}
use Rattle.mesh.proofs.Rooms.{before_more}
use Rattle.mesh.proofs.tables.words_before.Goals as goal

pub loop-i-init : goal.loop-i-init
unfolding words_before
loop-i-init c = record { summed = omega arith; small = omega arith }

pub loop-i-preserved : goal.loop-i-preserved
loop-i-preserved c =
    let l = c.loop-i in
    let w = c.words_in-sum in
    record { summed = before_more c.args.counts l.i l.sum w.result l.invariant.summed w.ensures.0; small = omega (arith, w.ensures.1) }
