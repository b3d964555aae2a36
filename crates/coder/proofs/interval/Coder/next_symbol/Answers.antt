-- The number points into the part of the next symbol.
use Rattle.std.proofs.Common.{◌∙◌, arith}
use Rattle.coder.specs.Interval.{target}
use Rattle.coder.proofs.Dynamics.{next_holds}
use Rattle.coder.proofs.Weights.{weight_le}
use Rattle.coder.proofs.interval.Coder.next_symbol.Goals as goal

pub target-place-requires : goal.target-place-requires
target-place-requires c = let r = c.requires.reading in let e = c.requires.same in let h = c.args.frequencies.totalled.formed in record { well_formed = (r.limits, rw e r.from_low, rw e r.to_high); le_total = (omega (arith, weight_le c.args.frequencies.each.now 0, h.escape), omega (arith, h.bounded)) }

pub returns : goal.returns
unfolding target
returns c = next_holds c.args.frequencies.each.now c.args.bytes.now c.args.self _ _ _ c.args.frequencies.totalled.formed c.requires.reading (c.from.ensures ∙ rw (← c.requires.same, ← c.args.frequencies.totalled.summed) c.target-place.ensures) c.symbol_at.ensures.0 c.symbol_at.ensures.1
