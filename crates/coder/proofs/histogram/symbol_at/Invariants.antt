use Rattle.std.proofs.Common.{◌≡◌, ◌+◌, take, drop}
use Rattle.coder.specs.Histogram.{sum, symbol_at}
use Rattle.coder.proofs.histogram.symbol_at.Given as goal

abbrev pub invariant-loop-index : goal.invariant-loop-index
invariant-loop-index l = (l.index + symbol_at (drop l.index l.h) l.rest ≡ symbol_at l.h l.place) × (l.rest + sum (take l.index l.h) ≡ l.place)
