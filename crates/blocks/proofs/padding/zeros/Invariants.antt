use Prim.Native.Nat.{◌-◌}
use mathlib.Core.Path.{◌≡◌}
use Rattle.blocks.specs.Padding.{zeros_of}
use Rattle.blocks.proofs.padding.zeros.Given as goal

abbrev pub invariant-loop-at : goal.invariant-loop-at
invariant-loop-at l = zeros_of (l.to - l.from) l.s l.from ≡ zeros_of (l.to - l.at) l.s l.at
