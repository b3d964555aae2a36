use Prim.Native.Nat.{◌*◌, ◌≤◌}
use mathlib.Core.Path.{◌≡◌}
use Rattle.mesh.specs.Inside.{words_before}
use Rattle.mesh.proofs.tables.words_before.Given as goal

abbrev pub invariant-loop-i : goal.invariant-loop-i
invariant-loop-i l = record { summed : l.sum ≡ words_before l.counts l.i; small : l.sum ≤ 1099511627776 * l.i }
