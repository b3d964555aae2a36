use Prim.Native.Nat.{◌-◌, ◌+◌, ◌^◌, ◌<◌}
use mathlib.Core.Path.{◌≡◌}
use Rattle.fields.specs.Field.{little_endian}
use Rattle.fields.proofs.field.value_at.Given as goal

abbrev pub invariant-loop-i : goal.invariant-loop-i
invariant-loop-i l = (l.value ≡ little_endian (l.width - l.i) l.s (l.at + l.i)) × (l.value < 256 ^ (l.width - l.i))
