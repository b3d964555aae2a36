use Prim.Native.Nat.{◌*◌, ◌+◌, ◌-◌}
use mathlib.Core.Path.{◌≡◌}
use Rattle.coder.specs.Bytes.{bit_at}
use Rattle.coder.specs.Interval.{Inverted}
use Rattle.mesh.specs.Corners.{corner_fields}
use Rattle.mesh.specs.Faces.{corners_from}
use Rattle.mesh.specs.Inside.{stored_words}
use Rattle.mesh.proofs.faces.read_corners.Given as goal

abbrev pub invariant-loop-n : goal.invariant-loop-n
invariant-loop-n l = record {
  inverted : Inverted l.s (bit_at l.input);
  whole : stored_words l.fn.table l.at (corners_from l.form (3 * corner_fields) 0 l.input l.fn.state)
      ≡ stored_words l.table (l.at + l.n) (corners_from l.form (3 * corner_fields - l.n) l.n l.input l.s);
}
