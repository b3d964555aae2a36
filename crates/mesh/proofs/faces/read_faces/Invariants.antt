use Prim.Native.Nat.{◌*◌, ◌-◌}
use mathlib.Core.List.{◌∷◌, []}
use mathlib.Core.Path.{◌≡◌}
use lib.ListN.{get_or}
use Rattle.coder.specs.Bytes.{bit_at}
use Rattle.coder.specs.Histogram.{sum}
use Rattle.coder.specs.Interval.{Inverted}
use Rattle.mesh.specs.Corners.{face_words}
use Rattle.mesh.specs.Faces.{faces_from, faces_of}
use Rattle.mesh.specs.Inside.{stored_faces}
use Rattle.mesh.proofs.faces.read_faces.Given as goal

abbrev pub invariant-loop-i : goal.invariant-loop-i
invariant-loop-i l =
    let count = get_or l.counts 0 0 in record {
      inverted : Inverted l.s (bit_at l.input);
      total : l.total ≡ sum l.histogram;
      whole : stored_faces l.fn.table 0 (faces_of l.declaration l.counts count l.input)
          ≡ stored_faces l.table (face_words * l.i) (faces_from l.declaration l.counts (count - l.i) (l.histogram ∷ []) l.input l.s);
    }
