use Rattle.std.proofs.Common.{◌*◌}
use Rattle.mesh.specs.Corners.{face_words}
use Rattle.progressive.specs.Indexed.{from}
use Rattle.progressive.specs.Laying.{new_face_number}
use Rattle.progressive.proofs.Indexed.{Written}
use Rattle.progressive.proofs.lay.write_records.Given as goal

abbrev pub invariant-loop-j : goal.invariant-loop-j
invariant-loop-j l = Written (from l.at) (new_face_number l.step.table.now l.step.at) l.initial.faces l.faces (face_words * l.j)
