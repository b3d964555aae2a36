-- The invariant: the records of the first faces are written, and the rest of the table is as it was.
use Rattle.std.proofs.Common.{◌*◌, arith}
use Rattle.mesh.specs.Corners.{face_words}
use Rattle.progressive.proofs.Indexed.{written_done, written_none}
use Rattle.progressive.proofs.Laying.{records_written}
use Rattle.progressive.proofs.lay.write_records.Goals as goal

pub loop-j-init : goal.loop-j-init
loop-j-init c = written_none

pub write_record-requires : goal.write_record-requires
write_record-requires c = omega (arith, c.loop-j.invariant.long, c.new_face_at-first.ensures, c.requires.0, c.requires.1)

pub loop-j-preserved : goal.loop-j-preserved
loop-j-preserved c =
    let a = c.args in
    records_written a.step.table.now a.step.at a.at c.loop-j.j c.loop-j.invariant c.new_face_at-first.ensures c.write_record.ensures

pub shape_of-faces : goal.shape_of-faces
shape_of-faces c = c.loop-j.invariant.long

pub returns : goal.returns
returns c = written_done c.loop-j.invariant {n = face_words * c.args.count} (omega arith) (omega arith)
