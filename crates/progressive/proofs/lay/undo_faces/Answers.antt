-- The new records lie within the room that was judged, the moved corners within the faces below the step.
use Rattle.std.proofs.Common.{arith}
use Rattle.progressive.proofs.Formed.{formed}
use Rattle.progressive.proofs.Laying.{corners_inside, undone_faces_lem}
use Rattle.progressive.proofs.lay.undo_faces.Goals as goal

pub clear-requires : goal.clear-requires
clear-requires c = omega (arith, c.new_face_count.ensures.0, c.requires.room)

pub write_corners-requires : goal.write_corners-requires
write_corners-requires c =
    let step = formed c.args.step.table.now c.args.step.at c.requires.formed in (
      omega (arith, step.moves, c.move_count.ensures.0),
      λ i h. omega (arith, corners_inside c.requires c.move_count.ensures.0 i h, c.clear.auto.table),
    )

pub shape_of-faces : goal.shape_of-faces
shape_of-faces c = omega (arith, c.write_corners.auto.faces, c.clear.auto.table)

pub returns : goal.returns
returns c =
    let a = c.args in
    undone_faces_lem a.step.table.now a.step.at a.faces.now a.f c.split.ensures c.move_count.ensures.0 c.new_face_count.ensures.0 c.clear.ensures c.write_corners.ensures
