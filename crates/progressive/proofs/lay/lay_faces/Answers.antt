-- The corners that move lie within the faces before the step, the new records within the room that was judged.
use Rattle.std.proofs.Common.{arith}
use Rattle.progressive.proofs.Formed.{formed}
use Rattle.progressive.proofs.Laying.{corners_inside, laid_faces_lem}
use Rattle.progressive.proofs.lay.lay_faces.Goals as goal

pub overflow_cast-r : goal.overflow_cast-r
overflow_cast-r c = omega (arith, c.requires.few)

pub write_corners-requires : goal.write_corners-requires
write_corners-requires c =
    let step = formed c.args.step.table.now c.args.step.at c.requires.formed in
    (omega (arith, step.moves, c.move_count.ensures.0), corners_inside c.requires c.move_count.ensures.0)

pub write_records-requires : goal.write_records-requires
write_records-requires c =
    let step = formed c.args.step.table.now c.args.step.at c.requires.formed in
    omega (arith, step.body, c.new_face_count.ensures.0, c.requires.room, c.write_corners.auto.faces)

pub shape_of-faces : goal.shape_of-faces
shape_of-faces c = omega (arith, c.write_records.auto.faces, c.write_corners.auto.faces)

pub returns : goal.returns
returns c =
    let a = c.args in
    laid_faces_lem a.step.table.now a.step.at a.faces.now a.f a.r c.move_count.ensures.0 c.new_face_count.ensures.0 c.write_corners.ensures c.write_records.ensures
