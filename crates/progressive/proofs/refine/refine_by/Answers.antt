-- A step that is granted has room for what it writes, and the writes make the mesh.
use Rattle.std.proofs.Common.{length, sym, arith}
use Rattle.progressive.specs.Mesh.{mesh_of}
use Rattle.progressive.proofs.Judgements.{Writable, grants, laid_mesh, refinable}
use Rattle.progressive.proofs.refine.refine_by.Goals as goal
use Rattle.progressive.proofs.refine.refine_by.Goals.{In_ok-judge_refining}

-- past the judgement the step was granted
writable-of : (c : In_ok-judge_refining) → (let a = c.args in Writable a.step.table.now a.step.at (length a.faces.now) (length a.positions.now) a.present a.target)
writable-of c =
    let a = c.args in
    refinable a.step.table.now a.step.at a.shadings a.faces.now a.positions.now a.present a.target c.requires (sym c.in_ok-judge_refining.ensures)

pub lay_faces-requires : goal.lay_faces-requires
lay_faces-requires c = (writable-of (goal.at.lay_faces-requires c).In_ok-judge_refining).faces

pub write_coordinates-requires : goal.write_coordinates-requires
write_coordinates-requires c = omega (arith, (writable-of (goal.at.write_coordinates-requires c).In_ok-judge_refining).fit, c.requires.positions)

pub returns : goal.returns
returns c =
    let a = c.args in
    grants (mesh_of a.faces.now a.positions.now a.present) (sym c.in_ok-judge_refining.ensures)
    (laid_mesh a.step.table.now a.step.at a.shadings a.faces.now a.positions.now a.present a.target c.requires c.lay_faces.ensures c.write_coordinates.ensures)
