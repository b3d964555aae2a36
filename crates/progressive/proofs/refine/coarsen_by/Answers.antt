-- A step that is granted has room for what it writes, and the writes make the mesh.
use Rattle.std.proofs.Common.{length, sym, arith}
use Rattle.progressive.specs.Mesh.{mesh_of}
use Rattle.progressive.proofs.Judgements.{Writable, coarsenable, grants, undone_mesh}
use Rattle.progressive.proofs.refine.coarsen_by.Goals as goal
use Rattle.progressive.proofs.refine.coarsen_by.Goals.{In_ok-judge_coarsening}

-- past the judgement the step was granted
writable-of : (c : In_ok-judge_coarsening) → (let a = c.args in Writable a.step.table.now a.step.at (length a.faces.now) (length a.positions.now) a.target a.present)
writable-of c =
    let a = c.args in
    coarsenable a.step.table.now a.step.at a.shadings a.faces.now a.positions.now a.present a.target c.requires (sym c.in_ok-judge_coarsening.ensures)

pub undo_faces-requires : goal.undo_faces-requires
undo_faces-requires c = (writable-of (goal.at.undo_faces-requires c).In_ok-judge_coarsening).faces

pub clear-requires : goal.clear-requires
clear-requires c = omega (arith, (writable-of (goal.at.clear-requires c).In_ok-judge_coarsening).fit, c.requires.positions)

pub returns : goal.returns
returns c =
    let a = c.args in
    grants (mesh_of a.faces.now a.positions.now a.present) (sym c.in_ok-judge_coarsening.ensures)
    (undone_mesh a.step.table.now a.step.at a.shadings a.faces.now a.positions.now a.present a.target c.undo_faces.ensures c.clear.ensures)
