-- The result's length, and then the mesh, decide.
use mathlib.Core.Path.{sym}
use Rattle.mesh.specs.Base.{tables}
use Rattle.oysterfold.proofs.Answers.{read_told, refused_told, short_told}
use Rattle.oysterfold.proofs.meshes.oysterfold_read_mesh.Goals as goal

pub returns-then-res-lt-RESULT_WORDS : goal.returns-then-res-lt-RESULT_WORDS
returns-then-res-lt-RESULT_WORDS c =
    let a = c.args in
    let both = short_told a.declaration.now a.continuation.now (tables a.faces.now a.positions.now a.normals.now a.diffuse.now a.specular.now a.texture.now) a.res.now c.if-res-lt-RESULT_WORDS.true in record { value = both.0; texture_after = both.1.0; res_after = both.1.1 }

pub returns-in-Ok : goal.returns-in-Ok
returns-in-Ok c =
    let a = c.args in
    let both = read_told a.declaration.now a.continuation.now (tables a.faces.now a.positions.now a.normals.now a.diffuse.now a.specular.now a.texture.now) a.res.now c.if-res-lt-RESULT_WORDS.false _ c.read_mesh.ensures.left _ _ c.put_words.ensures
    _ (sym c.in-Ok.ensures.result_value) c.words_of.ensures in record { value = both.0; texture_after = both.1.0; res_after = both.1.1 }

pub returns-in-Err : goal.returns-in-Err
returns-in-Err c =
    let a = c.args in
    let both = refused_told a.declaration.now a.continuation.now (tables a.faces.now a.positions.now a.normals.now a.diffuse.now a.specular.now a.texture.now) a.res.now c.if-res-lt-RESULT_WORDS.false _ c.read_mesh.ensures.left _ _ c.put_words-in-Err.ensures
    _ _ _ (sym c.in-Err.ensures.result_value) (rw c.no_counts.ensures at c.words_of-in-Err.ensures) in record { value = rw c.from.ensures both.0; texture_after = both.1.0; res_after = both.1.1 }
