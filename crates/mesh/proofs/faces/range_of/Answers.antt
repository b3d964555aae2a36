-- The field's own base count, or that of the texture coordinates.
use borrow.Author.Tests.{le-ltb, lt-ltb}
use Rattle.mesh.specs.Corners.{range_of}
use Rattle.mesh.proofs.faces.range_of.Goals as goal

pub returns-then-field-lt4 : goal.returns-then-field-lt4
unfolding range_of
returns-then-field-lt4 c = simp (lt-ltb _ _ c.if-field-lt4.true)

pub returns-else-field-lt4 : goal.returns-else-field-lt4
unfolding range_of
returns-else-field-lt4 c = simp (le-ltb _ _ c.if-field-lt4.false)
