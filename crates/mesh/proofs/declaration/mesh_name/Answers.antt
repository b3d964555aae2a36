-- A name is asked for only in data within its limit.
use borrow.Author.Tests.{le-ltb, lt-ltb}
use Rattle.mesh.specs.Declaration.{mesh_name}
use Rattle.mesh.proofs.declaration.mesh_name.Goals as goal

pub returns-then-s-gt-LARGEST_FILE : goal.returns-then-s-gt-LARGEST_FILE
unfolding mesh_name
returns-then-s-gt-LARGEST_FILE c = simp (lt-ltb _ _ c.if-s-gt-LARGEST_FILE.true)

pub returns : goal.returns
unfolding mesh_name
returns c = simp (le-ltb _ _ c.if-s-gt-LARGEST_FILE.false) c.name_part.ensures
