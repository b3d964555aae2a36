-- Each test decides in turn, and then the bounds of the data.
use mathlib.Core.Path.{sym, ◌∙◌}
use borrow.Author.Tests.{lt-ltb, le-ltb}
use Rattle.rows.specs.Rows.{declared_for}
use Rattle.rows.proofs.declaration_of.Goals as goal

pub returns-then-file-gt-LARGEST_FILE : goal.returns-then-file-gt-LARGEST_FILE
unfolding declared_for
returns-then-file-gt-LARGEST_FILE c = rw (lt-ltb _ _ c.if-file-gt-LARGEST_FILE.true)

pub returns-then-table-row : goal.returns-then-table-row
unfolding declared_for
returns-then-table-row c = rw (le-ltb _ _ c.if-file-gt-LARGEST_FILE.false, le-ltb _ _ c.if-table-row.true)

pub returns-then-not-is_base_mesh : goal.returns-then-not-is_base_mesh
unfolding declared_for
returns-then-not-is_base_mesh c = rw (le-ltb _ _ c.if-file-gt-LARGEST_FILE.false, lt-ltb _ _ c.if-table-row.false, sym c.is_base_mesh.ensures ∙ c.if-not-is_base_mesh.true)

pub returns-in-Err : goal.returns-in-Err
unfolding declared_for
returns-in-Err c = rw (le-ltb _ _ c.if-file-gt-LARGEST_FILE.false, lt-ltb _ _ c.if-table-row.false, sym c.is_base_mesh.ensures ∙ c.if-not-is_base_mesh.false, ← c.offset_in.ensures, ← c.in-Err.ensures)

pub returns-in-Ok : goal.returns-in-Ok
unfolding declared_for
returns-in-Ok c = rw (le-ltb _ _ c.if-file-gt-LARGEST_FILE.false, lt-ltb _ _ c.if-table-row.false, sym c.is_base_mesh.ensures ∙ c.if-not-is_base_mesh.false, ← c.offset_in.ensures, ← c.in-Ok.ensures, ← c.bytes_at.ensures) c.declaration_named.ensures
