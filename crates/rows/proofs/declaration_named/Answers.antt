-- The base mesh's own name is judged first.
use mathlib.Core.Path.{sym}
use Rattle.rows.proofs.Below.{name_place}
use Rattle.rows.specs.Rows.{declared_of}
use Rattle.rows.proofs.declaration_named.Goals as goal

pub returns-in-Err : goal.returns-in-Err
unfolding declared_of
returns-in-Err c = let place = name_place _ 0 _ _ (sym c.in-Err.ensures) in rw (← c.in-Err.ensures, place)

pub returns-in-Ok : goal.returns-in-Ok
unfolding declared_of
returns-in-Ok c = rw (← c.in-Ok.ensures, ← c.mesh_name.ensures) c.declaration_before.ensures
