-- A test for each field.
use Prim.Native.Nat.{◌-◌}
use native.Mathlib.Omega.{arith}
use Rattle.mesh.specs.Corners.{present}
use Rattle.mesh.proofs.Presence.{layer_present}
use Rattle.mesh.proofs.faces.is_present.Goals as goal

pub returns-in-0 : goal.returns-in-0
unfolding present
returns-in-0 c = rw c.in-0.is

pub returns-in-1 : goal.returns-in-1
unfolding present
returns-in-1 c = rw c.in-1.is

pub returns-in-2 : goal.returns-in-2
unfolding present
returns-in-2 c = rw c.in-2.is

pub returns-in-3 : goal.returns-in-3
unfolding present
returns-in-3 c = rw c.in-3.is

pub returns-in_default : goal.returns-in_default
returns-in_default c = layer_present c.args.form c.args.field (c.args.field - 4) (omega (arith, c.in_default))
