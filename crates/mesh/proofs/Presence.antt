-- Which fields a corner has, by the number of the field.
use Prim.Native.Nat.{ℕ, suc}
use mathlib.Core.Path.{◌≡◌}
use lib.Dec.{ltb}
use Rattle.mesh.specs.Corners.{present}
use Rattle.mesh.specs.declared.faces.CornerForm.{CornerForm}

pub layer_present : (form : CornerForm) (field layer : ℕ) → field ≡ suc (suc (suc (suc layer))) → ltb layer form.layer_count ≡ present form field
unfolding present
layer_present form field layer e = rw e
