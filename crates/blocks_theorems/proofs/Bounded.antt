-- The bounds of the parts of a block that lies within the file.
use Prim.Native.Nat.{ℕ, ◌+◌, ◌≤◌}
use mathlib.Core.List.{List}
use mathlib.Core.Path.{◌≡◌, refl, ◌∙◌}
use native.Mathlib.Omega.{arith}
use lib.ListN.{length}
use Rattle.fields.specs.Judged.{done}
use Rattle.blocks.specs.Head.{extent_of}
use Rattle.blocks.specs.Parts.{head_in, data_bounds, meta_bounds}
use Rattle.blocks.specs.declared.head.Head.{Head}
use Rattle.blocks.proofs.Fits.{extent_fits}
use Rattle.blocks.proofs.Within.{meta_next, within_whole}

module _ (s : List ℕ) (at : ℕ) (head : Head) (there : head_in s at ≡ done head) where
  pub data_bounded : at + 12 + head.data_size ≤ length s → data_bounds s at ≡ done (record { at = at + 12; size = head.data_size })
  unfolding data_bounds
  data_bounded room = rw there (within_whole s (at + 12) head.data_size room)

  pub meta_bounded : (extent_of at head).meta_at + head.meta_size ≤ length s
      → meta_bounds s at ≡ done (record { at = (extent_of at head).meta_at; size = head.meta_size })
  unfolding meta_bounds
  meta_bounded room =
      let e = extent_of at head in
      let whole : e.data_end ≤ length s = omega (arith, room, (extent_fits at head e refl).data_padding) in
      rw there (meta_next s at head e refl whole (omega (arith, room)) ∙ within_whole s e.meta_at head.meta_size room)
