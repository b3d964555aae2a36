-- Where the parts of a block stand, case by case. Assumes nothing.
use mathlib.Core.Path.{◌≡◌, ap}
use mathlib.Core.List.{List}
use Prim.Native.Nat.{ℕ, ◌+◌, ◌-◌, ◌<◌, ◌≤◌}
use native.Mathlib.Omega.{arith}
use borrow.Author.Tests.{lt-ltb, le-ltb, eq-eqb, ne_eqb}
use lib.ListN.{length, take}
use Rattle.fields.specs.Numbers.{truncated, out_of_order}
use Rattle.fields.specs.Judged.{done, refused}
use Rattle.fields.specs.Name.{name_bounds}
use Rattle.blocks.specs.Kind.{chain_type}
use Rattle.blocks.specs.Head.{head_size, extent_of}
use Rattle.blocks.specs.Chain.{in_chain}
use Rattle.blocks.specs.Parts.{within, data_within, meta_within, chain_name_within}
use Rattle.blocks.specs.declared.head.Head.{Head}
use Rattle.blocks.specs.declared.head.Extent.{Extent}
use Rattle.blocks.proofs.Fits.{extent_fits}

module _ (s : List ℕ) (at size : ℕ) where
  pub within_cut : length s < at + size → within s at size ≡ refused truncated at
  unfolding within
  within_cut h = rw (lt-ltb (length s) (at + size) h)

  pub within_whole : at + size ≤ length s → within s at size ≡ done (record { at = at; size = size })
  unfolding within
  within_whole h = rw (le-ltb (length s) (at + size) h)

-- a block that is no chain
pub name_no_chain : (s : List ℕ) (at : ℕ) (head : Head) → (head.block_type ≡ chain_type → ⊥) → chain_name_within s at head ≡ refused out_of_order at
unfolding chain_name_within
name_no_chain s at head n = rw (ne_eqb head.block_type chain_type n)

module _ (s : List ℕ) (at : ℕ) (head : Head) (e : Extent) (q : e ≡ extent_of at head) where
  data_end : e.data_end ≡ at + head_size + head.data_size
  unfolding extent_of
  data_end = ap (λ (e : Extent). e.data_end) q

  data_cut : length s < e.data_end → data_within s at head ≡ refused truncated (at + head_size)
  data_cut h = within_cut s (at + head_size) head.data_size (omega (arith, data_end))

  data_whole : e.data_end ≤ length s → data_within s at head ≡ done (record { at = at + head_size; size = head.data_size })
  data_whole h = within_whole s (at + head_size) head.data_size (omega (arith, data_end))

  pub meta_data_cut : length s < e.data_end → meta_within s at head ≡ refused truncated (at + head_size)
  unfolding meta_within
  meta_data_cut h = rw (data_cut h)

  pub meta_padding_cut : e.data_end ≤ length s → length s < e.meta_at → meta_within s at head ≡ refused truncated e.data_end
  unfolding meta_within
  meta_padding_cut h k =
      rw (data_whole h, ← q, within_cut s e.data_end (e.meta_at - e.data_end) (omega (arith, (extent_fits at head e q).data_padding)))

  pub meta_next : e.data_end ≤ length s → e.meta_at ≤ length s → meta_within s at head ≡ within s e.meta_at head.meta_size
  unfolding meta_within
  meta_next h k =
      rw (data_whole h, ← q, within_whole s e.data_end (e.meta_at - e.data_end) (omega (arith, (extent_fits at head e q).data_padding)))

  pub name_data_cut : head.block_type ≡ chain_type → length s < e.data_end → chain_name_within s at head ≡ refused truncated (at + head_size)
  unfolding chain_name_within
  name_data_cut t h = rw (eq-eqb head.block_type chain_type t, data_cut h)

  pub name_next : head.block_type ≡ chain_type → e.data_end ≤ length s
      → chain_name_within s at head ≡ in_chain (name_bounds (take e.data_end s) (at + head_size))
  unfolding chain_name_within
  name_next t h = rw (eq-eqb head.block_type chain_type t, data_whole h, data_end)
