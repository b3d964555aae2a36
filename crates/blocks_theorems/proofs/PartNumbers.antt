-- The refusals of a block's parts.
use Prim.Native.Nat.{ℕ, ◌+◌, ◌-◌, ◌≤◌}
use mathlib.Core.Bool.{true, not}
use mathlib.Core.List.{List, [], ◌∷◌}
use mathlib.Core.Path.{◌≡◌, refl}
use native.Mathlib.Omega.{arith}
use lib.Dec.{eqb, ltb}
use lib.ListN.{length, take}
use lib.Seq.{length-take-le}
use Rattle.fields.specs.Numbers.{truncated, over_limit, out_of_order}
use Rattle.fields.specs.Limits.{largest_file}
use Rattle.fields.specs.Judged.{Judged, on_done}
use Rattle.fields.specs.Name.{name_at, name_bounds}
use Rattle.fields.specs.declared.bounds.Bounds.{Bounds}
use Rattle.fields.specs.Member.{member}
use Rattle.blocks.specs.Kind.{chain_type}
use Rattle.blocks.specs.Head.{head_at, extent_of}
use Rattle.blocks.specs.Chain.{in_chain}
use Rattle.blocks.specs.Parts.{head_in, within, data_within, meta_within, chain_name_within, data_bounds, meta_bounds, chain_name_bounds}
use Rattle.blocks.specs.declared.head.Head.{Head}
use Rattle.blocks.proofs.Fits.{extent_fits, head_in_within}
use Rattle.blocks_theorems.specs.Refusals.{Refusing, part_numbers, chain_name_numbers}
use Rattle.blocks_theorems.proofs.Refusing.{all_in, on_done_lem, refused_if_lem, wider, in_chain_lem}
use Rattle.blocks_theorems.proofs.PartsFound.{within_found}
use Rattle.blocks_theorems.proofs.BlockNumbers.{head_refusing, name_refusing}

-- so many bytes from an offset on
within_refusing : (numbers s : List ℕ) (at size end : ℕ) → member truncated numbers ≡ true → at ≤ end → Refusing numbers end (within s at size)
unfolding within Refusing
within_refusing numbers s at size end m h = refused_if_lem numbers end (ltb (length s) (at + size)) truncated at _ m h λ _. tt

module _ (s : List ℕ) (at : ℕ) (head : Head) (starts : at + 12 ≤ length s) where
  meta_within_refusing : Refusing part_numbers (length s) (meta_within s at head)
  unfolding meta_within extent_of
  meta_within_refusing =
      let len = length s in
      let e = extent_of at head in
      let f = extent_fits at head e refl in
      on_done_lem part_numbers len (data_within s at head) _ (within_refusing part_numbers s (at + 12) head.data_size len refl starts) λ b q.
      let data-ends = (within_found s (at + 12) head.data_size b q).1 in
      let padding = e.meta_at - e.data_end in
      on_done_lem part_numbers len (within s e.data_end padding) _ (within_refusing part_numbers s e.data_end padding len refl data-ends) λ c r.
      let padding-ends = (within_found s e.data_end padding c r).1 in
      within_refusing part_numbers s e.meta_at head.meta_size len refl (omega (arith, f.data_padding, padding-ends))

  -- the name from there on within the bytes up to an end
  name_inside_refusing : (to : ℕ) → to ≤ length s → at + 12 ≤ to → Refusing chain_name_numbers (length s) (in_chain (name_bounds (take to s) (at + 12)))
  unfolding name_bounds Refusing
  name_inside_refusing to h l =
      let inner = take to s in
      let size = length-take-le to s h in
      let name = name_bounds inner (at + 12) in
      wider (7 ∷ 8 ∷ []) chain_name_numbers (length inner) (length s) (in_chain name) refl (omega (arith, size))
      (in_chain_lem (7 ∷ 8 ∷ []) (length inner) name refl
      (on_done_lem (1 ∷ 7 ∷ 8 ∷ []) (length inner) (name_at inner (at + 12)) _
      (name_refusing (1 ∷ 7 ∷ 8 ∷ []) inner refl refl (at + 12) (omega (arith, size))) λ _ _. tt))

  name_within_refusing : Refusing chain_name_numbers (length s) (chain_name_within s at head)
  unfolding chain_name_within
  name_within_refusing =
      let len = length s in
      refused_if_lem chain_name_numbers len (not (eqb head.block_type chain_type)) out_of_order at _ refl (omega (arith, starts)) λ _.
      on_done_lem chain_name_numbers len (data_within s at head) _ (within_refusing chain_name_numbers s (at + 12) head.data_size len refl starts) λ b q.
      let found = within_found s (at + 12) head.data_size b q in
      rw found.0 (name_inside_refusing (at + 12 + head.data_size) found.1 (omega arith))

module _ (s : List ℕ) (at end : ℕ) (h : at ≤ end) (l : length s ≤ end) where
  -- what is judged of the leading numbers, and then within the file
  part_refusing : (numbers : List ℕ) (next : Head → Judged Bounds) → member truncated numbers ≡ true → member over_limit numbers ≡ true → all_in numbers numbers ≡ true
      → ((head : Head) → at + 12 ≤ length s → Refusing numbers (length s) (next head)) → Refusing numbers end (on_done (head_in s at) next)
  unfolding head_in
  part_refusing numbers next m k all rest =
      on_done_lem numbers end (head_in s at) next
      (refused_if_lem numbers end (ltb largest_file (length s)) over_limit 0 (head_at s at) k (omega arith) λ _. head_refusing numbers s m end at h l) λ head e.
      wider numbers numbers (length s) end (next head) all l (rest head (head_in_within s at head e).0)

  -- A block's data and meta data are refused with 1 or 9, and no further than the block's offset and the end of the bytes.
  pub data_refusing : Refusing part_numbers end (data_bounds s at)
  unfolding data_bounds
  data_refusing =
      part_refusing part_numbers (λ head. data_within s at head) refl refl refl λ head starts.
      within_refusing part_numbers s (at + 12) head.data_size (length s) refl starts

  pub meta_refusing : Refusing part_numbers end (meta_bounds s at)
  unfolding meta_bounds
  meta_refusing = part_refusing part_numbers (λ head. meta_within s at head) refl refl refl λ head starts. meta_within_refusing s at head starts

  -- A chain's name is refused with 1, 7, 8, 9 or 11, likewise.
  pub chain_name_refusing : Refusing chain_name_numbers end (chain_name_bounds s at)
  unfolding chain_name_bounds
  chain_name_refusing =
      part_refusing chain_name_numbers (λ head. chain_name_within s at head) refl refl refl λ head starts. name_within_refusing s at head starts
