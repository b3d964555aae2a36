-- Bounds that are found lie within the file, so that the part handed out has just as many bytes as they say.
use Prim.Native.Nat.{ℕ, ◌+◌, ◌-◌, ◌≤◌}
use mathlib.Core.Bool.{not}
use mathlib.Core.List.{List}
use mathlib.Core.Path.{◌≡◌, ap, sym, ◌∙◌}
use native.Mathlib.Omega.{arith}
use borrow.Author.Tests.{le-ltb, ltb-false}
use lib.Dec.{eqb, ltb}
use lib.ListN.{drop, length, length-drop, take}
use lib.Seq.{length-take-le}
use Rattle.fields.specs.Numbers.{truncated, out_of_order}
use Rattle.fields.specs.Judged.{done}
use Rattle.fields.specs.Field.{bytes_at}
use Rattle.fields.specs.Bounds.{part_of}
use Rattle.fields.specs.Name.{name_at, name_bounds}
use Rattle.fields.specs.declared.bounds.Bounds.{Bounds}
use Rattle.fields.proofs.Judging.{name_within, passed, same_done, value_before}
use Rattle.blocks.specs.Kind.{chain_type}
use Rattle.blocks.specs.Head.{extent_of}
use Rattle.blocks.specs.Parts.{head_in, within, data_within, meta_within, chain_name_within, data_bounds, meta_bounds, chain_name_bounds}
use Rattle.blocks.proofs.Fits.{in_chain_done}

-- so many bytes of a list that has them
module _ (s : List ℕ) (at size : ℕ) (h : at + size ≤ length s) where
  pub bytes_taken : bytes_at s at size ≡ take size (drop at s)
  unfolding bytes_at
  bytes_taken = rw (le-ltb (length s) (at + size) h)

  pub bytes_length : length (take size (drop at s)) ≡ size
  bytes_length = length-take-le size (drop at s) (omega (arith, length-drop at s))

-- bounds that were found
pub within_found : (s : List ℕ) (at size : ℕ) (b : Bounds) → within s at size ≡ done b
    → (b ≡ record { at = at; size = size }) × (at + size ≤ length s)
unfolding within
within_found s at size b e =
    let q = passed (ltb (length s) (at + size)) truncated at _ b e in
    (sym (same_done q.1), ltb-false (length s) (at + size) q.0)

within_inside : (s : List ℕ) (at size : ℕ) (b : Bounds) → within s at size ≡ done b → b.at + b.size ≤ length s
within_inside s at size b e = let q = within_found s at size b e in rw q.0 q.1

-- a name within the bytes up to an end
name_inside : (s : List ℕ) (to at : ℕ) (b : Bounds) → to ≤ length s → name_bounds (take to s) at ≡ done b → b.at + b.size ≤ length s
unfolding name_bounds
name_inside s to at b h e =
    let q = value_before (name_at (take to s) at) _ b e in
    let whole = (name_within (take to s) at q.0 q.1).0 in
    let size = length-take-le to s h in
    rw (← same_done q.2) (omega (arith, whole, size))

module _ (s : List ℕ) (at : ℕ) (b : Bounds) where
  -- The data found at an offset lie within the file.
  pub data_inside : data_bounds s at ≡ done b → b.at + b.size ≤ length s
  unfolding data_bounds
  data_inside e =
      let head = value_before (head_in s at) _ b e in
      within_inside s (at + 12) head.0.data_size b head.2

  -- So do the meta data,
  pub meta_inside : meta_bounds s at ≡ done b → b.at + b.size ≤ length s
  unfolding meta_bounds meta_within
  meta_inside e =
      let head = value_before (head_in s at) _ b e in
      let extent = extent_of at head.0 in
      let content = value_before (data_within s at head.0) _ b head.2 in
      let padding = value_before (within s extent.data_end (extent.meta_at - extent.data_end)) _ b content.2 in
      within_inside s extent.meta_at head.0.meta_size b padding.2

  -- and a chain's name.
  pub chain_name_inside : chain_name_bounds s at ≡ done b → b.at + b.size ≤ length s
  unfolding chain_name_bounds chain_name_within
  chain_name_inside e =
      let head = value_before (head_in s at) _ b e in
      let chain = passed (not (eqb head.0.block_type chain_type)) out_of_order at _ b head.2 in
      let content = value_before (data_within s at head.0) _ b chain.1 in
      let ends = within_inside s (at + 12) head.0.data_size content.0 content.1 in
      name_inside s (content.0.at + content.0.size) content.0.at b ends (in_chain_done _ b content.2)

-- A part whose bounds lie within the file has as many bytes as they say.
pub part_length : (s : List ℕ) (b : Bounds) → b.at + b.size ≤ length s → length (part_of s (done b)) ≡ b.size
part_length s b h = ap length (bytes_taken s b.at b.size h) ∙ bytes_length s b.at b.size h
