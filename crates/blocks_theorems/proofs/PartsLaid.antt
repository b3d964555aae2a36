-- What was read is laid out so: the converse of PartsBack, for bytes below 256.
use Prim.Native.Nat.{ℕ, zero, suc, ◌+◌, ◌-◌, ◌*◌, ◌/◌, ◌%◌, ◌^◌, ◌≤◌, ◌<◌}
use mathlib.Core.List.{List, [], ◌∷◌, ◌++◌, append_assoc, append-nil}
use mathlib.Core.Path.{◌≡◌, ap, sym, ◌∙◌}
use native.Mathlib.Nat.{pow-succ', add-zero}
use native.Mathlib.Omega.{arith}
use borrow.Author.Tests.{eqb-true, ltb-false}
use lib.Dec.{eqb, ltb}
use lib.ListN.{drop, get_or, length, length-drop, replicate, take, take-append-drop}
use lib.Seq.{drop-cons, drop-drop, length-take-le}
use Rattle.fields.specs.Numbers.{truncated, bad_padding}
use Rattle.fields.specs.Judged.{done}
use Rattle.fields.specs.Field.{field_at, little_endian}
use Rattle.fields.proofs.Judging.{passed, same_done, value_before}
use Rattle.blocks.specs.Padding.{zeros_of}
use Rattle.blocks.specs.Head.{head_at, extent_of, paddings_of}
use Rattle.blocks.specs.declared.head.Head.{Head}
use Rattle.blocks.proofs.Fits.{chosen}
use Rattle.fields_theorems.specs.Encoding.{Bytes, number_bytes, word_bytes}
use Rattle.blocks_theorems.specs.RowParts.{padding}
use Rattle.blocks_theorems.specs.Layout.{with_padding, block_bytes}

-- so many from an offset, and those after them
pub part_laid : (s : List ℕ) (at n : ℕ) → drop at s ≡ take n (drop at s) ++ drop (at + n) s
part_laid s at n = sym (take-append-drop n (drop at s)) ∙ ap (λ (l : List ℕ). take n (drop at s) ++ l) (drop-drop n at s)

pub part_length : (s : List ℕ) (at n : ℕ) → at + n ≤ length s → length (take n (drop at s)) ≡ n
part_length s at n h = length-take-le n (drop at s) (omega (arith, length-drop at s))

-- a number is its bytes, and fits them
pub number_laid : (k : ℕ) (s : List ℕ) (at : ℕ) → Bytes s → at + k ≤ length s
    → (drop at s ≡ number_bytes k (little_endian k s at) ++ drop (at + k) s) × (little_endian k s at < 256 ^ k)
unfolding little_endian number_bytes
number_laid zero s at b h = (rw (add-zero at), omega arith)
number_laid (suc k) s at b h =
    let low = b at in
    let more = number_laid k s (suc at) b (omega arith) in
    let v = get_or s at 0 + 256 * little_endian k s (suc at) in
    let first : v % 256 ≡ get_or s at 0 = omega arith in
    let second : v / 256 ≡ little_endian k s (suc at) = omega arith in
    let end : suc at + k ≡ at + suc k = omega arith in (
      drop-cons s at 0 (omega arith) ∙ rw (first, second) (ap (λ (l : List ℕ). get_or s at 0 ∷ l) (more.0 ∙ rw end)),
      rw (pow-succ' 256 k) (omega (arith, more.1)),
    )

-- so is a field
pub field_laid : (k : ℕ) (s : List ℕ) (at v : ℕ) → Bytes s → field_at k s at ≡ done v → (drop at s ≡ number_bytes k v ++ drop (at + k) s) × (v < 256 ^ k)
unfolding field_at
field_laid k s at v b e =
    let q = passed (ltb (length s) (at + k)) truncated at _ v e in
    rw (← same_done q.1) (number_laid k s at b (ltb-false (length s) (at + k) q.0))

-- zeros that were passed
zeros_laid : (k : ℕ) (s : List ℕ) (at : ℕ) (u : Unit {0}) → at + k ≤ length s → zeros_of k s at ≡ done u → drop at s ≡ replicate k 0 ++ drop (at + k) s
unfolding zeros_of
zeros_laid zero s at u h e = rw (add-zero at)
zeros_laid (suc k) s at u h e =
    let q = chosen (eqb (get_or s at 0) 0) (zeros_of k s (suc at)) bad_padding at u e in
    let end : suc at + k ≡ at + suc k = omega arith in
    drop-cons s at 0 (omega arith) ∙ rw (eqb-true (get_or s at 0) 0 q.0)
    (ap (λ (l : List ℕ). 0 ∷ l) (zeros_laid k s (suc at) u (omega arith) q.1 ∙ rw end))

-- the same from one offset to another
pub padding-laid : (s : List ℕ) (from to k : ℕ) (u : Unit {0}) → to ≤ length s → from + k ≡ to → zeros_of (to - from) s from ≡ done u
    → drop from s ≡ replicate k 0 ++ drop to s
padding-laid s from to k u h e z =
    let gap : to - from ≡ k = omega arith in
    rw (← e) (zeros_laid k s from u (omega arith) (rw gap at z))

-- two parts, one after the other
pub both_laid : (s p q rest more : List ℕ) → s ≡ p ++ rest → rest ≡ q ++ more → s ≡ (p ++ q) ++ more
both_laid s p q rest more e f = e ∙ ap (λ (l : List ℕ). p ++ l) f ∙ sym (append_assoc p q more)

-- ---- a block

-- the data and the meta data of a block at an offset
abbrev pub data_in : List ℕ → ℕ → Head → List ℕ
data_in s at head = take head.data_size (drop (at + 12) s)

abbrev pub meta_in : List ℕ → ℕ → Head → List ℕ
meta_in s at head = take head.meta_size (drop (extent_of at head).meta_at s)

-- a block that was read is laid out
pub record BlockLaid (s : List ℕ) (at : ℕ) (head : Head) : Type 0 where
  pub data_length : length (data_in s at head) ≡ head.data_size
  pub meta_length : length (meta_in s at head) ≡ head.meta_size
  pub here : drop at s ≡ block_bytes head.block_type (data_in s at head) (meta_in s at head) ++ drop (extent_of at head).next s

-- its three numbers
head_laid : (s : List ℕ) (at : ℕ) (head : Head) → Bytes s → head_at s at ≡ done head
    → drop at s ≡ word_bytes (head.block_type ∷ head.data_size ∷ head.meta_size ∷ []) ++ drop (at + 12) s
unfolding head_at word_bytes
head_laid s at head b e =
    let first = value_before (field_at 4 s at) _ head e in
    let second = value_before (field_at 4 s (at + 4)) _ head first.2 in
    let third = value_before (field_at 4 s (at + 8)) _ head second.2 in
    let e₂ : at + 4 + 4 ≡ at + 8 = omega arith in
    let e₃ : at + 8 + 4 ≡ at + 12 = omega arith in
    let one = (field_laid 4 s at first.0 b first.1).0 in
    let two = rw e₂ at (field_laid 4 s (at + 4) second.0 b second.1).0 in
    let three = rw e₃ at (field_laid 4 s (at + 8) third.0 b third.1).0 in
    rw (← same_done third.2, append-nil (number_bytes 4 third.0))
    (both_laid (drop at s) (number_bytes 4 first.0) (number_bytes 4 second.0 ++ number_bytes 4 third.0) (drop (at + 4) s) (drop (at + 12) s) one
    (both_laid (drop (at + 4) s) (number_bytes 4 second.0) (number_bytes 4 third.0) (drop (at + 8) s) (drop (at + 12) s) two three))

pub block_laid : (s : List ℕ) (at : ℕ) (head : Head) (u : Unit {0}) → Bytes s → head_at s at ≡ done head → (extent_of at head).next ≤ length s
    → paddings_of s (extent_of at head) ≡ done u → BlockLaid s at head
unfolding paddings_of extent_of with_padding block_bytes
block_laid s at head u b e room zeros =
    let extent = extent_of at head in
    let content = data_in s at head in
    let meta = meta_in s at head in
    let content-length = part_length s (at + 12) head.data_size (omega arith) in
    let meta_length = part_length s extent.meta_at head.meta_size (omega arith) in
    let first = value_before (zeros_of (extent.meta_at - extent.data_end) s extent.data_end) _ u zeros in
    let words = word_bytes (head.block_type ∷ length content ∷ length meta ∷ []) in
    let zeros₁ : List ℕ = replicate (padding (length content)) 0 in
    let zeros₂ : List ℕ = replicate (padding (length meta)) 0 in
    let numbers : drop at s ≡ words ++ drop (at + 12) s = rw (content-length, meta_length) (head_laid s at head b e) in
    let two = padding-laid s extent.data_end extent.meta_at (padding (length content)) first.0 (omega arith) (omega arith) first.1 in
    let four = padding-laid s extent.meta_end extent.next (padding (length meta)) u room (omega arith) first.2 in
    let data_laid = both_laid (drop (at + 12) s) content zeros₁ (drop extent.data_end s) (drop extent.meta_at s)
    (part_laid s (at + 12) head.data_size) two in
    let meta-laid = both_laid (drop extent.meta_at s) meta zeros₂ (drop extent.meta_end s) (drop extent.next s)
    (part_laid s extent.meta_at head.meta_size) four in
    let parts = both_laid (drop (at + 12) s) (content ++ zeros₁) (meta ++ zeros₂) (drop extent.meta_at s) (drop extent.next s) data_laid meta-laid in
    record {
      data_length = content-length;
      meta_length = meta_length;
      here = both_laid (drop at s) words ((content ++ zeros₁) ++ (meta ++ zeros₂)) (drop (at + 12) s) (drop extent.next s) numbers parts;
    }
