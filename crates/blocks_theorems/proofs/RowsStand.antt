-- The rows of a walk stand in the file, also those of a file that is refused later on.
use Prim.Native.Nat.{ℕ, zero, suc, ◌+◌, ◌-◌, ◌≤◌}
use mathlib.Core.Bool.{Bool, true, false}
use mathlib.Core.List.{List, [], ◌∷◌, ◌++◌}
use mathlib.Core.Path.{◌≡◌, refl, ap, sym, ◌∙◌}
use native.Mathlib.Omega.{arith}
use lib.Dec.{eqb, ltb}
use lib.ListN.{length, take}
use lib.Seq.{get_or-take, length-take-le}
use Rattle.fields.specs.Numbers.{truncated, bad_chain}
use Rattle.fields.specs.Judged.{Judged, done, refused, pick}
use Rattle.fields.specs.Field.{field_at, little_endian}
use Rattle.fields.proofs.Judging.{value_before, passed, same_done}
use Rattle.blocks.specs.Kind.{is_chain, is_continuation}
use Rattle.blocks.specs.Head.{head_at, extent_of, paddings_of}
use Rattle.blocks.specs.Header.{first_of}
use Rattle.blocks.specs.Block.{levels, block_at}
use Rattle.blocks.specs.Walk.{Outcome, tells, ends, joined, and_then, on_judged, row_of, file_ends, blocks_of, inside_of, walk_of, in_chain_outcome}
use Rattle.blocks.specs.File.{after_first, file_of}
use Rattle.blocks.specs.declared.head.Head.{Head}
use Rattle.blocks.specs.declared.header.First.{First}
use Rattle.blocks.specs.declared.block.Block.{Block}
use Rattle.blocks.specs.declared.tell.Row.{Row}
use Rattle.blocks.proofs.Fits.{BlockFits, block_fits, extent_fits, room_within}
use Rattle.blocks.proofs.Files.{first_judged}
use Rattle.blocks_theorems.specs.RowParts.{Stands, Each}
use Rattle.blocks_theorems.proofs.Next.{next_of}
use Rattle.blocks_theorems.proofs.Found.{block_found}

-- ---- leading numbers

-- a field that was read is its number
pub field_number : (width : ℕ) (s : List ℕ) (at v : ℕ) → field_at width s at ≡ done v → little_endian width s at ≡ v
unfolding field_at
field_number width s at v e = let q = passed (ltb (length s) (at + width)) truncated at _ v e in let same : little_endian width s at ≡ v = cc in same

-- a block's row stands where its leading numbers do, if its parts are within the bytes
pub head_stands : (s : List ℕ) (at depth : ℕ) (head : Head) → head_at s at ≡ done head → (extent_of at head).meta_end ≤ length s → Stands s (row_of at head depth)
unfolding head_at extent_of
head_stands s at depth head e h =
    let first = value_before (field_at 4 s at) _ head e in
    let second = value_before (field_at 4 s (at + 4)) _ head first.2 in
    let third = value_before (field_at 4 s (at + 8)) _ head second.2 in
    let same = same_done third.2 in
    record {
      block_type = field_number 4 s at first.0 first.1 ∙ ap (λ (h : Head). h.block_type) same;
      data_size = field_number 4 s (at + 4) second.0 second.1 ∙ ap (λ (h : Head). h.data_size) same;
      meta_size = field_number 4 s (at + 8) third.0 third.1 ∙ ap (λ (h : Head). h.meta_size) same;
      ends = omega arith;
    }

-- the row of a block that was found
block_stands : (s : List ℕ) (at remaining depth : ℕ) (continued : Bool) (b : Block) → block_at s at remaining continued ≡ done b
    → Stands s (row_of at b.head depth)
block_stands s at remaining depth continued b e =
    let found = block_found s at remaining continued b e in
    let f = block_fits s at remaining continued b e in
    head_stands s at depth b.head found.head (rw found.extent (omega (arith, f.meta_padding, f.ends)))

-- ---- rows of a part of the bytes

number_taken : (k : ℕ) (s : List ℕ) (n at : ℕ) → at + k ≤ n → little_endian k (take n s) at ≡ little_endian k s at
unfolding little_endian
number_taken zero s n at h = refl
number_taken (suc k) s n at h = rw (get_or-take n s at 0 (omega arith), number_taken k s n (suc at) (omega arith))

stands_taken : (n : ℕ) (s : List ℕ) (row : Row) → n ≤ length s → Stands (take n s) row → Stands s row
stands_taken n s row l h =
    let size = length-take-le n s l in
    let room : row.offset + 12 ≤ n = omega (arith, h.ends) in
    record {
      block_type = sym (number_taken 4 s n row.offset (omega arith)) ∙ h.block_type;
      data_size = sym (number_taken 4 s n (row.offset + 4) (omega arith)) ∙ h.data_size;
      meta_size = sym (number_taken 4 s n (row.offset + 8) (omega arith)) ∙ h.meta_size;
      ends = omega (arith, h.ends);
    }

-- ---- rows of a walk

pub each_map : {p q : Row → Type 0} (rows : List Row) → ((row : Row) → p row → q row) → Each p rows → Each q rows
unfolding Each
each_map [] f h = tt
each_map (row ∷ rows) f h = (f row h.0, each_map rows f h.1)

module _ (p : Row → Type 0) where
  each_append : (rows others : List Row) → Each p rows → Each p others → Each p (rows ++ others)
  unfolding Each
  each_append [] others h k = k
  each_append (row ∷ rows) others h k = (h.0, each_append rows others h.1 k)

  -- the rows of two parts of a walk, whether or not the second is reached
  each_then : (first second : Outcome) → Each p first.rows → Each p second.rows → Each p (and_then first second).rows
  unfolding and_then
  each_then first second h k = by first.ending
    where
      by : (j : Judged (Unit {0})) → Each p (joined j first.rows second).rows
      by (done u) = each_append first.rows second.rows h k
      by (refused n m) = h

abbrev Inside : (List ℕ → Block → Outcome) → ℕ → Type 0
Inside inside remaining = (s : List ℕ) (at : ℕ) (b : Block) → BlockFits (length s) at remaining b → Each (Stands s) (inside s b).rows

module _ (inside : List ℕ → Block → Outcome) (remaining : ℕ) (within : Inside inside remaining) where
  blocks_stand : (count : ℕ) (s : List ℕ) (at : ℕ) (continued : Bool) → Each (Stands s) (blocks_of inside remaining count s at continued).rows
  unfolding blocks_of Each
  blocks_stand zero s at continued = by (eqb at (length s))
    where
      by : (t : Bool) → Each (Stands s) (pick t (tells []) (ends (refused bad_chain at))).rows
      by true = tt
      by false = tt
  blocks_stand (suc count) s at continued =
      by (file_ends at (length s) remaining) (block_at s at remaining continued) λ b e.
      each_then (Stands s) (tells (row_of at b.head (levels - remaining) ∷ [])) _ (block_stands s at remaining (levels - remaining) continued b e, tt)
      (each_then (Stands s) (inside s b) _ (within s at b (block_fits s at remaining continued b e))
      (each_then (Stands s) (ends (paddings_of s b.extent)) _ tt (blocks_stand count s b.extent.next (is_continuation b.kind))))
    where
      by : (t : Bool) (j : Judged Block) → ((b : Block) → j ≡ done b → Each (Stands s) (next_of inside remaining count s at b).rows)
          → Each (Stands s) (pick t (tells []) (on_judged j (next_of inside remaining count s at))).rows
      by true j h = tt
      by false (done b) h = h b refl
      by false (refused n p) h = tt

inside_stand : (remaining : ℕ) → Inside (inside_of remaining) remaining
unfolding inside_of Each
inside_stand zero s at b f = tt
inside_stand (suc remaining) s at b f =
    let end = b.extent.data_end in
    let walked = walk_of remaining b.contents.count (take end s) b.contents.at false in
    let stand = blocks_stand (inside_of remaining) remaining (inside_stand remaining) b.contents.count (take end s) b.contents.at false in
    let whole : end ≤ length s = omega (arith, f.data_padding, f.meta_data, f.meta_padding, f.ends) in
    by (is_chain b.kind) walked (each_map walked.rows (λ row h. stands_taken end s row whole h) stand)
  where
    by : (t : Bool) (o : Outcome) → Each (Stands s) o.rows → Each (Stands s) (pick t (in_chain_outcome o) (tells [])).rows
    by true o h = h
    by false o h = tt

-- ---- rows of a file

pub first_stands : (s : List ℕ) (first : First) → first_of s ≡ done first → Stands s (row_of 0 first.head 0)
first_stands s first e =
    let j = first_judged s first e in
    let w = room_within (length s) 0 (extent_of 0 first.head) tt j.room in
    let f = extent_fits 0 first.head (extent_of 0 first.head) refl in
    head_stands s 0 0 first.head j.head_read (omega (arith, f.meta_padding, w.2))

-- Every row told of a file stands in the file.
pub rows_stand : (s : List ℕ) → Each (Stands s) (file_of s).rows
unfolding file_of after_first Each
rows_stand s = by (first_of s) refl
  where
    by : (j : Judged First) → first_of s ≡ j → Each (Stands s) (on_judged j (λ first. after_first s first)).rows
    by (done first) e =
        each_then (Stands s) (tells (row_of 0 first.head 0 ∷ [])) (walk_of levels (length s) s first.next false) (first_stands s first e, tt)
        (blocks_stand (inside_of levels) levels (inside_stand levels) (length s) s first.next false)
    by (refused n p) e = tt
