-- The refusals of the first block, of a walk, and of a whole file.
use Prim.Native.Nat.{ℕ, zero, suc, ◌+◌, ◌-◌, ◌≤◌}
use mathlib.Core.Bool.{Bool, true, false}
use mathlib.Core.List.{List, [], ◌∷◌}
use mathlib.Core.Path.{refl}
use native.Mathlib.Omega.{arith}
use borrow.Author.Tests.{ltb-false}
use lib.Dec.{eqb, ltb}
use lib.ListN.{length, take}
use lib.Seq.{length-take-le}
use Rattle.fields.specs.Numbers.{truncated, bad_header, bad_size, bad_profile, bad_chain, over_limit, no_room}
use Rattle.fields.specs.Limits.{largest_file}
use Rattle.fields.specs.Judged.{done, refused, pick}
use Rattle.fields.specs.Field.{field_at}
use Rattle.fields.specs.Member.{member}
use Rattle.blocks.specs.Kind.{header_type, is_chain, is_continuation}
use Rattle.blocks.specs.Head.{head_size, data_size_at, head_at, extent_of, room_of, paddings_of}
use Rattle.blocks.specs.Header.{major_at, minor_at, profile_at, declaration_size_at, file_size_at, encoding_at, units_at}
use Rattle.blocks.specs.Header.{least_data, profiles, has_units, data_size_of, version_of, sizes_of, units_of, fields_of, rest_of, sized_of, judged_of, first_of}
use Rattle.blocks.specs.Chain.{in_chain}
use Rattle.blocks.specs.Block.{levels, block_at}
use Rattle.blocks.specs.Walk.{Outcome, tells, ends, on_judged, row_of, file_ends, blocks_of, inside_of, walk_of, in_chain_outcome}
use Rattle.blocks.specs.File.{after_first, file_of, file_words, walk_in, file_lines, lines_of, lines_in}
use Rattle.blocks.specs.declared.head.Head.{Head}
use Rattle.blocks.specs.declared.header.FileHeader.{FileHeader}
use Rattle.blocks.specs.declared.block.Block.{Block}
use Rattle.blocks.proofs.Fits.{BlockFits, block_fits, extent_fits, head_within, room_within}
use Rattle.blocks.proofs.Files.{first_fits}
use Rattle.blocks_theorems.specs.Refusals.{Refusing, first_numbers, chain_numbers, block_numbers, file_numbers, told_numbers}
use Rattle.blocks_theorems.proofs.Next.{next_of}
use Rattle.blocks_theorems.proofs.Refusing.{on_done_lem, picked, refused_if_lem, judged_next, and_then_lem, wider, in_chain_lem}
use Rattle.blocks_theorems.proofs.BlockNumbers.{field_refusing, head_refusing, room_refusing, paddings_refusing, block_refusing}

-- ---- the first block

-- room for the fields that every header has
abbrev Least : List ℕ → Type 0
Least s = head_size + least_data ≤ length s

module _ (s : List ℕ) where
  version_refusing : Least s → Refusing first_numbers (length s) (version_of s)
  unfolding version_of Refusing
  version_refusing h =
      let len = length s in
      on_done_lem first_numbers len (field_at 2 s major_at) _ (field_refusing first_numbers len 2 s major_at refl (omega arith)) λ major _.
      picked first_numbers len (eqb major 0) _ (refused bad_header major_at)
      (λ _. on_done_lem first_numbers len (field_at 2 s minor_at) _ (field_refusing first_numbers len 2 s minor_at refl (omega arith)) λ minor _.
      on_done_lem first_numbers len (field_at 4 s profile_at) _ (field_refusing first_numbers len 4 s profile_at refl (omega arith)) λ profile _.
      picked first_numbers len (member profile profiles) _ (refused bad_profile profile_at) (λ _. tt) (λ _. (refl, omega arith)))
      (λ _. (refl, omega arith))

  sizes_refusing : Least s → Refusing first_numbers (length s) (sizes_of s)
  unfolding sizes_of Refusing
  sizes_refusing h =
      let len = length s in
      on_done_lem first_numbers len (field_at 4 s declaration_size_at) _ (field_refusing first_numbers len 4 s declaration_size_at refl (omega arith)) λ declared _.
      refused_if_lem first_numbers len (ltb len declared) bad_size declaration_size_at _ refl (omega arith) λ _.
      on_done_lem first_numbers len (field_at 8 s file_size_at) _ (field_refusing first_numbers len 8 s file_size_at refl (omega arith)) λ size _.
      picked first_numbers len (eqb size len) _ (refused bad_size file_size_at) (λ _. tt) (λ _. (refl, omega arith))

  units_refusing : (profile : ℕ) → Least s → Refusing first_numbers (length s) (units_of s profile)
  unfolding units_of Refusing
  units_refusing profile h =
      let len = length s in
      picked first_numbers len (has_units profile) (field_at 8 s units_at) (done 0) (λ _. field_refusing first_numbers len 8 s units_at refl (omega arith)) (λ _. tt)

  fields_refusing : (version : _) (sizes : _) → Least s → Refusing first_numbers (length s) (fields_of s version sizes)
  unfolding fields_of Refusing
  fields_refusing version sizes h =
      let len = length s in
      on_done_lem first_numbers len (field_at 4 s encoding_at) _ (field_refusing first_numbers len 4 s encoding_at refl (omega arith)) λ encoding _.
      on_done_lem first_numbers len (units_of s version.profile) _ (units_refusing version.profile h) λ _ _. tt

  rest_refusing : (head : Head) (fields : FileHeader) → Least s → Refusing first_numbers (length s) (rest_of s head fields)
  unfolding rest_of Refusing
  rest_refusing head fields h =
      let extent = extent_of 0 head in
      let f = extent_fits 0 head extent refl in
      on_done_lem first_numbers (length s) (room_of (length s) 0 extent) _ (room_refusing first_numbers s refl 0 extent (omega arith)) λ u e.
      let w = room_within (length s) 0 extent u e in
      on_done_lem first_numbers (length s) (paddings_of s extent) _
      (paddings_refusing first_numbers s extent refl f.data_padding w.1 f.meta_padding w.2) λ _ _. tt

  sized_refusing : (head : Head) (version : _) → Least s → Refusing first_numbers (length s) (sized_of s head version)
  unfolding sized_of Refusing
  sized_refusing head version h =
      let len = length s in
      picked first_numbers len (eqb head.data_size (data_size_of version.profile)) _ (refused bad_header data_size_at)
      (λ _. refused_if_lem first_numbers len (ltb len (head_size + head.data_size)) truncated head_size _ refl (omega arith) λ _.
      on_done_lem first_numbers len (sizes_of s) _ (sizes_refusing h) λ sizes _.
      on_done_lem first_numbers len (fields_of s version sizes) _ (fields_refusing version sizes h) λ fields _.
      rest_refusing head fields h)
      (λ _. (refl, omega arith))

  judged_refusing : (head : Head) → 12 ≤ length s → Refusing first_numbers (length s) (judged_of s head)
  unfolding judged_of Refusing
  judged_refusing head h =
      let len = length s in
      picked first_numbers len (eqb head.block_type header_type) _ (refused bad_header 0)
      (λ _. refused_if_lem first_numbers len (ltb len (head_size + least_data)) truncated head_size _ refl h λ a.
      let least = ltb-false len (head_size + least_data) a in
      on_done_lem first_numbers len (version_of s) _ (version_refusing least) λ version _.
      sized_refusing head version least)
      (λ _. (refl, omega arith))

  -- The first block is refused with 1 to 5 or 9, and within the file.
  pub first_refusing : Refusing first_numbers (length s) (first_of s)
  unfolding first_of
  first_refusing =
      refused_if_lem first_numbers (length s) (ltb largest_file (length s)) over_limit 0 _ refl (omega arith) λ _.
      on_done_lem first_numbers (length s) (head_at s 0) _ (head_refusing first_numbers s refl (length s) 0 (omega arith) (omega arith)) λ head e.
      judged_refusing head (head_within s 0 head e)

-- ---- a walk

-- the contents of a block that was found are refused with a block's numbers
abbrev Inside : (List ℕ → Block → Outcome) → ℕ → Type 0
Inside inside remaining =
    (s : List ℕ) (at : ℕ) (b : Block) → BlockFits (length s) at remaining b → Refusing block_numbers (length s) (inside s b).ending

module _ (inside : List ℕ → Block → Outcome) (remaining : ℕ) (within : Inside inside remaining) where
  blocks_refusing : (count : ℕ) (s : List ℕ) (at : ℕ) (continued : Bool) → at ≤ length s
      → Refusing block_numbers (length s) (blocks_of inside remaining count s at continued).ending
  unfolding blocks_of Refusing
  blocks_refusing zero s at continued h = by (eqb at (length s))
    where
      by : (t : Bool) → Refusing block_numbers (length s) (pick t (tells []) (ends (refused bad_chain at))).ending
      by true = tt
      by false = (refl, h)
  blocks_refusing (suc count) s at continued h =
      let len = length s in
      let found = judged_next block_numbers len (block_at s at remaining continued) (next_of inside remaining count s at)
      (block_refusing s at remaining continued len h (omega arith)) λ b e.
      let f = block_fits s at remaining continued b e in
      let meta-within : b.extent.meta_at ≤ len = omega (arith, f.meta_data, f.meta_padding, f.ends) in
      let with_padding = paddings_refusing block_numbers s b.extent refl f.data_padding meta-within f.meta_padding f.ends in
      and_then_lem block_numbers len (tells (row_of at b.head (levels - remaining) ∷ [])) _ tt
      (and_then_lem block_numbers len (inside s b) _ (within s at b f)
      (and_then_lem block_numbers len (ends (paddings_of s b.extent)) _ with_padding
      (blocks_refusing count s b.extent.next (is_continuation b.kind) f.ends))) in
      by (file_ends at len remaining) (on_judged (block_at s at remaining continued) (next_of inside remaining count s at)) found
    where
      by : (t : Bool) (o : Outcome) → Refusing block_numbers (length s) o.ending → Refusing block_numbers (length s) (pick t (tells []) o).ending
      by true o r = tt
      by false o r = r

inside_refusing : (remaining : ℕ) → Inside (inside_of remaining) remaining
unfolding inside_of Refusing
inside_refusing zero s at b f = tt
inside_refusing (suc remaining) s at b f =
    let inner = take b.extent.data_end s in
    let whole : b.extent.data_end ≤ length s = omega (arith, f.data_padding, f.meta_data, f.meta_padding, f.ends) in
    let size = length-take-le b.extent.data_end s whole in
    let walked = walk_of remaining b.contents.count inner b.contents.at false in
    let refusing = blocks_refusing (inside_of remaining) remaining (inside_refusing remaining) b.contents.count inner b.contents.at false
    (omega (arith, f.inside)) in
    let chained = in_chain_lem chain_numbers (length inner) walked.ending refl refusing in
    by (is_chain b.kind) walked (wider chain_numbers block_numbers (length inner) (length s) (in_chain walked.ending) refl (omega arith) chained)
  where
    by : (t : Bool) (o : Outcome) → Refusing block_numbers (length s) (in_chain o.ending)
        → Refusing block_numbers (length s) (pick t (in_chain_outcome o) (tells [])).ending
    by true o r = r
    by false o r = tt

-- A walk from an offset within the bytes is refused with a block's numbers, and within the bytes.
pub walk_refusing : (remaining count : ℕ) (s : List ℕ) (at : ℕ) (continued : Bool) → at ≤ length s
    → Refusing block_numbers (length s) (walk_of remaining count s at continued).ending
walk_refusing remaining = blocks_refusing (inside_of remaining) remaining (inside_refusing remaining)

-- ---- a whole file

-- A file is refused with 1 to 9 or 11, and within the file.
pub file_refusing : (s : List ℕ) → Refusing file_numbers (length s) (file_of s).ending
unfolding file_of after_first Refusing
file_refusing s =
    let len = length s in
    judged_next file_numbers len (first_of s) (λ first. after_first s first) (wider first_numbers file_numbers len len (first_of s) refl (omega arith) (first_refusing s))
    λ first e.
    let walked = walk_of levels len s first.next false in
    and_then_lem file_numbers len (tells (row_of 0 first.head 0 ∷ [])) walked tt
    (wider block_numbers file_numbers len len walked.ending refl (omega arith) (walk_refusing levels len s first.next false (first_fits s first e).ends))

-- 12 is judged last, and its place is 0
module _ (s : List ℕ) where
  told_refusing : Refusing told_numbers (length s) (file_of s).ending
  told_refusing = wider file_numbers told_numbers (length s) (length s) (file_of s).ending refl (omega arith) (file_refusing s)

  -- A walk into a lent table is refused with 1 to 9, 11 or 12, and within the file.
  pub walk_in_refusing : (table : List ℕ) → Refusing told_numbers (length s) (walk_in s table)
  unfolding walk_in Refusing
  walk_in_refusing table =
      on_done_lem told_numbers (length s) (file_of s).ending _ told_refusing λ _ _.
      refused_if_lem told_numbers (length s) (ltb (length table) (length (file_words s))) no_room 0 _ refl (omega arith) λ _. tt

  -- So are the lines.
  pub lines_in_refusing : (text : List ℕ) → Refusing told_numbers (length s) (lines_in s text)
  unfolding lines_in lines_of Refusing
  lines_in_refusing text =
      on_done_lem told_numbers (length s) (lines_of s) _ (on_done_lem told_numbers (length s) (file_of s).ending _ told_refusing λ _ _. tt) λ told _.
      refused_if_lem told_numbers (length s) (ltb (length text) (length (file_lines s))) no_room 0 _ refl (omega arith) λ _. tt
