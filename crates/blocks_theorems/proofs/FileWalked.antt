-- A file that is laid out by the rules is walked to its rows, and its header handed out.
use Prim.Native.Nat.{ℕ, ◌+◌, ◌-◌, ◌%◌, ◌≤◌, ◌<◌}
use mathlib.Core.Bool.{true, false}
use mathlib.Core.List.{List, ◌++◌, append_assoc}
use mathlib.Core.Logic.{inl, inr}
use mathlib.Core.Path.{◌≡◌, refl, ap, sym, ◌∙◌}
use native.Mathlib.Nat.{zero-add}
use native.Mathlib.Omega.{arith}
use borrow.Author.Tests.{eq-eqb, le-ltb}
use lib.ListN.{drop, length, length-append, replicate}
use Rattle.fields.specs.Judged.{done}
use Rattle.fields.specs.Limits.{largest_file}
use Rattle.fields.specs.Member.{member}
use Rattle.blocks.specs.Head.{extent_of}
use Rattle.blocks.specs.Header.{profiles, has_units, data_size_of, version_of, sizes_of, units_of, fields_of, rest_of, sized_of, judged_of, first_of}
use Rattle.blocks.specs.Block.{levels}
use Rattle.blocks.specs.Walk.{Outcome, tells, and_then, walk_of}
use Rattle.blocks.specs.File.{after_first, file_of}
use Rattle.blocks.specs.declared.head.Head.{Head}
use Rattle.fields_theorems.specs.Encoding.{number_bytes}
use Rattle.fields_theorems.proofs.Seams.{past}
use Rattle.fields_theorems.proofs.FieldsBack.{field_back, length_number_bytes}
use Rattle.blocks_theorems.specs.RowParts.{padding}
use Rattle.blocks_theorems.specs.Layout.{Units, unitless, scaled, header_data_size, profiles_of, units_bytes, units_pattern}
use Rattle.blocks_theorems.specs.Handed.{header_handed}
use Rattle.blocks_theorems.specs.Layout.{File, Lawful, OneOf, block_bytes, blocks_bytes, count_of, file_bytes, file_size, header_bytes, header_size, with_padding, rows_laid, rows_of}
use Rattle.blocks_theorems.proofs.PartsBack.{data_here, head_back, head_of, length_block, length_with_padding, next_at, paddings_back, room_back}
use Rattle.blocks_theorems.proofs.BlocksWalked.{continuations-walked, declarations-walked, few_blocks, told}

-- what a profile without a bit other than 0x2 and 0x8 says of units
record Profiled (x : ℕ) (units : Units) : Type 0 where
  known : member x profiles ≡ true
  small : x < 0x100000000
  size : data_size_of x ≡ header_data_size units
  units_back : (s rest : List ℕ) → units_pattern units < 0x10000000000000000 → drop 36 s ≡ units_bytes units ++ rest
      → units_of s x ≡ done (units_pattern units)

module _ (x : ℕ) (known : member x profiles ≡ true) (small : x < 0x100000000) where
  without : has_units x ≡ false → Profiled x unitless
  unfolding data_size_of units_of
  without e = record { known = known; small = small; size = rw e; units_back = λ s rest h here. rw e }

  with_units : (factor : ℕ) → has_units x ≡ true → Profiled x (scaled factor)
  unfolding data_size_of units_of
  with_units factor e = record {
    known = known;
    small = small;
    size = rw e;
    units_back = λ s rest h here. rw e (field_back 8 s rest 36 factor (omega arith) (omega arith) here);
  }

profiled : (x : ℕ) (units : Units) → OneOf x (profiles_of units) → Profiled x units
unfolding has_units
profiled x unitless (inl e) = rw e (without 0 refl (omega arith) refl)
profiled x unitless (inr (inl e)) = rw e (without 2 refl (omega arith) refl)
profiled x unitless (inr (inr o)) = elim o [ ]
profiled x (scaled factor) (inl e) = rw e (with_units 8 refl (omega arith) factor refl)
profiled x (scaled factor) (inr (inl e)) = rw e (with_units 10 refl (omega arith) factor refl)
profiled x (scaled factor) (inr (inr o)) = elim o [ ]

pub length_units : (units : Units) → 24 + length (units_bytes units) ≡ header_data_size units
length_units unitless = refl
length_units (scaled factor) = rw (length_number_bytes 8 factor)

-- so that no padding follows it
pub whole_words : (units : Units) → header_data_size units % 4 ≡ 0
whole_words unitless = refl
whole_words (scaled factor) = refl

module _ (f : File) where
  -- what follows the header
  abbrev pub top : List ℕ
  top = blocks_bytes f.declarations ++ blocks_bytes f.continuations

  pub length_header : length (header_bytes f) ≡ header_data_size f.units
  unfolding header_bytes
  length_header = simp (length-append, length_number_bytes) (omega (arith, length_units f.units))

  header_ends : length (block_bytes 0x00443355 (header_bytes f) f.meta) ≡ header_size f
  header_ends = omega (arith, length_block 0x00443355 (header_bytes f) f.meta, length_header, whole_words f.units, length_with_padding f.meta)

  -- the file size that a header states is the length of its file
  pub file_sized : length (file_bytes f) ≡ file_size f
  unfolding file_bytes
  file_sized =
      omega (
        arith,
        length-append (block_bytes 0x00443355 (header_bytes f) f.meta) top,
        header_ends,
        length-append (blocks_bytes f.declarations) (blocks_bytes f.continuations),
      )

  pub header_here : drop 0 (file_bytes f) ≡ block_bytes 0x00443355 (header_bytes f) f.meta ++ top
  unfolding file_bytes
  header_here = refl

  -- ---- the header's fields

  abbrev after : List ℕ
  after = replicate (padding (length (header_bytes f))) 0 ++ (with_padding f.meta ++ top)

  abbrev units_on : List ℕ
  units_on = units_bytes f.units ++ after

  abbrev encoding_on : List ℕ
  encoding_on = number_bytes 4 f.encoding ++ units_on

  abbrev size_on : List ℕ
  size_on = number_bytes 8 (file_size f) ++ encoding_on

  abbrev declared_on : List ℕ
  declared_on = number_bytes 4 f.declaration_size ++ size_on

  abbrev profile_on : List ℕ
  profile_on = number_bytes 4 f.profile ++ declared_on

  abbrev minor_on : List ℕ
  minor_on = number_bytes 2 f.minor ++ profile_on

  major_here : drop 12 (file_bytes f) ≡ number_bytes 2 0 ++ minor_on
  unfolding header_bytes
  major_here = data_here (file_bytes f) top 0 0x00443355 (header_bytes f) f.meta header_here ∙ simp append_assoc

  minor_here : drop 14 (file_bytes f) ≡ minor_on
  minor_here = past (file_bytes f) (number_bytes 2 0) minor_on 12 major_here 2 (length_number_bytes 2 0)

  profile_here : drop 16 (file_bytes f) ≡ profile_on
  profile_here = past (file_bytes f) (number_bytes 2 f.minor) profile_on 14 minor_here 2 (length_number_bytes 2 f.minor)

  declared_here : drop 20 (file_bytes f) ≡ declared_on
  declared_here = past (file_bytes f) (number_bytes 4 f.profile) declared_on 16 profile_here 4 (length_number_bytes 4 f.profile)

  size_here : drop 24 (file_bytes f) ≡ size_on
  size_here = past (file_bytes f) (number_bytes 4 f.declaration_size) size_on 20 declared_here 4 (length_number_bytes 4 f.declaration_size)

  encoding_here : drop 32 (file_bytes f) ≡ encoding_on
  encoding_here = past (file_bytes f) (number_bytes 8 (file_size f)) encoding_on 24 size_here 8 (length_number_bytes 8 (file_size f))

  units_here : drop 36 (file_bytes f) ≡ units_on
  units_here = past (file_bytes f) (number_bytes 4 f.encoding) units_on 32 encoding_here 4 (length_number_bytes 4 f.encoding)

-- ---- the first block

module _ (f : File) (h : Lawful f) where
  abbrev profile_stated : Profiled f.profile f.units
  profile_stated = profiled f.profile f.units h.profile

  version_back : version_of (file_bytes f) ≡ done (record { minor = f.minor; profile = f.profile })
  unfolding version_of
  version_back =
      let s = file_bytes f in
      rw (
        field_back 2 s _ 12 0 (omega arith) (omega arith) (major_here f),
        field_back 2 s _ 14 f.minor (omega arith) (omega (arith, h.minor)) (minor_here f),
        field_back 4 s _ 16 f.profile (omega arith) (omega (arith, profile_stated.small)) (profile_here f),
        profile_stated.known,
      )

  sizes_back : sizes_of (file_bytes f) ≡ done (record { declaration = f.declaration_size; file = file_size f })
  unfolding sizes_of
  sizes_back =
      let s = file_bytes f in
      let small = h.small in
      let declared = h.declaration_size in
      rw (
        field_back 4 s _ 20 f.declaration_size (omega arith) (omega arith) (declared_here f),
        le-ltb (length s) f.declaration_size (omega (arith, file_sized f)),
        field_back 8 s _ 24 (file_size f) (omega arith) (omega arith) (size_here f),
        eq-eqb (file_size f) (length s) (sym (file_sized f)),
      )

  fields_back : fields_of (file_bytes f) (record { minor = f.minor; profile = f.profile }) (record { declaration = f.declaration_size; file = file_size f })
      ≡ done (header_handed f).fields
  unfolding fields_of
  fields_back =
      let s = file_bytes f in
      rw (
        field_back 4 s _ 32 f.encoding (omega arith) (omega (arith, h.encoding)) (encoding_here f),
        profile_stated.units_back s (after f) h.units (units_here f),
      )

  abbrev head : Head
  head = head_of 0x00443355 (header_bytes f) f.meta

  pub small : length (file_bytes f) ≤ largest_file
  small = omega (arith, file_sized f, h.small)

  next_is : (extent_of 0 head).next ≡ header_size f
  next_is = next_at (file_bytes f) (top f) 0 0x00443355 (header_bytes f) f.meta (header_here f) ∙ omega (arith, header_ends f)

  -- What a header states is handed out: its fields with the factor's pattern, its numbers, and where the next block starts.
  pub header_handed_lem : first_of (file_bytes f) ≡ done (header_handed f)
  unfolding first_of judged_of sized_of rest_of
  header_handed_lem =
      let s = file_bytes f in
      let content = header_bytes f in
      let size = length_header f ∙ sym profile_stated.size in
      rw (
        le-ltb largest_file (length s) small,
        head_back s (top f) 0 0x00443355 content f.meta (header_here f) (omega arith) small,
        le-ltb (length s) 36 (omega (arith, file_sized f, length_units f.units)),
        version_back,
        eq-eqb (length content) (data_size_of f.profile) size,
        le-ltb (length s) (12 + length content) (omega (arith, file_sized f, length_header f)),
        sizes_back,
        fields_back,
        room_back s (top f) 0 0x00443355 content f.meta (header_here f),
        paddings_back s (top f) 0 0x00443355 content f.meta (header_here f),
        next_is,
        length_header f,
      )

  -- ---- the blocks after it

  abbrev pub declared_at : ℕ
  declared_at = header_size f

  abbrev pub continued_at : ℕ
  continued_at = header_size f + length (blocks_bytes f.declarations)

  pub declarations_here : drop declared_at (file_bytes f) ≡ top f
  declarations_here =
      rw (← zero-add declared_at)
      (past (file_bytes f) (block_bytes 0x00443355 (header_bytes f) f.meta) (top f) 0 (header_here f) declared_at (header_ends f))

  pub continuations_here : drop continued_at (file_bytes f) ≡ blocks_bytes f.continuations
  continuations_here =
      past (file_bytes f) (blocks_bytes f.declarations) (blocks_bytes f.continuations) declared_at declarations_here
      (length (blocks_bytes f.declarations)) refl

  top_walked : walk_of levels (length (file_bytes f)) (file_bytes f) declared_at false
      ≡ tells (rows_laid declared_at 0 f.declarations ++ rows_laid continued_at 0 f.continuations)
  top_walked =
      let s = file_bytes f in
      let d = f.declarations in
      let c = f.continuations in
      let n = length s - count_of d - count_of c in
      let count : length s ≡ count_of d + (count_of c + n) = omega (arith, few_blocks d, few_blocks c, file_sized f) in
      let first = declarations-walked d s (blocks_bytes c) declared_at levels 0 (count_of c + n) h.declarations refl small declarations_here in
      let later = continuations-walked c s continued_at n false h.continuations small (omega (arith, file_sized f)) continuations_here in
      ap (λ (k : ℕ). walk_of levels k s declared_at false) count ∙ first
      ∙ ap (λ (o : Outcome). told (rows_laid declared_at 0 d) o) later

-- A file laid out by the rules is walked to the end, and the rows told are just those of its blocks.
pub tree_walked : (f : File) → Lawful f → file_of (file_bytes f) ≡ tells (rows_of f)
unfolding file_of after_first and_then rows_of
tree_walked f h = rw (header_handed_lem f h, top_walked f h, length_header f)
