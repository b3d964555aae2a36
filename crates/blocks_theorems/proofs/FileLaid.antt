-- A file that is walked to the end is laid out by the rules: the converse of FileWalked.
use Prim.Native.Nat.{ℕ, ◌+◌, ◌<◌}
use mathlib.Core.Bool.{true, false}
use mathlib.Core.List.{List, [], ◌∷◌, ◌++◌}
use mathlib.Core.Logic.{inl, inr}
use mathlib.Core.Path.{◌≡◌, refl, ap, sym, ◌∙◌}
use native.Mathlib.Omega.{arith}
use lib.ListN.{drop, length, length-append, take}
use lib.Seq.{take_at}
use Rattle.fields.specs.Judged.{done}
use Rattle.fields.specs.Field.{field_at}
use Rattle.blocks.specs.Head.{extent_of}
use Rattle.blocks.specs.Header.{profiles, has_units, data_size_of, units_of, first_of}
use Rattle.blocks.specs.Block.{levels}
use Rattle.blocks.specs.Walk.{tells, row_of, walk_of}
use Rattle.blocks.specs.File.{after_first, file_of}
use Rattle.blocks.specs.declared.head.Head.{Head}
use Rattle.blocks.specs.declared.header.FileHeader.{FileHeader}
use Rattle.blocks.proofs.Fits.{room_within}
use Rattle.blocks.proofs.Files.{FirstJudged, first_judged}
use Rattle.fields_theorems.specs.Encoding.{Bytes, number_bytes}
use Rattle.fields_theorems.proofs.FieldsBack.{length_number_bytes}
use Rattle.blocks_theorems.specs.Layout.{File, Lawful, OneOf, Units, unitless, scaled, header_data_size, profiles_of, units_bytes, units_pattern}
use Rattle.blocks_theorems.specs.Layout.{block_bytes, blocks_bytes, file_bytes, file_size, header_bytes, rows_of}
use Rattle.blocks_theorems.proofs.PartsBack.{length_block, length_with_padding}
use Rattle.blocks_theorems.proofs.HeaderFound.{HeaderFound, data_sized, header_found}
use Rattle.blocks_theorems.proofs.FileWalked.{length_units, tree_walked, whole_words}
use Rattle.blocks_theorems.proofs.PartsLaid.{block_laid, both_laid, data_in, field_laid, meta_in}
use Rattle.blocks_theorems.proofs.BlocksLaid.{Laid, judged_done, listed, then_done, walk_laid}

-- ---- the units of a header that was found

record UnitsLaid (s : List ℕ) (profile : ℕ) : Type 0 where
  units : Units
  size : data_size_of profile ≡ header_data_size units
  here : drop 36 s ≡ units_bytes units ++ drop (12 + header_data_size units) s
  known : OneOf profile (profiles_of units)
  small : units_pattern units < 0x10000000000000000

module _ (s : List ℕ) (profile pattern : ℕ) (bytes : Bytes s) (read : units_of s profile ≡ done pattern) where
  without : has_units profile ≡ false → OneOf profile (0 ∷ 2 ∷ []) → UnitsLaid s profile
  unfolding data_size_of units_of
  without e known = record {
    units = unitless;
    size = rw e;
    here = refl;
    known = known;
    small = omega arith;
  }

  with_units : has_units profile ≡ true → OneOf profile (8 ∷ 10 ∷ []) → UnitsLaid s profile
  unfolding data_size_of units_of
  with_units e known =
      let laid = field_laid 8 s 36 pattern bytes (rw e at read) in record {
        units = scaled pattern;
        size = rw e;
        here = laid.0;
        known = known;
        small = omega (arith, laid.1);
      }

  units_laid : OneOf profile profiles → UnitsLaid s profile
  unfolding has_units
  units_laid (inl e) = without (rw e) (inl e)
  units_laid (inr (inl e)) = without (rw e) (inr (inl e))
  units_laid (inr (inr (inl e))) = with_units (rw e) (inl e)
  units_laid (inr (inr (inr (inl e)))) = with_units (rw e) (inr (inl e))
  units_laid (inr (inr (inr (inr o)))) = elim o [ ]

-- ---- the file that was walked

-- a field, and what follows it
field_then : (k : ℕ) (s q more : List ℕ) (at v : ℕ) → Bytes s → field_at k s at ≡ done v → drop (at + k) s ≡ q ++ more → drop at s ≡ (number_bytes k v ++ q) ++ more
field_then k s q more at v bytes e f = both_laid (drop at s) (number_bytes k v) q (drop (at + k) s) more (field_laid k s at v bytes e).0 f

module _ (s : List ℕ) (bytes : Bytes s) (fields : FileHeader) (h : HeaderFound s fields) (u : UnitsLaid s fields.profile) (head : Head)
    (next : ℕ) (l : Laid levels (length s) s next false) where
  -- the file whose bytes these are
  abbrev file_in : File
  file_in = record {
    minor = fields.minor_version;
    profile = fields.profile;
    declaration_size = fields.declaration_size;
    encoding = fields.encoding;
    units = u.units;
    meta = meta_in s 0 head;
    declarations = l.declared;
    continuations = l.continuing;
  }

  -- its header's data, from the back
  abbrev encoding_on : List ℕ
  encoding_on = number_bytes 4 fields.encoding ++ units_bytes u.units

  abbrev size_on : List ℕ
  size_on = number_bytes 8 fields.file_size ++ encoding_on

  abbrev declared_on : List ℕ
  declared_on = number_bytes 4 fields.declaration_size ++ size_on

  abbrev profile_on : List ℕ
  profile_on = number_bytes 4 fields.profile ++ declared_on

  abbrev minor_on : List ℕ
  minor_on = number_bytes 2 fields.minor_version ++ profile_on

  abbrev header : List ℕ
  header = number_bytes 2 0 ++ minor_on

  abbrev after : List ℕ
  after = drop (12 + header_data_size u.units) s

  header_here : drop 12 s ≡ header ++ after
  header_here =
      let five = field_then 4 s (units_bytes u.units) after 32 fields.encoding bytes h.encoding u.here in
      let four = field_then 8 s encoding_on after 24 fields.file_size bytes h.file_size five in
      let three = field_then 4 s size_on after 20 fields.declaration_size bytes h.declaration_size four in
      let two = field_then 4 s declared_on after 16 fields.profile bytes h.profile three in
      let one = field_then 2 s profile_on after 14 fields.minor_version bytes h.minor two in
      field_then 2 s minor_on after 12 0 bytes h.major one

  header_length : length header ≡ header_data_size u.units
  header_length = simp (length-append, length_number_bytes) (omega (arith, length_units u.units))

  module _ (j : FirstJudged s (record { fields = fields; head = head; next = next })) (size : head.data_size ≡ data_size_of fields.profile) where
    data_here : data_in s 0 head ≡ header
    data_here =
        rw (size, u.size)
        (ap (λ (x : List ℕ). take (header_data_size u.units) x) header_here ∙ take_at header after (header_data_size u.units) header_length)

    abbrev top : List ℕ
    top = blocks_bytes l.declared ++ blocks_bytes l.continuing

    whole : s ≡ block_bytes 0x00443355 header (meta_in s 0 head) ++ top
    whole =
        let room = (room_within (length s) 0 (extent_of 0 head) tt j.room).2 in
        let laid = block_laid s 0 head tt bytes j.head_read room j.zeros in
        laid.here ∙ rw (← j.next, l.here, data_here, j.type)

    sized : file_size file_in ≡ length s
    sized =
        let meta = meta_in s 0 head in
        let m : length (block_bytes 0x00443355 header meta ++ top) ≡ length s = sym (ap length whole) in
        omega (
          arith,
          m,
          length-append (block_bytes 0x00443355 header meta) top,
          length-append (blocks_bytes l.declared) (blocks_bytes l.continuing),
          length_block 0x00443355 header meta,
          header_length,
          whole_words u.units,
          length_with_padding meta,
        )

    laid_out : s ≡ file_bytes file_in
    unfolding file_bytes header_bytes
    laid_out = whole ∙ rw (h.file_sized, sized)

    lawful : Lawful file_in
    lawful = record {
      minor = (field_laid 2 s 14 fields.minor_version bytes h.minor).1;
      profile = u.known;
      declaration_size = omega (arith, sized, h.declaration_small);
      encoding = omega (arith, (field_laid 4 s 32 fields.encoding bytes h.encoding).1);
      units = u.small;
      declarations = l.declarations;
      continuations = l.continuations;
      small = omega (arith, sized, j.small);
    }

-- A file of bytes that is walked to the end is laid out by the rules, and its rows are those of its blocks: nothing else is walked to the end.
pub only_trees_walked : (s : List ℕ) (u : Unit {0}) → Bytes s → (file_of s).ending ≡ done u → (f : File) × Lawful f × (s ≡ file_bytes f) × (file_of s ≡ tells (rows_of f))
unfolding file_of after_first
only_trees_walked s u bytes e =
    let found = judged_done (first_of s) _ u e in
    let first = found.0 in
    let walked = then_done (tells (row_of 0 first.head 0 ∷ [])) (walk_of levels (length s) s first.next false) u found.2 in
    let laid = walk_laid levels (length s) s first.next false u (omega arith) bytes walked.1 in
    let fields = first.fields in
    let h = header_found s first found.1 in
    let units = units_laid s fields.profile fields.units bytes h.units (listed (λ x. x) fields.profile profiles h.known) in
    let j = first_judged s first found.1 in
    let size = data_sized s first found.1 in
    let f = file_in s bytes fields h units first.head first.next laid in
    let good = lawful s bytes fields h units first.head first.next laid j size in
    let same = laid_out s bytes fields h units first.head first.next laid j size in
    (f, good, same, ap file_of same ∙ tree_walked f good)
