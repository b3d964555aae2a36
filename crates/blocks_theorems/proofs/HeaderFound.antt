-- The header of a file that was found: each field as it was read, and what it was judged by.
use Prim.Native.Nat.{ℕ, ◌≤◌}
use mathlib.Core.Bool.{true}
use mathlib.Core.List.{List}
use mathlib.Core.Path.{◌≡◌, refl, ap, ◌∙◌}
use borrow.Author.Tests.{eqb-true, ltb-false}
use lib.Dec.{eqb, ltb}
use lib.ListN.{length}
use Rattle.fields.specs.Numbers.{bad_header, bad_size, bad_profile}
use Rattle.fields.specs.Judged.{done}
use Rattle.fields.specs.Field.{field_at}
use Rattle.fields.specs.Member.{member}
use Rattle.fields.proofs.Judging.{passed, same_done, value_before}
use Rattle.blocks.specs.Header.{major_at, minor_at, profile_at, declaration_size_at, file_size_at, encoding_at}
use Rattle.blocks.specs.Header.{profiles, data_size_of, version_of, sizes_of, units_of, fields_of, first_of}
use Rattle.blocks.specs.declared.header.FileHeader.{FileHeader}
use Rattle.blocks.specs.declared.header.First.{First}
use Rattle.blocks.proofs.Fits.{chosen}
use Rattle.blocks.proofs.Files.{first_judged}

record Versioned (s : List ℕ) (minor profile : ℕ) : Type 0 where
  major_read : field_at 2 s major_at ≡ done 0
  minor_read : field_at 2 s minor_at ≡ done minor
  profile_read : field_at 4 s profile_at ≡ done profile
  known : member profile profiles ≡ true

versioned : (s : List ℕ) (version : _) → version_of s ≡ done version → Versioned s version.minor version.profile
unfolding version_of
versioned s version e =
    let major = value_before (field_at 2 s major_at) _ version e in
    let zero = chosen (eqb major.0 0) _ bad_header major_at version major.2 in
    let minor = value_before (field_at 2 s minor_at) _ version zero.1 in
    let profile = value_before (field_at 4 s profile_at) _ version minor.2 in
    let known = chosen (member profile.0 profiles) _ bad_profile profile_at version profile.2 in
    rw (← same_done known.1) (record {
      major_read = major.1 ∙ ap done (eqb-true major.0 0 zero.0);
      minor_read = minor.1;
      profile_read = profile.1;
      known = known.0;
    })

record Sized (s : List ℕ) (declaration file : ℕ) : Type 0 where
  declaration_read : field_at 4 s declaration_size_at ≡ done declaration
  small : declaration ≤ length s
  file_read : field_at 8 s file_size_at ≡ done file
  same : file ≡ length s

sized : (s : List ℕ) (sizes : _) → sizes_of s ≡ done sizes → Sized s sizes.declaration sizes.file
unfolding sizes_of
sized s sizes e =
    let declared = value_before (field_at 4 s declaration_size_at) _ sizes e in
    let within = passed (ltb (length s) declared.0) bad_size declaration_size_at _ sizes declared.2 in
    let size = value_before (field_at 8 s file_size_at) _ sizes within.1 in
    let same = chosen (eqb size.0 (length s)) _ bad_size file_size_at sizes size.2 in
    rw (← same_done same.1) (record {
      declaration_read = declared.1;
      small = ltb-false (length s) declared.0 within.0;
      file_read = size.1;
      same = eqb-true size.0 (length s) same.0;
    })

pub record HeaderFound (s : List ℕ) (fields : FileHeader) : Type 0 where
  pub major : field_at 2 s major_at ≡ done 0
  pub minor : field_at 2 s minor_at ≡ done fields.minor_version
  pub profile : field_at 4 s profile_at ≡ done fields.profile
  pub known : member fields.profile profiles ≡ true
  pub declaration_size : field_at 4 s declaration_size_at ≡ done fields.declaration_size
  pub declaration_small : fields.declaration_size ≤ length s
  pub file_size : field_at 8 s file_size_at ≡ done fields.file_size
  pub file_sized : fields.file_size ≡ length s
  pub encoding : field_at 4 s encoding_at ≡ done fields.encoding
  pub units : units_of s fields.profile ≡ done fields.units

-- from the version and the sizes, whose profile it is
fields_found : (s : List ℕ) (version : _) (sizes : _) (fields : FileHeader) → fields_of s version sizes ≡ done fields
    → Versioned s version.minor version.profile → Sized s sizes.declaration sizes.file
    → HeaderFound s fields × (version.profile ≡ fields.profile)
unfolding fields_of
fields_found s version sizes fields e v z =
    let encoding = value_before (field_at 4 s encoding_at) _ fields e in
    let units = value_before (units_of s version.profile) _ fields encoding.2 in
    rw (← same_done units.2) (
      record {
        major = v.major_read;
        minor = v.minor_read;
        profile = v.profile_read;
        known = v.known;
        declaration_size = z.declaration_read;
        declaration_small = z.small;
        file_size = z.file_read;
        file_sized = z.same;
        encoding = encoding.1;
        units = units.1;
      },
      refl,
    )

module _ (s : List ℕ) (first : First) (e : first_of s ≡ done first) where
  found : HeaderFound s first.fields × ((first_judged s first e).version.profile ≡ first.fields.profile)
  found =
      let j = first_judged s first e in
      fields_found s j.version j.sizes first.fields j.fields_read (versioned s j.version j.version_read) (sized s j.sizes j.sizes_read)

  pub header_found : HeaderFound s first.fields
  header_found = found.0

  pub data_sized : first.head.data_size ≡ data_size_of first.fields.profile
  data_sized = (first_judged s first e).size ∙ ap data_size_of found.1
