-- The header (clause 9.4.1; 01, "Blocks", amended by 02, Ask 1): "The first block's order becomes the 12 bytes, type, room for 24 bytes (1),
-- major version, 4, data size, room for its data (1), 3, then as before", which is "room for the rest (1) and paddings".
use Rattle.std.specs.Prelude.{ℕ, ◌+◌, ◌/◌, ◌%◌, Bool, List, [], ◌∷◌, eqb, ltb, length}
use Rattle.fields.specs.Numbers.{truncated, bad_header, bad_size, bad_profile, over_limit}
use Rattle.fields.specs.Limits.{largest_file}
use Rattle.fields.specs.Judged.{Judged, done, refused, on_done, refused_if, pick}
use Rattle.fields.specs.Field.{field_at}
use Rattle.fields.specs.Member.{member}
use Rattle.blocks.specs.Kind.{header_type}
use Rattle.blocks.specs.Head.{head_size, data_size_at, head_at, extent_of, room_of, paddings_of}
use Rattle.blocks.specs.declared.head.Head.{Head}
use Rattle.blocks.specs.declared.header.FileHeader.{FileHeader}
use Rattle.blocks.specs.declared.header.Version.{Version}
use Rattle.blocks.specs.declared.header.Sizes.{Sizes}
use Rattle.blocks.specs.declared.header.First.{First}

-- where its fields stand, one after the other: 9.4.1.1 to 9.4.1.6
abbrev pub major_at : ℕ
major_at = head_size

abbrev pub minor_at : ℕ
minor_at = major_at + 2

abbrev pub profile_at : ℕ
profile_at = minor_at + 2

abbrev pub declaration_size_at : ℕ
declaration_size_at = profile_at + 4

abbrev pub file_size_at : ℕ
file_size_at = declaration_size_at + 4

abbrev pub encoding_at : ℕ
encoding_at = file_size_at + 8

abbrev pub units_at : ℕ
units_at = encoding_at + 4

-- the profiles without a bit other than 0x2 and 0x8
abbrev pub profiles : List ℕ
profiles = 0 ∷ 2 ∷ 8 ∷ 10 ∷ []

-- "profile bit 0x8 adds an F64 units scaling factor"; 9.4.1.2: "Defined units"
abbrev pub defined_units : ℕ
defined_units = 0x8

unfoldable pub has_units : ℕ → Bool
has_units profile = eqb (profile / defined_units % 2) 1

-- "so the data is 32 bytes then and 24 otherwise"
abbrev pub least_data : ℕ
least_data = 24

abbrev pub data_with_units : ℕ
data_with_units = 32

unfoldable pub data_size_of : ℕ → ℕ
data_size_of profile = pick (has_units profile) data_with_units least_data

-- "major version, 4": major version (0), minor version, profile
unfoldable pub version_of : List ℕ → Judged Version
version_of s =
    on_done (field_at 2 s major_at) λ major.
    pick (eqb major 0)
    (on_done (field_at 2 s minor_at) λ minor.
    on_done (field_at 4 s profile_at) λ profile.
    pick (member profile profiles) (done (record { minor = minor; profile = profile })) (refused bad_profile profile_at))
    (refused bad_header major_at)

-- "3": declaration size (at most the file's length), file size (the file's length)
unfoldable pub sizes_of : List ℕ → Judged Sizes
sizes_of s =
    on_done (field_at 4 s declaration_size_at) λ declared.
    refused_if (ltb (length s) declared) bad_size declaration_size_at
    (on_done (field_at 8 s file_size_at) λ size.
    pick (eqb size (length s)) (done (record { declaration = declared; file = size })) (refused bad_size file_size_at))

-- "Hand the factor out as its 64-bit pattern, 0 when absent"
unfoldable pub units_of : List ℕ → ℕ → Judged ℕ
units_of s profile = pick (has_units profile) (field_at 8 s units_at) (done 0)

-- encoding and units, on which no rule is set, and all the fields
unfoldable pub fields_of : List ℕ → Version → Sizes → Judged FileHeader
fields_of s version sizes =
    on_done (field_at 4 s encoding_at) λ encoding.
    on_done (units_of s version.profile) λ units.
    done (record {
      minor_version = version.minor;
      profile = version.profile;
      declaration_size = sizes.declaration;
      file_size = sizes.file;
      encoding = encoding;
      units = units;
    })

-- room for the rest, and the paddings
unfoldable pub rest_of : List ℕ → Head → FileHeader → Judged First
rest_of s head fields =
    let extent = extent_of 0 head in
    on_done (room_of (length s) 0 extent) λ _.
    on_done (paddings_of s extent) λ _.
    done (record { fields = fields; head = head; next = extent.next })

-- "data size, room for its data (1), 3, then as before"
unfoldable pub sized_of : List ℕ → Head → Version → Judged First
sized_of s head version =
    pick (eqb head.data_size (data_size_of version.profile))
    (refused_if (ltb (length s) (head_size + head.data_size)) truncated head_size
    (on_done (sizes_of s) λ sizes.
    on_done (fields_of s version sizes) λ fields.
    rest_of s head fields))
    (refused bad_header data_size_at)

-- "type, room for 24 bytes (1), major version, 4"
unfoldable pub judged_of : List ℕ → Head → Judged First
judged_of s head =
    pick (eqb head.block_type header_type)
    (refused_if (ltb (length s) (head_size + least_data)) truncated head_size
    (on_done (version_of s) λ version. sized_of s head version))
    (refused bad_header 0)

-- the first block of a file; "a file .. above 16 MiB (place 0, judged first)" is 9
unfoldable pub first_of : List ℕ → Judged First
first_of s = refused_if (ltb largest_file (length s)) over_limit 0 (on_done (head_at s 0) λ head. judged_of s head)
