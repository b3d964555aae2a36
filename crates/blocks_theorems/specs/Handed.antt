-- What is handed out of a file's header, and at the offset of every block (01: "A name is handed out as a part of the caller's bytes"): its data,
-- its meta data, a chain's name.
use Rattle.std.specs.Prelude.{ℕ, ◌+◌, List, ◌≡◌, length}
use Rattle.fields.specs.Judged.{done}
use Rattle.blocks.specs.Header.{first_of}
use Rattle.blocks.specs.Parts.{data_bounds, meta_bounds, chain_name_bounds, data_part, meta_part, chain_name}
use Rattle.blocks.specs.declared.header.First.{First}
use Rattle.blocks_theorems.specs.RowParts.{padding}
use Rattle.blocks_theorems.specs.Layout.{Blocks, none, block, chain, File, block_bytes, blocks_bytes, chain_data, chain_fields, modifier_chain, count_of}
use Rattle.blocks_theorems.specs.Layout.{header_data_size, file_size, header_bytes, header_size, units_pattern}

-- of the block at `at`: where its parts are found, and what they are
pub record HandedAt (s : List ℕ) (at : ℕ) (content meta : List ℕ) : Type 0 where
  pub bounds_of_data : data_bounds s at ≡ done (record { at = at + 12; size = length content })
  pub part_of_data : data_part s at ≡ content
  pub bounds_of_meta : meta_bounds s at ≡ done (record { at = at + 12 + length content + padding (length content); size = length meta })
  pub part_of_meta : meta_part s at ≡ meta

-- of blocks of which the first stands at `at`
unfoldable pub HandedOut : List ℕ → ℕ → Blocks → Type 0
HandedOut s at none = Unit {0}
HandedOut s at (block type content meta more) = HandedAt s at content meta × HandedOut s (at + length (block_bytes type content meta)) more
HandedOut s at (chain name type inside meta more) =
    HandedAt s at (chain_data name type inside) meta
    × (chain_name_bounds s at ≡ done (record { at = at + 12 + 2; size = length name }))
    × (chain_name s at ≡ name)
    × HandedOut s (at + 12 + length (chain_fields name type (count_of inside))) inside
    × HandedOut s (at + length (block_bytes modifier_chain (chain_data name type inside) meta)) more

-- of the header: its fields, its three numbers, and where the next block starts
abbrev pub header_handed : File → First
header_handed f = record {
  fields = record {
    minor_version = f.minor;
    profile = f.profile;
    declaration_size = f.declaration_size;
    file_size = file_size f;
    encoding = f.encoding;
    units = units_pattern f.units;
  };
  head = record { block_type = 0x00443355; data_size = header_data_size f.units; meta_size = length f.meta };
  next = header_size f;
}

-- of a whole file
pub record AllHanded (s : List ℕ) (f : File) : Type 0 where
  pub fields : first_of s ≡ done (header_handed f)
  pub header : HandedAt s 0 (header_bytes f) f.meta
  pub declarations : HandedOut s (header_size f) f.declarations
  pub continuations : HandedOut s (header_size f + length (blocks_bytes f.declarations)) f.continuations
