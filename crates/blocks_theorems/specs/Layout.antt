-- How a file within 01's rules is laid out in bytes, and the rows that are to be told of it. Written from 01, "Blocks", and not by what the walk is
-- made of: the theorem says that what is laid out so is walked to just these rows.
use Rattle.std.specs.Prelude.{ℕ, zero, suc, ◌+◌, ◌≤◌, ◌<◌, List, [], ◌∷◌, ◌++◌, ◌⊎◌, ◌≡◌, length, replicate}
use Rattle.blocks.specs.declared.tell.Row.{Row}
use Rattle.fields_theorems.specs.Encoding.{number_bytes, name_bytes, word_bytes}
use Rattle.blocks_theorems.specs.RowParts.{padding}

-- Blocks that stand one after the other.
pub data Blocks : Type 0 where
  none : Blocks
  -- a block with its type, data and meta data, and the blocks after it
  block : ℕ → List ℕ → List ℕ → Blocks → Blocks
  -- a chain with its name, type, the blocks inside it and its meta data, and the blocks after it
  chain : List ℕ → ℕ → Blocks → List ℕ → Blocks → Blocks

-- a part and "zero bytes to a multiple of 4"
unfoldable pub with_padding : List ℕ → List ℕ
with_padding part = part ++ replicate (padding (length part)) 0

-- "U32 type, data size, meta data size; data, zero bytes to a multiple of 4, meta data, zero bytes likewise. Sizes exclude padding."
unfoldable pub block_bytes : ℕ → List ℕ → List ℕ → List ℕ
block_bytes type content meta = word_bytes (type ∷ length content ∷ length meta ∷ []) ++ (with_padding content ++ with_padding meta)

-- "name (U16 length, bytes), type, attributes, padding to 4 from the data's start, modifier count"; attributes are 0
unfoldable pub chain_fields : List ℕ → ℕ → ℕ → List ℕ
chain_fields name type count = with_padding (name_bytes name ++ word_bytes (type ∷ 0 ∷ [])) ++ word_bytes (count ∷ [])

-- how many blocks stand one after the other
unfoldable pub count_of : Blocks → ℕ
count_of none = 0
count_of (block type content meta more) = suc (count_of more)
count_of (chain name type inside meta more) = suc (count_of more)

abbrev pub modifier_chain : ℕ
modifier_chain = 0xFFFFFF14

-- a chain's data: its fields, "then that many blocks"
unfoldable pub blocks_bytes : Blocks → List ℕ
blocks_bytes none = []
blocks_bytes (block type content meta more) = block_bytes type content meta ++ blocks_bytes more
blocks_bytes (chain name type inside meta more) =
    block_bytes modifier_chain (chain_fields name type (count_of inside) ++ blocks_bytes inside) meta ++ blocks_bytes more

abbrev pub chain_data : List ℕ → ℕ → Blocks → List ℕ
chain_data name type inside = chain_fields name type (count_of inside) ++ blocks_bytes inside

-- a block's row: "offset, type .., data, meta, depth from 0"
abbrev pub row_at : ℕ → ℕ → List ℕ → List ℕ → ℕ → Row
row_at at type content meta depth = record {
  offset = at;
  block_type = type;
  data_size = length content;
  meta_size = length meta;
  depth = depth;
}

-- the rows of blocks of which the first stands at `at`, "a chain before its contents"
unfoldable pub rows_laid : ℕ → ℕ → Blocks → List Row
rows_laid at depth none = []
rows_laid at depth (block type content meta more) =
    row_at at type content meta depth ∷ rows_laid (at + length (block_bytes type content meta)) depth more
rows_laid at depth (chain name type inside meta more) =
    row_at at modifier_chain (chain_data name type inside) meta depth
    ∷ (rows_laid (at + 12 + length (chain_fields name type (count_of inside))) (suc depth) inside
    ++ rows_laid (at + length (block_bytes modifier_chain (chain_data name type inside) meta)) depth more)

-- ---- within the rules

-- "Known types, by last byte under 0xFFFFFF: declarations 12, 14, 16, 21 to 24, 31, 36, 37, 41 to 46, 51 to 56"; 14 is a chain
abbrev pub plain_declarations : List ℕ
plain_declarations = 0xFFFFFF12 ∷ 0xFFFFFF16 ∷ 0xFFFFFF21 ∷ 0xFFFFFF22 ∷ 0xFFFFFF23 ∷ 0xFFFFFF24 ∷ 0xFFFFFF31 ∷ 0xFFFFFF36 ∷ 0xFFFFFF37
    ∷ 0xFFFFFF41 ∷ 0xFFFFFF42 ∷ 0xFFFFFF43 ∷ 0xFFFFFF44 ∷ 0xFFFFFF45 ∷ 0xFFFFFF46
    ∷ 0xFFFFFF51 ∷ 0xFFFFFF52 ∷ 0xFFFFFF53 ∷ 0xFFFFFF54 ∷ 0xFFFFFF55 ∷ 0xFFFFFF56 ∷ []

-- "continuations 15, 3B, 3C, 3E, 3F, 5C"
abbrev pub continuation_types : List ℕ
continuation_types = 0xFFFFFF15 ∷ 0xFFFFFF3B ∷ 0xFFFFFF3C ∷ 0xFFFFFF3E ∷ 0xFFFFFF3F ∷ 0xFFFFFF5C ∷ []

-- x is one of a list
abbrev pub OneOf : ℕ → List ℕ → Type 0
OneOf x [] = ⊥
OneOf x (y ∷ ys) = (x ≡ y) ⊎ OneOf x ys

-- "Inside a chain only declarations stand. .. A chain may hold a chain, four levels at most": so many levels may follow. "Name 255 bytes"; a chain's
-- type is at most 2.
unfoldable pub Declarations : ℕ → Blocks → Type 0
Declarations levels none = Unit {0}
Declarations levels (block type content meta more) = OneOf type plain_declarations × Declarations levels more
Declarations zero (chain name type inside meta more) = ⊥
Declarations (suc levels) (chain name type inside meta more) =
    (length name ≤ 255) × (type ≤ 2) × Declarations levels inside × Declarations (suc levels) more

unfoldable pub Continuations : Blocks → Type 0
Continuations none = Unit {0}
Continuations (block type content meta more) = OneOf type continuation_types × Continuations more
Continuations (chain name type inside meta more) = ⊥

-- ---- a whole file

-- a file without units, or the 64-bit pattern of their scaling factor
pub data Units : Type 0 where
  unitless : Units
  scaled : ℕ → Units

pub record File : Type 0 where
  pub minor : ℕ
  pub profile : ℕ
  pub declaration_size : ℕ
  pub encoding : ℕ
  pub units : Units
  pub meta : List ℕ
  pub declarations : Blocks
  pub continuations : Blocks

-- 02, Ask 1: "profile bit 0x8 adds an F64 units scaling factor"
abbrev pub profiles_of : Units → List ℕ
profiles_of unitless = 0 ∷ 2 ∷ []
profiles_of (scaled factor) = 8 ∷ 10 ∷ []

abbrev pub units_bytes : Units → List ℕ
units_bytes unitless = []
units_bytes (scaled factor) = number_bytes 8 factor

-- "Hand the factor out as its 64-bit pattern, 0 when absent"
abbrev pub units_pattern : Units → ℕ
units_pattern unitless = 0
units_pattern (scaled factor) = factor

-- "so the data is 32 bytes then and 24 otherwise"
abbrev pub header_data_size : Units → ℕ
header_data_size unitless = 24
header_data_size (scaled factor) = 32

-- where the header ends: after 12 bytes, its data and its meta data
abbrev pub header_size : File → ℕ
header_size f = 12 + header_data_size f.units + length (with_padding f.meta)

abbrev pub file_size : File → ℕ
file_size f = header_size f + length (blocks_bytes f.declarations) + length (blocks_bytes f.continuations)

-- "fields as clause 9.4.1 lists them": major and minor version, profile, declaration size, file size, encoding, units scaling factor
unfoldable pub header_bytes : File → List ℕ
header_bytes f =
    number_bytes 2 0 ++ (number_bytes 2 f.minor ++ (number_bytes 4 f.profile
    ++ (number_bytes 4 f.declaration_size ++ (number_bytes 8 (file_size f) ++ (number_bytes 4 f.encoding ++ units_bytes f.units)))))

-- "At the top a header comes once and first .., then declarations, then continuations"
unfoldable pub file_bytes : File → List ℕ
file_bytes f = block_bytes 0x00443355 (header_bytes f) f.meta ++ (blocks_bytes f.declarations ++ blocks_bytes f.continuations)

unfoldable pub rows_of : File → List Row
rows_of f =
    row_at 0 0x00443355 (header_bytes f) f.meta 0
    ∷ (rows_laid (header_size f) 0 f.declarations
    ++ rows_laid (header_size f + length (blocks_bytes f.declarations)) 0 f.continuations)

-- a file within the rules
pub record Lawful (f : File) : Type 0 where
  pub minor : f.minor < 0x10000
  -- no profile bit but 0x2 and 0x8
  pub profile : OneOf f.profile (profiles_of f.units)
  pub declaration_size : f.declaration_size ≤ file_size f
  pub encoding : f.encoding ≤ 0xFFFFFFFF
  pub units : units_pattern f.units < 0x10000000000000000
  pub declarations : Declarations 4 f.declarations
  pub continuations : Continuations f.continuations
  -- 16 MiB
  pub small : file_size f ≤ 0x1000000
