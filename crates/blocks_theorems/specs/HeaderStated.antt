-- What the header of a file states (clause 9.4.1; 02, Ask 1), by the bytes at the offset of each field.
use Rattle.std.specs.Prelude.{ℕ, ◌+◌, ◌/◌, ◌%◌, ◌≤◌, List, ◌≡◌, length}
use Rattle.fields.specs.Field.{little_endian}
use Rattle.blocks.specs.declared.header.First.{First}
use Rattle.blocks_theorems.specs.RowParts.{padding}

-- profile bit 0x8
abbrev pub units_bit : First → ℕ
units_bit first = first.fields.profile / 8 % 2

-- the next block stands after the meta data and its padding, with the header's data ending at `end`
abbrev pub EndsAfter : List ℕ → First → ℕ → Type 0
EndsAfter s first end = let size = little_endian 4 s 8 in first.next ≡ end + (size + padding size)

pub record HeaderStated (s : List ℕ) (first : First) : Type 0 where
  pub major_version : little_endian 2 s 12 ≡ 0
  pub minor_version : little_endian 2 s 14 ≡ first.fields.minor_version
  pub profile : little_endian 4 s 16 ≡ first.fields.profile
  pub declaration_size : little_endian 4 s 20 ≡ first.fields.declaration_size
  pub file_size : little_endian 8 s 24 ≡ first.fields.file_size
  pub encoding : little_endian 4 s 32 ≡ first.fields.encoding
  -- "Hand the factor out as its 64-bit pattern, 0 when absent"
  pub units : units_bit first ≡ 1 → little_endian 8 s 36 ≡ first.fields.units
  pub no_units : units_bit first ≡ 0 → first.fields.units ≡ 0
  -- "so the data is 32 bytes then and 24 otherwise"
  pub end_with_units : units_bit first ≡ 1 → EndsAfter s first 44
  pub end_without : units_bit first ≡ 0 → EndsAfter s first 36
  pub within : first.next ≤ length s
