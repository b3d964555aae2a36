-- What a row says of a file (01, "Blocks": "U32 type, data size, meta data size; data, zero bytes to a multiple of 4, meta data").
use Rattle.std.specs.Prelude.{ℕ, ◌+◌, ◌-◌, ◌%◌, ◌≤◌, List, [], ◌∷◌, ◌≡◌, drop, length, take}
use Rattle.fields.specs.Judged.{done}
use Rattle.fields.specs.Field.{little_endian}
use Rattle.blocks.specs.Parts.{data_bounds, meta_bounds, data_part, meta_part}
use Rattle.blocks.specs.declared.tell.Row.{Row}

-- "zero bytes to a multiple of 4": so many after a part of that size
abbrev pub padding : ℕ → ℕ
padding size = (4 - size % 4) % 4

-- where a row's data and meta data start
abbrev pub data_at : Row → ℕ
data_at row = row.offset + 12

abbrev pub meta_at : Row → ℕ
meta_at row = data_at row + row.data_size + padding row.data_size

-- the row's numbers stand at its offset, and its data and meta data lie within the file
pub record Stands (s : List ℕ) (row : Row) : Type 0 where
  pub block_type : little_endian 4 s row.offset ≡ row.block_type
  pub data_size : little_endian 4 s (row.offset + 4) ≡ row.data_size
  pub meta_size : little_endian 4 s (row.offset + 8) ≡ row.meta_size
  pub ends : meta_at row + row.meta_size ≤ length s

-- the parts found and handed out at a row's offset are just the bytes that the row names
pub record Parted (s : List ℕ) (row : Row) : Type 0 where
  pub bounds_of_data : data_bounds s row.offset ≡ done (record { at = data_at row; size = row.data_size })
  pub part_of_data : data_part s row.offset ≡ take row.data_size (drop (data_at row) s)
  pub data_length : length (data_part s row.offset) ≡ row.data_size
  pub bounds_of_meta : meta_bounds s row.offset ≡ done (record { at = meta_at row; size = row.meta_size })
  pub part_of_meta : meta_part s row.offset ≡ take row.meta_size (drop (meta_at row) s)
  pub meta_length : length (meta_part s row.offset) ≡ row.meta_size

-- what holds of each row
unfoldable pub Each : (Row → Type 0) → List Row → Type 0
Each p [] = Unit {0}
Each p (row ∷ rows) = p row × Each p rows
