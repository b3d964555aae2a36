-- A row that stands in a file names the parts that are handed out at its offset.
use Prim.Native.Nat.{ℕ, ◌+◌, ◌≤◌}
use mathlib.Core.List.{List}
use mathlib.Core.Path.{◌≡◌, refl, ap, ◌∙◌}
use native.Mathlib.Omega.{arith}
use borrow.Author.Tests.{le-ltb}
use lib.ListN.{drop, length, take}
use Rattle.fields.specs.Limits.{largest_file}
use Rattle.fields.specs.Judged.{Judged, done, refused}
use Rattle.fields.specs.Field.{field_at}
use Rattle.blocks.specs.Head.{head_at, extent_of}
use Rattle.blocks.specs.Parts.{head_in, meta_bounds, data_part, meta_part}
use Rattle.blocks.specs.Walk.{on_judged}
use Rattle.blocks.specs.File.{after_first, file_of}
use Rattle.blocks.specs.Header.{first_of}
use Rattle.blocks.specs.declared.head.Head.{Head}
use Rattle.blocks.specs.declared.header.First.{First}
use Rattle.blocks.specs.declared.tell.Row.{Row}
use Rattle.blocks.proofs.Files.{first_fits}
use Rattle.blocks_theorems.specs.RowParts.{Stands, Parted, Each, data_at, meta_at}
use Rattle.blocks_theorems.proofs.PartsFound.{bytes_length, bytes_taken}
use Rattle.blocks_theorems.proofs.Bounded.{data_bounded, meta_bounded}
use Rattle.blocks_theorems.proofs.RowsStand.{each_map, rows_stand}

module _ (s : List ℕ) (row : Row) (small : length s ≤ largest_file) (h : Stands s row) where
  -- the leading numbers that the row names
  head_of : Head
  head_of = record { block_type = row.block_type; data_size = row.data_size; meta_size = row.meta_size }

  head_there : head_in s row.offset ≡ done head_of
  unfolding head_in head_at field_at head_of
  head_there =
      let at = row.offset in
      let w = h.ends in
      rw (
        le-ltb largest_file (length s) small,
        le-ltb (length s) (at + 4) (omega arith),
        le-ltb (length s) (at + 4 + 4) (omega arith),
        le-ltb (length s) (at + 8 + 4) (omega arith),
        h.block_type,
        h.data_size,
        h.meta_size,
      )

  row_parted : Parted s row
  unfolding data_part meta_part extent_of head_of
  row_parted =
      let data-room : data_at row + row.data_size ≤ length s = omega (arith, h.ends) in
      let aligned : (extent_of row.offset head_of).meta_at ≡ meta_at row = omega arith in
      let meta-room : (extent_of row.offset head_of).meta_at + row.meta_size ≤ length s = omega (arith, h.ends) in
      let data-found = data_bounded s row.offset head_of head_there data-room in
      let meta-found : meta_bounds s row.offset ≡ done (record { at = meta_at row; size = row.meta_size })
      = rw (← aligned) (meta_bounded s row.offset head_of head_there meta-room) in
      let data-there : data_part s row.offset ≡ take row.data_size (drop (data_at row) s) = rw data-found (bytes_taken s (data_at row) row.data_size data-room) in
      let meta-there : meta_part s row.offset ≡ take row.meta_size (drop (meta_at row) s) = rw meta-found (bytes_taken s (meta_at row) row.meta_size h.ends) in
      record {
        bounds_of_data = data-found;
        part_of_data = data-there;
        data_length = ap length data-there ∙ bytes_length s (data_at row) row.data_size data-room;
        bounds_of_meta = meta-found;
        part_of_meta = meta-there;
        meta_length = ap length meta-there ∙ bytes_length s (meta_at row) row.meta_size h.ends;
      }

-- The parts handed out at the offset of any row told of a file are just the bytes that the row names.
pub rows_parted : (s : List ℕ) → Each (Parted s) (file_of s).rows
unfolding file_of Each
rows_parted s = by (first_of s) refl (rows_stand s)
  where
    by : (j : Judged First) → first_of s ≡ j → Each (Stands s) (on_judged (first_of s) (λ first. after_first s first)).rows
        → Each (Parted s) (on_judged (first_of s) (λ first. after_first s first)).rows
    by (done first) e h = each_map (on_judged (first_of s) (λ first. after_first s first)).rows (λ row h. row_parted s row (first_fits s first e).small h) h
    by (refused n p) e h = rw e tt
