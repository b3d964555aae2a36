-- A block's leading numbers and its parts (01, "Blocks"): "U32 type, data size, meta data size; data, zero bytes to a multiple of 4,
-- meta data, zero bytes likewise. Sizes exclude padding."
use Rattle.std.specs.Prelude.{ℕ, ◌+◌, ◌-◌, List, ltb}
use Rattle.fields.specs.Numbers.{truncated}
use Rattle.fields.specs.Judged.{Judged, done, on_done, refused_if}
use Rattle.fields.specs.Field.{field_at}
use Rattle.blocks.specs.Padding.{aligned_to, zeros_of, fine}
use Rattle.blocks.specs.declared.head.Head.{Head}
use Rattle.blocks.specs.declared.head.Extent.{Extent}

-- the bytes of the three numbers
abbrev pub head_size : ℕ
head_size = 12

-- where the second and the third of them stand, from the block's start
abbrev pub data_size_at : ℕ
data_size_at = 4

abbrev pub meta_size_at : ℕ
meta_size_at = 8

-- the three numbers at `at`
unfoldable pub head_at : List ℕ → ℕ → Judged Head
head_at s at =
    on_done (field_at 4 s at) λ block_type.
    on_done (field_at 4 s (at + data_size_at)) λ data_size.
    on_done (field_at 4 s (at + meta_size_at)) λ meta_size.
    done (record { block_type = block_type; data_size = data_size; meta_size = meta_size })

-- where the parts of the block at `at` end: data, its padding, meta data, its padding
unfoldable pub extent_of : ℕ → Head → Extent
extent_of at head = record {
  data_end = at + head_size + head.data_size;
  meta_at = at + head_size + aligned_to head.data_size;
  meta_end = at + head_size + aligned_to head.data_size + head.meta_size;
  next = at + head_size + aligned_to head.data_size + aligned_to head.meta_size;
}

-- "room for the rest (1)": the first part that passes the end of `len` bytes, at its start
unfoldable pub room_of : ℕ → ℕ → Extent → Judged (Unit {0})
room_of len at e =
    refused_if (ltb len e.data_end) truncated (at + head_size)
    (refused_if (ltb len e.meta_at) truncated e.data_end
    (refused_if (ltb len e.meta_end) truncated e.meta_at
    (refused_if (ltb len e.next) truncated e.meta_end fine)))

-- "paddings (5)": the data's, then the meta data's
unfoldable pub paddings_of : List ℕ → Extent → Judged (Unit {0})
paddings_of s e =
    on_done (zeros_of (e.meta_at - e.data_end) s e.data_end) λ _.
    zeros_of (e.next - e.meta_end) s e.meta_end
