-- Parts of the caller's bytes, handed out for every offset (01: "A name is handed out as a part of the caller's bytes"): a block's
-- data, its meta data, a chain's name. Each has bounds, or a number and a place; the empty part stands where the bounds are refused.
use Rattle.std.specs.Prelude.{ℕ, ◌+◌, ◌-◌, not, List, eqb, ltb, length, take}
use Rattle.fields.specs.Numbers.{truncated, over_limit, out_of_order}
use Rattle.fields.specs.Limits.{largest_file}
use Rattle.fields.specs.Judged.{Judged, done, on_done, refused_if}
use Rattle.fields.specs.Bounds.{part_of}
use Rattle.fields.specs.Name.{name_bounds}
use Rattle.fields.specs.declared.bounds.Bounds.{Bounds}
use Rattle.blocks.specs.Kind.{chain_type}
use Rattle.blocks.specs.Head.{head_size, head_at, extent_of}
use Rattle.blocks.specs.Chain.{in_chain}
use Rattle.blocks.specs.declared.head.Head.{Head}

-- the leading numbers at `at` of a file
unfoldable pub head_in : List ℕ → ℕ → Judged Head
head_in s at = refused_if (ltb largest_file (length s)) over_limit 0 (head_at s at)

-- so many bytes from an offset on; 1 at their start where they pass the end
unfoldable pub within : List ℕ → ℕ → ℕ → Judged Bounds
within s at size = refused_if (ltb (length s) (at + size)) truncated at (done (record { at = at; size = size }))

-- the data of the block at `at` with those leading numbers
abbrev pub data_within : List ℕ → ℕ → Head → Judged Bounds
data_within s at head = within s (at + head_size) head.data_size

-- its meta data, after the data and their padding
unfoldable pub meta_within : List ℕ → ℕ → Head → Judged Bounds
meta_within s at head =
    let extent = extent_of at head in
    on_done (data_within s at head) λ _.
    on_done (within s extent.data_end (extent.meta_at - extent.data_end)) λ _.
    within s extent.meta_at head.meta_size

-- the name at the start of a chain's data, which ends where they do; a block that is no chain is 11
unfoldable pub chain_name_within : List ℕ → ℕ → Head → Judged Bounds
chain_name_within s at head =
    refused_if (not (eqb head.block_type chain_type)) out_of_order at
    (on_done (data_within s at head) λ content. in_chain (name_bounds (take (content.at + content.size) s) content.at))

-- where they stand in a file
unfoldable pub data_bounds : List ℕ → ℕ → Judged Bounds
data_bounds s at = on_done (head_in s at) λ head. data_within s at head

unfoldable pub meta_bounds : List ℕ → ℕ → Judged Bounds
meta_bounds s at = on_done (head_in s at) λ head. meta_within s at head

unfoldable pub chain_name_bounds : List ℕ → ℕ → Judged Bounds
chain_name_bounds s at = on_done (head_in s at) λ head. chain_name_within s at head

-- the bytes within
unfoldable pub data_part : List ℕ → ℕ → List ℕ
data_part s at = part_of s (data_bounds s at)

unfoldable pub meta_part : List ℕ → ℕ → List ℕ
meta_part s at = part_of s (meta_bounds s at)

unfoldable pub chain_name : List ℕ → ℕ → List ℕ
chain_name s at = part_of s (chain_name_bounds s at)
