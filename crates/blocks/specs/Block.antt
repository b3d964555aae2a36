-- A block judged up to its contents (01, "Blocks"): "Judged in this order: the 12 bytes, type (6), order and place (11), depth (7),
-- room for the rest (1), chain contents, paddings (5)." `remaining` chains may still be entered: all four at the top.
use Rattle.std.specs.Prelude.{ℕ, ◌+◌, List, Bool, eqb, ltb, length, take}
use Rattle.fields.specs.Numbers.{unknown_type, out_of_order, bad_chain, over_limit}
use Rattle.fields.specs.Limits.{largest_file}
use Rattle.fields.specs.Judged.{Judged, done, refused, on_done, refused_if, pick}
use Rattle.blocks.specs.Kind.{chain_type, kind_of, is_chain}
use Rattle.blocks.specs.Head.{head_size, head_at, extent_of, room_of}
use Rattle.blocks.specs.Chain.{in_chain, chain_at}
use Rattle.blocks.specs.declared.kind.Kind.{Kind}
use Rattle.blocks.specs.declared.kind.Kind.TheVariants.{Header, Declaration, Continuation, Unknown}
use Rattle.blocks.specs.declared.head.Head.{Head}
use Rattle.blocks.specs.declared.head.Extent.{Extent}
use Rattle.blocks.specs.declared.chain.Run.{Run}
use Rattle.blocks.specs.declared.block.Block.{Block}

-- "four levels at most"
abbrev pub levels : ℕ
levels = 4

-- the number for a block that may not stand where it does, or 0. A header "met again, anywhere, is 11"; at the top
-- "declarations, then continuations. Inside a chain only declarations stand."
unfoldable pub standing_of : Kind → ℕ → Bool → ℕ
standing_of Unknown remaining continued = unknown_type
standing_of Header remaining continued = out_of_order
standing_of (Continuation block_type) remaining continued = pick (eqb remaining levels) 0 out_of_order
standing_of (Declaration block_type) remaining continued =
    pick continued out_of_order (pick (eqb block_type chain_type) (pick (eqb remaining 0) bad_chain 0) 0)

abbrev pub block_of : Kind → Head → Extent → Run → Block
block_of kind head extent contents = record { kind = kind; head = head; extent = extent; contents = contents }

-- the block with its contents: those of a chain are read from the bytes up to its end, and no other block has any
unfoldable pub contents_at : List ℕ → ℕ → Kind → Head → Extent → Judged Block
contents_at s at kind head extent =
    pick (is_chain kind)
    (on_done (in_chain (chain_at (take extent.data_end s) (at + head_size))) λ run. done (block_of kind head extent run))
    (done (block_of kind head extent (record { at = extent.data_end; count = 0 })))

-- the block with those leading numbers
unfoldable pub judged_at : List ℕ → ℕ → Head → ℕ → Bool → Judged Block
judged_at s at head remaining continued =
    let kind = kind_of head.block_type in
    let extent = extent_of at head in
    pick (eqb (standing_of kind remaining continued) 0)
    (on_done (room_of (length s) at extent) λ _. contents_at s at kind head extent)
    (refused (standing_of kind remaining continued) at)

-- the block at `at`; `continued` says that a continuation stands before it
unfoldable pub block_at : List ℕ → ℕ → ℕ → Bool → Judged Block
block_at s at remaining continued = on_done (head_at s at) λ head. judged_at s at head remaining continued

-- the same for a caller that lends any bytes; with more than four chains to enter "chains deeper than 4" could follow
unfoldable pub block_in : List ℕ → ℕ → ℕ → Bool → Judged Block
block_in s at remaining continued =
    refused_if (ltb largest_file (length s)) over_limit 0
    (refused_if (ltb levels remaining) bad_chain at
    (pick (eqb remaining levels) (block_at s at remaining continued) (in_chain (block_at s at remaining continued))))
