-- The walk over a sequence of blocks (01, "Blocks", and the listing of "Examples on each side").
use Rattle.std.specs.Prelude.{ℕ, zero, suc, ◌-◌, List, [], ◌∷◌, ◌++◌, Bool, false, eqb, length, take}
use Rattle.fields.specs.Numbers.{bad_chain}
use Rattle.fields.specs.Judged.{Judged, done, refused, pick}
use Rattle.blocks.specs.Padding.{fine}
use Rattle.blocks.specs.Kind.{is_chain, is_continuation}
use Rattle.blocks.specs.Head.{paddings_of}
use Rattle.blocks.specs.Chain.{in_chain}
use Rattle.blocks.specs.Block.{levels, block_at}
use Rattle.blocks.specs.declared.head.Head.{Head}
use Rattle.blocks.specs.declared.block.Block.{Block}
use Rattle.blocks.specs.declared.tell.Row.{Row}

-- a block's row: its offset, type, data size, meta data size and depth
abbrev pub row_of : ℕ → Head → ℕ → Row
row_of at head depth = record {
  offset = at;
  block_type = head.block_type;
  data_size = head.data_size;
  meta_size = head.meta_size;
  depth = depth;
}

-- what a walk comes to: how it ended, and the rows told on the way
pub record Outcome : Type 0 where
  pub ending : Judged (Unit {0})
  pub rows : List Row

abbrev pub tells : List Row → Outcome
tells rows = record { ending = fine; rows = rows }

abbrev pub ends : Judged (Unit {0}) → Outcome
ends ending = record { ending = ending; rows = [] }

-- the first part, and where it is done the second
abbrev pub joined : Judged (Unit {0}) → List Row → Outcome → Outcome
joined (done _) rows o = record { ending = o.ending; rows = rows ++ o.rows }
joined (refused n p) rows o = record { ending = refused n p; rows = rows }

unfoldable pub and_then : Outcome → Outcome → Outcome
and_then first second = joined first.ending first.rows second

-- what follows from a value that was judged
abbrev pub on_judged : {A : Type 0} → Judged A → (A → Outcome) → Outcome
on_judged (done a) next = next a
on_judged (refused n p) next = ends (refused n p)

-- at the top the blocks end with the bytes
unfoldable pub file_ends : ℕ → ℕ → ℕ → Bool
file_ends at len remaining = pick (eqb at len) (eqb remaining levels) false

-- `count` blocks one after the other, with `inside` for the contents of each: a block is told ("a chain before its contents"), its
-- contents are walked, its paddings are judged, and the next one follows; the last ends where the bytes end (else 7)
unfoldable pub blocks_of : (List ℕ → Block → Outcome) → ℕ → ℕ → List ℕ → ℕ → Bool → Outcome
blocks_of inside remaining zero s at continued = pick (eqb at (length s)) (tells []) (ends (refused bad_chain at))
blocks_of inside remaining (suc count) s at continued =
    pick (file_ends at (length s) remaining) (tells [])
    (on_judged (block_at s at remaining continued) λ b.
    and_then (tells (row_of at b.head (levels - remaining) ∷ []))
    (and_then (inside s b)
    (and_then (ends (paddings_of s b.extent))
    (blocks_of inside remaining count s b.extent.next (is_continuation b.kind)))))

abbrev pub in_chain_outcome : Outcome → Outcome
in_chain_outcome o = record { ending = in_chain o.ending; rows = o.rows }

-- the contents of a block: of a chain its blocks, with one level less, which end where the chain's data does; else nothing
unfoldable pub inside_of : ℕ → List ℕ → Block → Outcome
inside_of zero s b = tells []
inside_of (suc remaining) s b =
    pick (is_chain b.kind)
    (in_chain_outcome (blocks_of (inside_of remaining) remaining b.contents.count (take b.extent.data_end s) b.contents.at false))
    (tells [])

-- `count` blocks from `at` on, where `remaining` chains may be entered
abbrev pub walk_of : ℕ → ℕ → List ℕ → ℕ → Bool → Outcome
walk_of remaining = blocks_of (inside_of remaining) remaining
