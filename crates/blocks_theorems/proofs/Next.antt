-- What follows a block that was found: its row, its contents, its paddings, and the blocks after it.
use Prim.Native.Nat.{ℕ, ◌-◌}
use mathlib.Core.List.{List, [], ◌∷◌}
use Rattle.blocks.specs.Kind.{is_continuation}
use Rattle.blocks.specs.Head.{paddings_of}
use Rattle.blocks.specs.Block.{levels}
use Rattle.blocks.specs.Walk.{Outcome, tells, ends, and_then, row_of, blocks_of}
use Rattle.blocks.specs.declared.block.Block.{Block}

abbrev pub next_of : (List ℕ → Block → Outcome) → ℕ → ℕ → List ℕ → ℕ → Block → Outcome
next_of inside remaining count s at b =
    and_then (tells (row_of at b.head (levels - remaining) ∷ []))
    (and_then (inside s b) (and_then (ends (paddings_of s b.extent)) (blocks_of inside remaining count s b.extent.next (is_continuation b.kind))))
