-- What a block that was found was judged by.
use Prim.Native.Nat.{ℕ, ◌+◌}
use mathlib.Core.Bool.{Bool, true, false, false≢true}
use mathlib.Core.List.{List}
use mathlib.Core.Path.{◌≡◌, ◌∙◌, refl, sym}
use borrow.Author.Tests.{eqb-true}
use lib.Dec.{eqb}
use lib.ListN.{length, take}
use Rattle.fields.specs.Judged.{done, on_done, pick}
use Rattle.fields.proofs.Judging.{same_done, value_before}
use Rattle.blocks.specs.Kind.{kind_of, is_chain}
use Rattle.blocks.specs.Head.{head_at, extent_of, room_of}
use Rattle.blocks.specs.Chain.{in_chain, chain_at}
use Rattle.blocks.specs.Block.{standing_of, block_of, contents_at, judged_at, block_at}
use Rattle.blocks.specs.declared.kind.Kind.{Kind}
use Rattle.blocks.specs.declared.head.Head.{Head}
use Rattle.blocks.specs.declared.block.Block.{Block}
use Rattle.blocks.proofs.Fits.{chosen, in_chain_done}

pub record Found (s : List ℕ) (at remaining : ℕ) (continued : Bool) (b : Block) : Type 0 where
  pub head : head_at s at ≡ done b.head
  pub kind : kind_of b.head.block_type ≡ b.kind
  pub stands : standing_of b.kind remaining continued ≡ 0
  pub extent : extent_of at b.head ≡ b.extent
  pub fields : is_chain b.kind ≡ true → chain_at (take b.extent.data_end s) (at + 12) ≡ done b.contents

module _ (s : List ℕ) (at remaining : ℕ) (continued : Bool) where
  contents_found : (head : Head) (kind : Kind) (b : Block) → head_at s at ≡ done head → kind_of head.block_type ≡ kind → standing_of kind remaining continued ≡ 0
      → contents_at s at kind head (extent_of at head) ≡ done b → Found s at remaining continued b
  unfolding contents_at
  contents_found head kind b h k z e = by (is_chain kind) refl e
    where
      by : (t : Bool) → is_chain kind ≡ t
          → pick t (on_done (in_chain (chain_at (take (extent_of at head).data_end s) (at + 12))) λ run. done (block_of kind head (extent_of at head) run))
          (done (block_of kind head (extent_of at head) (record { at = (extent_of at head).data_end; count = 0 }))) ≡ done b
          → Found s at remaining continued b
      by true c e =
          let q = value_before (in_chain (chain_at (take (extent_of at head).data_end s) (at + 12))) _ b e in
          let f = in_chain_done _ q.0 q.1 in
          rw (← same_done q.2) (record { head = h; kind = k; stands = z; extent = refl; fields = λ _. f })
      by false c e =
          rw (← same_done e) (record { head = h; kind = k; stands = z; extent = refl; fields = λ y. absurd (false≢true (sym c ∙ y)) })

  pub block_found : (b : Block) → block_at s at remaining continued ≡ done b → Found s at remaining continued b
  unfolding block_at judged_at
  block_found b e =
      let h = value_before (head_at s at) _ b e in
      let kind = kind_of h.0.block_type in
      let extent = extent_of at h.0 in
      let stands = chosen (eqb (standing_of kind remaining continued) 0) _ (standing_of kind remaining continued) at b h.2 in
      let room = value_before (room_of (length s) at extent) _ b stands.1 in
      contents_found h.0 kind b h.1 refl (eqb-true (standing_of kind remaining continued) 0 stands.0) room.2
