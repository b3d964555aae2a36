-- The bound on the number of blocks at the top plays no part: any bound that the bytes cannot pass gives the same walk, since each
-- block ends after its start and within the bytes. Assumes nothing.
use mathlib.Core.Path.{◌≡◌, refl}
use mathlib.Core.Bool.{Bool}
use mathlib.Core.List.{List}
use Prim.Native.Nat.{ℕ, zero, suc, ◌+◌, ◌<◌, ◌≤◌}
use native.Mathlib.Omega.{arith}
use borrow.Author.Tests.{eq-eqb}
use lib.ListN.{length}
use Rattle.fields.specs.Judged.{Judged, done, refused}
use Rattle.blocks.specs.Kind.{is_continuation}
use Rattle.blocks.specs.Block.{levels, block_at}
use Rattle.blocks.specs.Walk.{file_ends, blocks_of, walk_of}
use Rattle.blocks.specs.declared.block.Block.{Block}
use Rattle.blocks.proofs.Fits.{block_fits}

module _ (s : List ℕ) (remaining n m at : ℕ) (continued : Bool)
    (later : (at' : ℕ) (continued' : Bool) → at < at' → at' ≤ length s → walk_of remaining n s at' continued' ≡ walk_of remaining m s at' continued') where
  one_block : (j : Judged Block) → block_at s at remaining continued ≡ j → walk_of remaining (suc n) s at continued ≡ walk_of remaining (suc m) s at continued
  unfolding blocks_of
  one_block (refused k p) q = rw q
  one_block (done b) q =
      let f = block_fits s at remaining continued b q in
      let after : at < b.extent.next = omega (arith, f.starts, f.inside, f.data_padding, f.meta_data, f.meta_padding) in
      rw (q, later b.extent.next (is_continuation b.kind) after f.ends)

-- at the top any two bounds that the bytes cannot pass give the same walk
pub enough : (s : List ℕ) (n m at : ℕ) (continued : Bool) → at ≤ length s → length s ≤ at + n → length s ≤ at + m
    → walk_of levels n s at continued ≡ walk_of levels m s at continued
unfolding blocks_of file_ends
enough s zero zero at continued a h k = refl
enough s zero (suc m) at continued a h k = rw (eq-eqb at (length s) (omega arith))
enough s (suc n) zero at continued a h k = rw (eq-eqb at (length s) (omega arith))
enough s (suc n) (suc m) at continued a h k =
    one_block s levels n m at continued (λ at' continued' l b. enough s n m at' continued' b (omega arith) (omega arith)) (block_at s at levels continued) refl
