-- The rules can be met: a file in metres (a units scaling factor of 1.0) with chains four levels deep, a declaration in the innermost and one after them, and a continuation.
use mathlib.Core.List.{[], ◌∷◌, map}
use mathlib.Core.Logic.{inl, inr}
use mathlib.Core.Path.{◌≡◌, refl}
use native.Mathlib.Omega.{arith}
use Rattle.blocks.specs.Walk.{tells}
use Rattle.blocks.specs.File.{file_of}
use Rattle.fields_theorems.specs.Encoding.{number_bytes, name_bytes, word_bytes}
use Rattle.blocks_theorems.specs.Layout.{Blocks, none, block, chain, scaled, File, Lawful, Declarations, Continuations, OneOf, plain_declarations, block_bytes, blocks_bytes}
use Rattle.blocks_theorems.specs.Layout.{chain_fields, count_of, file_bytes, with_padding, rows_laid, rows_of}
use Rattle.blocks.specs.declared.tell.Row.{Row}
use Rattle.blocks_theorems.proofs.FileWalked.{tree_walked}

abbrev deepest : Blocks
deepest = block 0xFFFFFF31 (7 ∷ []) [] none

pub sample : File
sample = record {
  minor = 0;
  profile = 8;
  declaration_size = 44;
  encoding = 106;
  units = scaled 0x3FF0000000000000;
  meta = 1 ∷ 2 ∷ 3 ∷ [];
  declarations = chain (65 ∷ []) 0 (chain [] 1 (chain [] 2 (chain (66 ∷ 67 ∷ []) 0 deepest [] none) [] none) [] none) (9 ∷ [])
      (block 0xFFFFFF12 [] [] none);
  continuations = block 0xFFFFFF3B (1 ∷ 2 ∷ 3 ∷ 4 ∷ []) [] none;
}

pub lawful : Lawful sample
unfolding sample Declarations Continuations block_bytes blocks_bytes chain_fields count_of with_padding number_bytes name_bytes word_bytes
lawful =
    let mesh : OneOf 0xFFFFFF31 plain_declarations = inr (inr (inr (inr (inr (inr (inl refl)))))) in
    record {
      minor = omega arith;
      profile = inl refl;
      declaration_size = omega arith;
      encoding = omega arith;
      units = omega arith;
      declarations =
          (omega arith, omega arith, (omega arith, omega arith, (omega arith, omega arith, (omega arith, omega arith, (mesh, tt), tt), tt), tt), (inl refl, tt));
      continuations = (inr (inl refl), tt);
      small = omega arith;
    }

-- it is walked to the end, with eight rows
pub sample_walked : (file_of (file_bytes sample) ≡ tells (rows_of sample))
    × (map (λ (r : Row). r.depth) (rows_of sample) ≡ 0 ∷ 0 ∷ 1 ∷ 2 ∷ 3 ∷ 4 ∷ 0 ∷ 0 ∷ [])
unfolding rows_of rows_laid sample
sample_walked = (tree_walked sample lawful, refl)
