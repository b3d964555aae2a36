-- The header of a file that is found states what is handed out of it.
use Prim.Native.Nat.{ℕ, ◌+◌, ◌%◌}
use mathlib.Core.List.{List}
use mathlib.Core.Path.{◌≡◌, sym, ◌∙◌}
use native.Mathlib.Omega.{arith}
use borrow.Author.Tests.{eq-eqb}
use Rattle.fields.specs.Judged.{done}
use Rattle.fields.proofs.Judging.{same_done}
use Rattle.blocks.specs.Head.{extent_of}
use Rattle.blocks.specs.Header.{has_units, data_size_of, units_of, first_of}
use Rattle.blocks.specs.declared.header.First.{First}
use Rattle.blocks.proofs.Files.{first_fits, first_judged}
use Rattle.blocks_theorems.specs.HeaderStated.{HeaderStated, EndsAfter, units_bit}
use Rattle.blocks_theorems.proofs.HeaderFound.{data_sized, header_found}
use Rattle.blocks_theorems.proofs.RowsStand.{field_number, first_stands}

module _ (s : List ℕ) (first : First) (e : first_of s ≡ done first) where
  -- the next block, by the data size
  ends_after : (size : ℕ) → data_size_of first.fields.profile ≡ size → size % 4 ≡ 0 → EndsAfter s first (12 + size)
  unfolding extent_of
  ends_after size h whole =
      let j = first_judged s first e in
      let row = first_stands s first e in
      j.next ∙ rw row.meta_size (omega (arith, data_sized s first e, h))

  -- What a file's header states is what is handed out of it, the units too, and the next block stands where it ends.
  pub header_stated : HeaderStated s first
  unfolding has_units data_size_of units_of
  header_stated =
      let h = header_found s first e in
      let profile = first.fields.profile in record {
        major_version = field_number 2 s 12 0 h.major;
        minor_version = field_number 2 s 14 _ h.minor;
        profile = field_number 4 s 16 _ h.profile;
        declaration_size = field_number 4 s 20 _ h.declaration_size;
        file_size = field_number 8 s 24 _ h.file_size;
        encoding = field_number 4 s 32 _ h.encoding;
        units = λ bit. field_number 8 s 36 _ (rw (eq-eqb (units_bit first) 1 bit) at h.units);
        no_units = λ bit. sym (same_done (rw bit at h.units));
        end_with_units = λ bit. ends_after 32 (rw bit) (omega arith);
        end_without = λ bit. ends_after 24 (rw bit) (omega arith);
        within = (first_fits s first e).ends;
      }
