-- A block's line: its length, and its fields stored one after the other. Assumes nothing.
use mathlib.Core.Path.{◌≡◌, ap, sym, ◌∙◌}
use mathlib.Core.Bool.{Bool, true, false}
use mathlib.Core.List.{List, ◌++◌, append_assoc}
use Prim.Native.Nat.{ℕ, ◌+◌, ◌≤◌}
use native.Mathlib.Omega.{arith}
use lib.ListN.{length, length-append}
use Rattle.text.specs.Digits.{decimal_field, hex_field}
use lib.Seq.{sets}
use Rattle.text.proofs.Stores.{stores_on}
use Rattle.text.proofs.Widths.{decimal_length, hex_length}
use Rattle.blocks.specs.Told.{line_of, block_word, tab, line_feed}
use Rattle.blocks.specs.Inside.{bytes_of}
use Rattle.blocks.specs.declared.tell.Row.{Row}

pub line_length : (row : Row) → length (line_of row) ≡ 6 + (length (decimal_field row.offset tab) + (length (hex_field row.block_type tab)
    + (length (decimal_field row.data_size tab) + (length (decimal_field row.meta_size tab) + length (decimal_field row.depth line_feed)))))
unfolding line_of
line_length row = simp length-append (omega arith)

-- the text of a block is at most 108 bytes
pub bytes_short : (lines : Bool) (row : Row) → length (bytes_of lines row) ≤ 108
bytes_short true row =
    omega (arith, line_length row, decimal_length row.offset tab, hex_length row.block_type tab, decimal_length row.data_size tab, decimal_length row.meta_size tab, decimal_length row.depth line_feed)
bytes_short false row = omega arith

module _ (row : Row) (at r₁ r₂ r₃ r₄ r₅ : ℕ) (t₀ t₁ t₂ t₃ t₄ t₅ t₆ : List ℕ) where
  pub line_stored : t₁ ≡ sets t₀ at block_word → r₁ ≡ 6
      → t₂ ≡ sets t₁ (at + r₁) (decimal_field row.offset tab) → r₂ ≡ length (decimal_field row.offset tab)
      → t₃ ≡ sets t₂ (at + r₁ + r₂) (hex_field row.block_type tab) → r₃ ≡ length (hex_field row.block_type tab)
      → t₄ ≡ sets t₃ (at + r₁ + r₂ + r₃) (decimal_field row.data_size tab) → r₄ ≡ length (decimal_field row.data_size tab)
      → t₅ ≡ sets t₄ (at + r₁ + r₂ + r₃ + r₄) (decimal_field row.meta_size tab) → r₅ ≡ length (decimal_field row.meta_size tab)
      → t₆ ≡ sets t₅ (at + r₁ + r₂ + r₃ + r₄ + r₅) (decimal_field row.depth line_feed)
      → t₆ ≡ sets t₀ at (line_of row)
  unfolding line_of
  line_stored e₁ l₁ e₂ l₂ e₃ l₃ e₄ l₄ e₅ l₅ e₆ =
      let f₅ = decimal_field row.meta_size tab ++ decimal_field row.depth line_feed in
      let f₄ = decimal_field row.data_size tab ++ f₅ in
      let f₃ = hex_field row.block_type tab ++ f₄ in
      let f₂ = decimal_field row.offset tab ++ f₃ in
      let all : line_of row ≡ block_word ++ f₂ = simp append_assoc in
      e₆ ∙ stores_on t₄ t₅ (at + r₁ + r₂ + r₃ + r₄) (decimal_field row.meta_size tab) (decimal_field row.depth line_feed) r₅ e₅ l₅
      ∙ stores_on t₃ t₄ (at + r₁ + r₂ + r₃) (decimal_field row.data_size tab) f₅ r₄ e₄ l₄
      ∙ stores_on t₂ t₃ (at + r₁ + r₂) (hex_field row.block_type tab) f₄ r₃ e₃ l₃
      ∙ stores_on t₁ t₂ (at + r₁) (decimal_field row.offset tab) f₃ r₂ e₂ l₂
      ∙ stores_on t₀ t₁ at block_word f₂ r₁ e₁ l₁ ∙ ap (λ (l : List ℕ). sets t₀ at l) (sym all)
