-- How rows are told (01: "offset, type in lower-case hex, data, meta, depth from 0"): five words of a table each, or a line of text.
use Rattle.std.specs.Prelude.{ℕ, List, [], ◌∷◌, ◌++◌}
use Rattle.text.specs.Digits.{decimal_field, hex_field}
use Rattle.blocks.specs.declared.tell.Row.{Row}

abbrev pub row_width : ℕ
row_width = 5

abbrev pub row_words : Row → List ℕ
row_words row = row.offset ∷ row.block_type ∷ row.data_size ∷ row.meta_size ∷ row.depth ∷ []

abbrev pub tab : ℕ
tab = 9

abbrev pub line_feed : ℕ
line_feed = 10

-- "block" and a tab
abbrev pub block_word : List ℕ
block_word = 0x62 ∷ 0x6c ∷ 0x6f ∷ 0x63 ∷ 0x6b ∷ tab ∷ []

unfoldable pub line_of : Row → List ℕ
line_of row =
    block_word ++ decimal_field row.offset tab ++ hex_field row.block_type tab ++ decimal_field row.data_size tab
    ++ decimal_field row.meta_size tab ++ decimal_field row.depth line_feed

-- one after the other
unfoldable pub all_of : (Row → List ℕ) → List Row → List ℕ
all_of f [] = []
all_of f (row ∷ rows) = f row ++ all_of f rows
