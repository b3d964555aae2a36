-- The blocks of a whole file (01, "Blocks"): the header first, then the blocks at the top. "The block walk and the climb text judge 12
-- last".
use Rattle.std.specs.Prelude.{ℕ, List, [], ◌∷◌, false, length}
use Rattle.fields.specs.Judged.{Judged, done, on_done, room_for}
use Rattle.blocks.specs.Block.{levels}
use Rattle.blocks.specs.Header.{first_of}
use Rattle.blocks.specs.Walk.{Outcome, tells, on_judged, and_then, row_of, walk_of}
use Rattle.blocks.specs.Told.{row_words, line_of, all_of}
use Rattle.blocks.specs.declared.header.First.{First}
use Rattle.blocks.specs.declared.tell.Told.{Told}

-- the header's row, and then the blocks at the top to the file's end; each takes at least one byte, so there are at most as many as
-- bytes (proofs/Enough.antt: that bound plays no part)
unfoldable pub after_first : List ℕ → First → Outcome
after_first s first = and_then (tells (row_of 0 first.head 0 ∷ [])) (walk_of levels (length s) s first.next false)

-- what a whole file comes to
unfoldable pub file_of : List ℕ → Outcome
file_of s = on_judged (first_of s) λ first. after_first s first

-- the rows of a file as words of a table, and the number of blocks
unfoldable pub file_words : List ℕ → List ℕ
file_words s = all_of row_words (file_of s).rows

unfoldable pub walk_in : List ℕ → List ℕ → Judged ℕ
walk_in s table = on_done (file_of s).ending λ _. room_for (file_words s) table (length (file_of s).rows)

-- the rows of a file as lines of text, and the numbers of blocks and bytes
unfoldable pub file_lines : List ℕ → List ℕ
file_lines s = all_of line_of (file_of s).rows

unfoldable pub lines_of : List ℕ → Judged Told
lines_of s = on_done (file_of s).ending λ _. done (record { blocks = length (file_of s).rows; bytes = length (file_lines s) })

unfoldable pub lines_in : List ℕ → List ℕ → Judged Told
lines_in s text = on_done (lines_of s) λ told. room_for (file_lines s) text told
