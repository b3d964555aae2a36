-- The listing (01, "Examples on each side"): "listing version; offset, type in lower-case hex, data, meta, depth from 0, a chain
-- before its contents; number and block count; a refused file gives only first and last line, count 0".
use Rattle.std.specs.Prelude.{ℕ, List, [], ◌∷◌, ◌++◌, ltb, length}
use Rattle.fields.specs.Numbers.{over_limit}
use Rattle.fields.specs.Judged.{Judged, done, refused, refused_if, room_for, buffer_after}
use Rattle.text.specs.Digits.{decimal_field}
use Rattle.blocks.specs.Told.{tab, line_feed}
use Rattle.blocks.specs.File.{file_lines, lines_of}
use Rattle.blocks.specs.declared.tell.Told.{Told}

-- "blocks", a tab, "1" and a line feed
abbrev pub first_line : List ℕ
first_line = 0x62 ∷ 0x6c ∷ 0x6f ∷ 0x63 ∷ 0x6b ∷ 0x73 ∷ tab ∷ 0x31 ∷ line_feed ∷ []

-- "end" and a tab, the number, the block count
abbrev pub end_word : List ℕ
end_word = 0x65 ∷ 0x6e ∷ 0x64 ∷ tab ∷ []

unfoldable pub end_line : ℕ → ℕ → List ℕ
end_line number blocks = end_word ++ (decimal_field number tab ++ decimal_field blocks line_feed)

-- the blocks of a file of at most `limit` bytes: "the programs take files up to 64 KiB (else 9)"
unfoldable pub file_within : ℕ → List ℕ → Judged Told
file_within limit s = refused_if (ltb limit (length s)) over_limit 0 (lines_of s)

-- the listing of a file that was judged so and has those lines
unfoldable pub listing_with : Judged Told → List ℕ → List ℕ
listing_with (done told) lines = first_line ++ (lines ++ end_line 0 told.blocks)
listing_with (refused n p) lines = first_line ++ end_line n 0

-- the text of a file's listing
unfoldable pub listing_of : ℕ → List ℕ → List ℕ
listing_of limit s = listing_with (file_within limit s) (file_lines s)

-- the answer: so many bytes, or 12 where the buffer is too small
abbrev pub written : List ℕ → List ℕ → Judged ℕ
written result text = room_for result text (length result)

-- the buffer then
abbrev pub text_after : List ℕ → List ℕ → List ℕ
text_after result text = buffer_after (written result text) result text
