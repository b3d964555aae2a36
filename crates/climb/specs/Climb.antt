-- The climb text (01, "Climbing"), read into a table of U32: "base positions, base faces, step count, then per step: split, x, y, z, m, n,
-- m pairs, n fours, and nothing after".
use Rattle.std.specs.Prelude.{ℕ, zero, suc, Bool, true, false, not, List, [], ◌∷◌, ◌++◌, drop, length}
use Rattle.fields.specs.Limits.{any_number, largest_count, most_steps, most_moves, most_new_faces}
use Rattle.fields.specs.Numbers.{bad_steps}
use Rattle.fields.specs.Judged.{Judged, done, refused, on_done, pick, refused_if, room_for}
use Rattle.climb.specs.Lines.{Form, Rule, decimal, pattern, row_from, starts_with}

-- ---- the forms of the lines

abbrev pub any_decimal : Rule
any_decimal = decimal 0 any_number

abbrev pub count_rule : Rule
count_rule = decimal 0 largest_count

-- "Header: version 1, base positions, base faces", after the word climb
abbrev pub head_form : Form
head_form = record { word = 0x63 ∷ 0x6C ∷ 0x69 ∷ 0x6D ∷ 0x62 ∷ []; rules = decimal 1 1 ∷ count_rule ∷ count_rule ∷ [] }

-- "Split: position, x, y, z", after the word split
abbrev pub split_form : Form
split_form = record { word = 0x73 ∷ 0x70 ∷ 0x6C ∷ 0x69 ∷ 0x74 ∷ []; rules = any_decimal ∷ pattern ∷ pattern ∷ pattern ∷ [] }

-- "moves (face, corner)", "corners 0 to 2", after the word move
abbrev pub move_form : Form
move_form = record { word = 0x6D ∷ 0x6F ∷ 0x76 ∷ 0x65 ∷ []; rules = any_decimal ∷ decimal 0 2 ∷ [] }

-- "new faces (shading, three positions)", after the word face
abbrev pub face_form : Form
face_form = record { word = 0x66 ∷ 0x61 ∷ 0x63 ∷ 0x65 ∷ []; rules = any_decimal ∷ any_decimal ∷ any_decimal ∷ any_decimal ∷ [] }

-- "End: step count", after the word end
abbrev pub end_form : ℕ → Form
end_form steps = record { word = 0x65 ∷ 0x6E ∷ 0x64 ∷ []; rules = decimal steps steps ∷ [] }

-- ---- rows, steps, the whole text

-- so many rows or steps, their words, the next line's number, and the text after them
pub record Taken : Type 0 where
  pub count : ℕ
  pub words : List ℕ
  pub line : ℕ
  pub rest : List ℕ

abbrev pub none_taken : ℕ → List ℕ → Taken
none_taken line text = record { count = 0; words = []; line = line; rest = text }

-- the rows or steps that come next, at most so many: each begins with that word and is read by `item`; one more is refused at its line
unfoldable pub items_from : List ℕ → (ℕ → List ℕ → Judged Taken) → ℕ → ℕ → List ℕ → Judged Taken
items_from word item zero line text = refused_if (starts_with word text) bad_steps line (done (none_taken line text))
items_from word item (suc left) line text =
    pick (not (starts_with word text)) (done (none_taken line text))
    (on_done (item line text) λ first.
    on_done (items_from word item left first.line first.rest) λ more.
    done (record { count = suc more.count; words = first.words ++ more.words; line = more.line; rest = more.rest }))

-- a line of that form, as one row
abbrev pub row_taken : Form → ℕ → List ℕ → Judged Taken
row_taken form line text =
    on_done (row_from form line text) λ row.
    done (record { count = 1; words = row.values; line = suc line; rest = row.rest })

-- the lines of that form that come next, at most so many
abbrev pub rows_from : Form → ℕ → ℕ → List ℕ → Judged Taken
rows_from form = items_from form.word (row_taken form)

-- a step: its split, "then its moves .., then its new faces"
unfoldable pub step_from : ℕ → List ℕ → Judged Taken
step_from line text =
    on_done (row_from split_form line text) λ split.
    on_done (rows_from move_form most_moves (suc line) split.rest) λ moves.
    on_done (rows_from face_form most_new_faces moves.line moves.rest) λ faces.
    done (record {
      count = 1;
      words = split.values ++ (moves.count ∷ faces.count ∷ (moves.words ++ faces.words));
      line = faces.line;
      rest = faces.rest;
    })

-- the steps that come next, at most so many
abbrev pub steps_from : ℕ → ℕ → List ℕ → Judged Taken
steps_from = items_from split_form.word step_from

abbrev pub is_empty : List ℕ → Bool
is_empty [] = true
is_empty (b ∷ more) = false

-- the words of the step table; lines are counted from 1
unfoldable pub climb_of : List ℕ → Judged (List ℕ)
climb_of text =
    on_done (row_from head_form 1 text) λ head.
    on_done (steps_from most_steps 2 head.rest) λ steps.
    on_done (row_from (end_form steps.count) steps.line steps.rest) λ last.
    refused_if (not (is_empty last.rest)) bad_steps (suc steps.line)
    (done (drop 1 head.values ++ (steps.count ∷ steps.words)))

-- ---- the answer, and the caller's table

-- "the block walk and the climb text judge 12 last"
unfoldable pub climb_in : List ℕ → List ℕ → Judged (List ℕ)
climb_in text table = on_done (climb_of text) λ words. room_for words table words

-- how many words are written
abbrev pub word_count : Judged (List ℕ) → Judged ℕ
word_count judged = on_done judged λ words. done (length words)

-- "Words past it are untouched"; a refusal leaves the table
abbrev pub table_after : Judged (List ℕ) → List ℕ → List ℕ
table_after (done words) table = words ++ drop (length words) table
table_after (refused n p) table = table
