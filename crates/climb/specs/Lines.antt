-- The lines of a climb text (01, "Climbing": "fields parted by one tab, each line ended by one line feed"). What is refused in a line is 13 at
-- the line's number.
use Rattle.std.specs.Prelude.{ℕ, Bool, true, false, ◌&&◌, not, List, [], ◌∷◌, eqb, leb}
use Rattle.fields.specs.Numbers.{bad_steps}
use Rattle.fields.specs.Judged.{Judged, done, on_done, pick, refused_if}
use Rattle.fields.specs.Name.{same}
use Rattle.climb.specs.Digits.{is_decimal, is_pattern, value_of}

abbrev pub tab : ℕ
tab = 9

abbrev pub line_feed : ℕ
line_feed = 10

-- the bytes up to the first such byte; all of them where there is none
unfoldable pub until : ℕ → List ℕ → List ℕ
until stop [] = []
until stop (b ∷ more) = pick (eqb b stop) [] (b ∷ until stop more)

-- the bytes past the first such byte; none where there is none
unfoldable pub past : ℕ → List ℕ → List ℕ
past stop [] = []
past stop (b ∷ more) = pick (eqb b stop) more (past stop more)

-- whether there is such a byte
unfoldable pub has : ℕ → List ℕ → Bool
has stop [] = false
has stop (b ∷ more) = pick (eqb b stop) true (has stop more)

-- ---- fields

-- a decimal from least to most, or a bit pattern
pub data Rule : Type 0 where
  decimal : ℕ → ℕ → Rule
  pattern : Rule

-- the number of a field, in that line
unfoldable pub field_of : ℕ → Rule → List ℕ → Judged ℕ
field_of line (decimal least most) field =
    refused_if (not (is_decimal field && leb least (value_of 10 field) && leb (value_of 10 field) most)) bad_steps line (done (value_of 10 field))
field_of line pattern field = refused_if (not (is_pattern field)) bad_steps line (done (value_of 16 field))

-- the numbers of the fields after the first of `fields`, a rule for each, and no field after them
unfoldable pub fields_after : ℕ → List Rule → List ℕ → Judged (List ℕ)
fields_after line [] fields = refused_if (has tab fields) bad_steps line (done [])
fields_after line (rule ∷ rules) fields =
    refused_if (not (has tab fields)) bad_steps line
    (on_done (field_of line rule (until tab (past tab fields))) λ value.
    on_done (fields_after line rules (past tab fields)) λ values.
    done (value ∷ values))

-- ---- lines

-- a line's first field, and the rules of the others
pub record Form : Type 0 where
  pub word : List ℕ
  pub rules : List Rule

-- the text goes on with a line of that first field
abbrev pub starts_with : List ℕ → List ℕ → Bool
starts_with word text = same (until tab (until line_feed text)) word

-- the numbers of a line, and the text after it
pub record Row : Type 0 where
  pub values : List ℕ
  pub rest : List ℕ

-- the line of that form that the text goes on with; "a missing line's number" is the line that is not there or not ended
unfoldable pub row_from : Form → ℕ → List ℕ → Judged Row
row_from form line text =
    refused_if (not (has line_feed text)) bad_steps line
    (refused_if (not (starts_with form.word text)) bad_steps line
    (on_done (fields_after line form.rules (until line_feed text)) λ values.
    done (record { values = values; rest = past line_feed text })))
