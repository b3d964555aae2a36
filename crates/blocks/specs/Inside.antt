-- Inside the crate: what its private functions promise. No public promise cites this file.
use Rattle.std.specs.Prelude.{ℕ, ◌+◌, ◌*◌, ◌≤◌, List, [], Bool, false, eqb, length}
use Rattle.std.proofs.lemmas.List.Edits.{sets}
use Rattle.fields.specs.Numbers.{bad_chain}
use Rattle.fields.specs.Judged.{Judged, done, refused, on_done, pick}
use Rattle.blocks.specs.Padding.{fine}
use Rattle.blocks.specs.Walk.{Outcome, walk_of}
use Rattle.blocks.specs.Told.{row_width, row_words, line_of, all_of}
use Rattle.blocks.specs.File.{after_first, file_of}
use Rattle.blocks.specs.declared.chain.Run.{Run}
use Rattle.blocks.specs.declared.header.First.{First}
use Rattle.blocks.specs.declared.tell.Row.{Row}
use Rattle.blocks.specs.declared.tell.Told.{Told}

-- a block that may not stand where it does has a number
abbrev pub stands_at : ℕ → ℕ → Judged (Unit {0})
stands_at number at = pick (eqb number 0) fine (refused number at)

-- the text of a row, where lines are asked for
abbrev pub bytes_of : Bool → Row → List ℕ
bytes_of lines row = pick lines (line_of row) []

-- one block more is told
abbrev pub told_with : Bool → Told → Row → Told
told_with lines told row = record { blocks = told.blocks + 1; bytes = told.bytes + length (bytes_of lines row) }

-- what has been stored once the rows of an outcome are told: the words from the table's row `blocks` on, the text from `bytes` on,
-- each as far as there is room
pub record Stored : Type 0 where
  pub ending : Judged (Unit {0})
  pub table : List ℕ
  pub text : List ℕ
  pub told : Told

unfoldable pub stored : List ℕ → List ℕ → Told → Bool → Outcome → Stored
stored table text told lines o = record {
  ending = o.ending;
  table = sets table (told.blocks * row_width) (all_of row_words o.rows);
  text = sets text told.bytes (all_of (bytes_of lines) o.rows);
  told = record { blocks = told.blocks + length o.rows; bytes = told.bytes + length (all_of (bytes_of lines) o.rows) };
}

-- the answer to a walk
unfoldable pub answer_of : Stored → Judged Told
answer_of r = on_done r.ending λ _. done r.told

-- the answer where all blocks are walked
abbrev pub filled_of : ℕ → ℕ → Told → Judged Told
filled_of at len told = pick (eqb at len) (done told) (refused bad_chain at)

-- at most so much is told of so many bytes
abbrev pub ToldFits : ℕ → Judged Told → Type 0
ToldFits len (done told) = (told.blocks ≤ len) × (told.bytes ≤ 9 * len)
ToldFits len (refused n p) = Unit {0}

-- nothing told yet, and what a whole file tells
abbrev pub none_told : Told
none_told = record { blocks = 0; bytes = 0 }

unfoldable pub told_of : Bool → List ℕ → Judged Told
told_of lines s =
    on_done (file_of s).ending λ _.
    done (record { blocks = length (file_of s).rows; bytes = length (all_of (bytes_of lines) (file_of s).rows) })

-- what a walk, a file after its first block, and a whole file store
abbrev pub walk_stored : List ℕ → List ℕ → Told → Bool → List ℕ → Run → ℕ → Stored
walk_stored table text before lines s run remaining = stored table text before lines (walk_of remaining run.count s run.at false)

abbrev pub rest_stored : List ℕ → List ℕ → Bool → List ℕ → First → Stored
rest_stored table text lines s first = stored table text none_told lines (after_first s first)

abbrev pub file_stored : List ℕ → List ℕ → Bool → List ℕ → Stored
file_stored table text lines s = stored table text none_told lines (file_of s)
