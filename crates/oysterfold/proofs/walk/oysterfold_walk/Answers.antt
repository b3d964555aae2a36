-- The result's length, and then the walk, decide.
use mathlib.Core.Path.{sym}
use Rattle.fields.specs.Judged.{buffer_after}
use Rattle.blocks.specs.File.{file_words, walk_in}
use Rattle.oysterfold.proofs.Results.{handed, too_short}
use Rattle.oysterfold.proofs.walk.oysterfold_walk.Goals as goal

pub returns-then-res-lt-RESULT_WORDS : goal.returns-then-res-lt-RESULT_WORDS
returns-then-res-lt-RESULT_WORDS c =
    let a = c.args in
    let j = walk_in a.file.now a.rows.now in
    let both = too_short j j (λ k. buffer_after k (file_words a.file.now) a.rows.now) a.res.now c.if-res-lt-RESULT_WORDS.true in record { value = both.0; rows_after = both.1.0; res_after = both.1.1 }

pub returns : goal.returns
returns c =
    let a = c.args in
    let j = walk_in a.file.now a.rows.now in
    let both = handed j j (λ k. buffer_after k (file_words a.file.now) a.rows.now) a.res.now c.if-res-lt-RESULT_WORDS.false _
    (sym c.walk_blocks.ensures.result_value) c.walk_blocks.ensures.table_after c.tell.ensures.value c.tell.ensures.res_after in record { value = both.0; rows_after = both.1.0; res_after = both.1.1 }
