-- The result's length, and then the climb text, decide.
use mathlib.Core.Path.{sym}
use Rattle.climb.specs.Climb.{climb_in, table_after, word_count}
use Rattle.oysterfold.proofs.Results.{handed, too_short}
use Rattle.oysterfold.proofs.climbs.oysterfold_read_climb.Goals as goal

pub returns-then-res-lt-RESULT_WORDS : goal.returns-then-res-lt-RESULT_WORDS
returns-then-res-lt-RESULT_WORDS c =
    let a = c.args in
    let j = climb_in a.text.now a.table.now in
    let both = too_short j (word_count j) (λ k. table_after k a.table.now) a.res.now c.if-res-lt-RESULT_WORDS.true in record { value = both.0; table_after = both.1.0; res_after = both.1.1 }

pub returns : goal.returns
returns c =
    let a = c.args in
    let j = climb_in a.text.now a.table.now in
    let both = handed j (word_count j) (λ k. table_after k a.table.now) a.res.now c.if-res-lt-RESULT_WORDS.false _
    (sym c.read_climb.ensures.result_value) c.read_climb.ensures.table_after c.tell.ensures.value c.tell.ensures.res_after in record { value = both.0; table_after = both.1.0; res_after = both.1.1 }
