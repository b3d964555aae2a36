-- Something that is too short, or the walk from the present counts.
use Rattle.oysterfold.proofs.WalkAnswers.{no_counts, no_result, walk_told}
use Rattle.oysterfold.proofs.requests.oysterfold_steps.Goals as goal

pub returns-then-res-lt-RESULT_WORDS : goal.returns-then-res-lt-RESULT_WORDS
returns-then-res-lt-RESULT_WORDS c =
    let a = c.args in
    no_result a.list.now a.shadings a.requests.now a.faces.now a.positions.now a.counts.now a.res.now c.if-res-lt-RESULT_WORDS.true

pub returns-then-counts-lt-COUNT_WORDS : goal.returns-then-counts-lt-COUNT_WORDS
returns-then-counts-lt-COUNT_WORDS c =
    let a = c.args in
    no_counts a.list.now a.shadings a.requests.now a.faces.now a.positions.now a.counts.now a.res.now c.if-res-lt-RESULT_WORDS.false c.if-counts-lt-COUNT_WORDS.true
    c.put_words.ensures

pub returns : goal.returns
returns c =
    let a = c.args in
    walk_told a.list.now a.shadings a.requests.now a.faces.now a.positions.now a.counts.now a.res.now c.if-res-lt-RESULT_WORDS.false c.if-counts-lt-COUNT_WORDS.false
    c.counts_in.result c.step_all-progress.result c.counts_in.ensures (rw c.from-start.ensures at c.step_all-progress.ensures) c.put_counts.ensures c.put_words-2.ensures
