-- Counts that are too short, or what `refine` promises.
use Rattle.progressive.specs.Steps.{refined}
use Rattle.oysterfold.proofs.Stepping.{short_counts, step_told}
use Rattle.oysterfold.proofs.steps.oysterfold_up.Goals as goal

pub returns-then-counts-lt-COUNT_WORDS : goal.returns-then-counts-lt-COUNT_WORDS
returns-then-counts-lt-COUNT_WORDS c = let a = c.args in short_counts (refined a.list.now a.shadings) a.faces.now a.positions.now a.counts.now c.if-counts-lt-COUNT_WORDS.true

pub returns : goal.returns
returns c =
    let a = c.args in
    step_told (refined a.list.now a.shadings) a.faces.now a.positions.now a.counts.now c.if-counts-lt-COUNT_WORDS.false c.refine-stepped.result _ _ _ c.answer.result
    (rw c.counts_in.ensures at c.refine-stepped.ensures) c.answer.ensures.0 c.answer.ensures.1
