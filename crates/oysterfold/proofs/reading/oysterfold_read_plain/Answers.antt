-- A result or a state that is too short, or what the coder promises.
use borrow.Author.Tests.{le-ltb, lt-ltb}
use Rattle.oysterfold.specs.CoderState.{coder_in, coder_length, shorter}
use Rattle.oysterfold.specs.Reading.{take_bytes}
use Rattle.oysterfold.proofs.ReadAnswers.{no_result, read_short, read_told}
use Rattle.oysterfold.proofs.reading.oysterfold_read_plain.Goals as goal

pub returns-then-res-lt-RESULT_WORDS : goal.returns-then-res-lt-RESULT_WORDS
returns-then-res-lt-RESULT_WORDS c =
    let a = c.args in
    no_result (take_bytes a.bytes a.coded.now (coder_in a.state.now)) a.state.now a.res.now (shorter coder_length a.state.now) c.if-res-lt-RESULT_WORDS.true

pub returns-then-state-lt-CODER_WORDS : goal.returns-then-state-lt-CODER_WORDS
returns-then-state-lt-CODER_WORDS c =
    let a = c.args in
    read_short (take_bytes a.bytes a.coded.now (coder_in a.state.now)) a.state.now a.res.now c.if-res-lt-RESULT_WORDS.false (lt-ltb _ _ c.if-state-lt-CODER_WORDS.true) c.unplaced.ensures.0 c.unplaced.ensures.1

pub returns : goal.returns
returns c =
    let a = c.args in
    read_told (take_bytes a.bytes a.coded.now (coder_in a.state.now)) a.state.now a.res.now c.if-res-lt-RESULT_WORDS.false (le-ltb _ _ c.if-state-lt-CODER_WORDS.false)
    (rw c.coder_in.ensures at c.read_plain-read.ensures) (c.answer.ensures (coder_in a.state.now))
