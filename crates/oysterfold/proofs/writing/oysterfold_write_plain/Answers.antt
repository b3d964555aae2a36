-- A state that is too short, or what the coder promises.
use borrow.Author.Tests.{le-ltb, lt-ltb}
use Rattle.oysterfold.specs.CoderState.{writer_in}
use Rattle.oysterfold.specs.Writing.{write_bytes}
use Rattle.oysterfold.proofs.WriteAnswers.{write_short, write_told}
use Rattle.oysterfold.proofs.writing.oysterfold_write_plain.Goals as goal

pub returns-then-state-lt-WRITER_WORDS : goal.returns-then-state-lt-WRITER_WORDS
returns-then-state-lt-WRITER_WORDS c =
    let a = c.args in
    write_short (write_bytes a.bytes a.buffer.now (writer_in a.state.now) a.value) a.state.now a.buffer.now (lt-ltb _ _ c.if-state-lt-WRITER_WORDS.true)

pub returns : goal.returns
returns c =
    let a = c.args in
    write_told (write_bytes a.bytes a.buffer.now (writer_in a.state.now) a.value) a.state.now a.buffer.now (le-ltb _ _ c.if-state-lt-WRITER_WORDS.false)
    (rw c.writer_in.ensures at c.written_plain-written.ensures) (c.answer.ensures (writer_in a.state.now) _)
