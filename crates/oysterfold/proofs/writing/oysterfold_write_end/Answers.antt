-- A result or a state that is too short, or what the coder promises.
use mathlib.Core.Path.{ap}
use borrow.Author.Tests.{le-ltb, lt-ltb}
use Rattle.coder.specs.Writing.{end}
use Rattle.oysterfold.specs.CoderState.{shorter, writer_in, writer_length}
use Rattle.oysterfold.specs.Writing.{end_write}
use Rattle.oysterfold.proofs.Contexts.{result_long, result_short}
use Rattle.oysterfold.proofs.WriteAnswers.{used_none, used_nowhere, used_told, write_short, write_told}
use Rattle.oysterfold.proofs.writing.oysterfold_write_end.Goals as goal

pub returns-then-res-lt-RESULT_WORDS : goal.returns-then-res-lt-RESULT_WORDS
returns-then-res-lt-RESULT_WORDS c =
    let a = c.args in
    let e = end a.buffer.now (writer_in a.state.now) in
    let unknown = shorter writer_length a.state.now in
    record { buffer_after = write_short (end_write e) a.state.now a.buffer.now (result_short a.res.now unknown c.if-res-lt-RESULT_WORDS.true); res_after = used_nowhere e a.res.now unknown c.if-res-lt-RESULT_WORDS.true }

pub returns-then-state-lt-WRITER_WORDS : goal.returns-then-state-lt-WRITER_WORDS
returns-then-state-lt-WRITER_WORDS c =
    let a = c.args in
    let e = end a.buffer.now (writer_in a.state.now) in
    let short = lt-ltb _ _ c.if-state-lt-WRITER_WORDS.true in record { buffer_after = rw c.unplaced.ensures.0 (write_short (end_write e) a.state.now a.buffer.now (result_long a.res.now c.if-res-lt-RESULT_WORDS.false short)); res_after = used_none e a.res.now c.if-res-lt-RESULT_WORDS.false short c.unplaced.ensures.1 }

pub returns : goal.returns
returns c =
    let a = c.args in
    let e = end a.buffer.now (writer_in a.state.now) in
    let long = le-ltb _ _ c.if-state-lt-WRITER_WORDS.false in
    let given = rw c.writer_in.ensures at c.finish-ended.ensures in record { buffer_after = write_told (end_write e) a.state.now a.buffer.now (result_long a.res.now c.if-res-lt-RESULT_WORDS.false long) (ap end_write given) (c.end_answer.ensures (writer_in a.state.now) _).0; res_after = used_told e a.res.now c.if-res-lt-RESULT_WORDS.false long given (c.end_answer.ensures (writer_in a.state.now) _).1 }
