-- A state that is too short, or the fresh words stored.
use Rattle.coder.specs.Writing.{fresh_writer}
use Rattle.oysterfold.specs.CoderState.{writer_words}
use Rattle.oysterfold.proofs.Words.{stored_short, stored_whole}
use Rattle.oysterfold.proofs.writing.oysterfold_writer_fresh.Goals as goal

pub returns-then-state-lt-WRITER_WORDS : goal.returns-then-state-lt-WRITER_WORDS
returns-then-state-lt-WRITER_WORDS c = stored_short (writer_words fresh_writer) c.args.state.now c.if-state-lt-WRITER_WORDS.true

pub returns : goal.returns
returns c = stored_whole (writer_words fresh_writer) c.args.state.now c.if-state-lt-WRITER_WORDS.false (rw c.fresh.ensures at c.put_writer.ensures)
