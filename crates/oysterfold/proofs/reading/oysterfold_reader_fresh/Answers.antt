-- A state that is too short, or the fresh words stored.
use Rattle.coder.specs.Interval.{fresh}
use Rattle.oysterfold.specs.CoderState.{coder_words}
use Rattle.oysterfold.proofs.Words.{stored_short, stored_whole}
use Rattle.oysterfold.proofs.reading.oysterfold_reader_fresh.Goals as goal

pub returns-then-state-lt-CODER_WORDS : goal.returns-then-state-lt-CODER_WORDS
returns-then-state-lt-CODER_WORDS c = stored_short (coder_words fresh) c.args.state.now c.if-state-lt-CODER_WORDS.true

pub returns : goal.returns
returns c = stored_whole (coder_words fresh) c.args.state.now c.if-state-lt-CODER_WORDS.false (rw c.fresh.ensures at c.put_coder.ensures)
