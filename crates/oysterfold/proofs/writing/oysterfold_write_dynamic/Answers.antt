-- A state or a histogram that is too short, or what the coder promises.
use mathlib.Core.Path.{◌≡◌, ◌∙◌, ap}
use lib.ListN.{length, take}
use Rattle.coder.specs.Histogram.{symbols}
use Rattle.coder.specs.Writing.{write_dynamic, written_histogram}
use Rattle.oysterfold.specs.CoderState.{writer_in, writer_length}
use Rattle.oysterfold.proofs.Lengths.{written_length}
use Rattle.oysterfold.proofs.Words.{length_of_chunk, stored_chunk}
use Rattle.oysterfold.proofs.Contexts.{context_long, histogram_left, histogram_put, histogram_short, state_short}
use Rattle.oysterfold.proofs.WriteAnswers.{write_short, write_told}
use Rattle.oysterfold.proofs.writing.oysterfold_write_dynamic.Goals as goal

pub returns-then-state-lt-WRITER_WORDS : goal.returns-then-state-lt-WRITER_WORDS
returns-then-state-lt-WRITER_WORDS c =
    let a = c.args in
    let short = state_short writer_length a.state.now a.histogram.now c.if-state-lt-WRITER_WORDS.true in
    record { buffer_after = write_short (write_dynamic (take symbols a.histogram.now) a.buffer.now (writer_in a.state.now) a.value) a.state.now a.buffer.now short; histogram_after = histogram_left (written_histogram (take symbols a.histogram.now) a.buffer.now (writer_in a.state.now) a.value) a.histogram.now short }

pub returns-in_default : goal.returns-in_default
returns-in_default c =
    let a = c.args in
    let short = histogram_short writer_length a.state.now a.histogram.now c.if-state-lt-WRITER_WORDS.false c.in_default.ensures.cases in
    record { buffer_after = write_short (write_dynamic (take symbols a.histogram.now) a.buffer.now (writer_in a.state.now) a.value) a.state.now a.buffer.now short; histogram_after = histogram_left (written_histogram (take symbols a.histogram.now) a.buffer.now (writer_in a.state.now) a.value) a.histogram.now short }

pub returns : goal.returns
returns c =
    let a = c.args in
    let chunk = c.in-Some.ensures.cases in
    let many : length c.write_dynamic-written.new.frequencies ≡ symbols = ap length c.write_dynamic-written.ensures.frequencies_after ∙ written_length c.in-Some.frequencies.now c.args.buffer.now c.writer_in.result c.args.value ∙ length_of_chunk a.histogram.now chunk.same chunk.enough in
    let long = context_long writer_length a.state.now a.histogram.now c.if-state-lt-WRITER_WORDS.false chunk.enough in
    record {
      buffer_after = write_told (write_dynamic (take symbols a.histogram.now) a.buffer.now (writer_in a.state.now) a.value) a.state.now a.buffer.now long
          (rw (c.writer_in.ensures, chunk.same) at c.write_dynamic-written.ensures.buf_after) (c.answer.ensures (writer_in a.state.now) _);
      histogram_after = histogram_put (written_histogram (take symbols a.histogram.now) a.buffer.now (writer_in a.state.now) a.value) a.histogram.now long
          (rw (c.writer_in.ensures, chunk.same) at c.write_dynamic-written.ensures.frequencies_after) (stored_chunk c.write_dynamic-written.new.frequencies a.histogram.now many chunk.enough);
    }
