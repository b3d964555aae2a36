-- A result, a state or a histogram that is too short, or what the coder promises.
use mathlib.Core.Path.{◌≡◌, ◌∙◌, ap}
use lib.ListN.{length, take}
use Rattle.coder.specs.Histogram.{symbols}
use Rattle.coder.specs.Reading.{take_dynamic, taken_histogram}
use Rattle.oysterfold.specs.CoderState.{coder_in, coder_length, context_short}
use Rattle.oysterfold.proofs.Lengths.{taken_length}
use Rattle.oysterfold.proofs.Words.{length_of_chunk, stored_chunk}
use Rattle.oysterfold.proofs.Contexts.{context_long, histogram_left, histogram_put, histogram_short, result_long, result_short, state_short}
use Rattle.oysterfold.proofs.ReadAnswers.{no_result, read_short, read_told}
use Rattle.oysterfold.proofs.reading.oysterfold_read_dynamic.Goals as goal

pub returns-then-res-lt-RESULT_WORDS : goal.returns-then-res-lt-RESULT_WORDS
returns-then-res-lt-RESULT_WORDS c =
    let a = c.args in
    let unknown = context_short coder_length a.state.now a.histogram.now in
    record { res_after = no_result (take_dynamic (take symbols a.histogram.now) a.coded.now (coder_in a.state.now)) a.state.now a.res.now unknown c.if-res-lt-RESULT_WORDS.true; histogram_after = histogram_left (taken_histogram (take symbols a.histogram.now) a.coded.now (coder_in a.state.now)) a.histogram.now (result_short a.res.now unknown c.if-res-lt-RESULT_WORDS.true) }

pub returns-then-state-lt-CODER_WORDS : goal.returns-then-state-lt-CODER_WORDS
returns-then-state-lt-CODER_WORDS c =
    let a = c.args in
    let short = state_short coder_length a.state.now a.histogram.now c.if-state-lt-CODER_WORDS.true in record { res_after = read_short (take_dynamic (take symbols a.histogram.now) a.coded.now (coder_in a.state.now)) a.state.now a.res.now c.if-res-lt-RESULT_WORDS.false short c.unplaced.ensures.0 c.unplaced.ensures.1; histogram_after = histogram_left (taken_histogram (take symbols a.histogram.now) a.coded.now (coder_in a.state.now)) a.histogram.now (result_long a.res.now c.if-res-lt-RESULT_WORDS.false short) }

pub returns-in_default : goal.returns-in_default
returns-in_default c =
    let a = c.args in
    let short = histogram_short coder_length a.state.now a.histogram.now c.if-state-lt-CODER_WORDS.false c.in_default.ensures.cases in record { res_after = read_short (take_dynamic (take symbols a.histogram.now) a.coded.now (coder_in a.state.now)) a.state.now a.res.now c.if-res-lt-RESULT_WORDS.false short c.unplaced-in_default.ensures.0 c.unplaced-in_default.ensures.1; histogram_after = histogram_left (taken_histogram (take symbols a.histogram.now) a.coded.now (coder_in a.state.now)) a.histogram.now (result_long a.res.now c.if-res-lt-RESULT_WORDS.false short) }

pub returns : goal.returns
returns c =
    let a = c.args in
    let chunk = c.in-Some.ensures.cases in
    let many : length c.read_dynamic-read.new.frequencies ≡ symbols = ap length c.read_dynamic-read.ensures.frequencies_after ∙ taken_length c.in-Some.frequencies.now c.args.coded.now c.coder_in.result ∙ length_of_chunk a.histogram.now chunk.same chunk.enough in
    let long = context_long coder_length a.state.now a.histogram.now c.if-state-lt-CODER_WORDS.false chunk.enough in
    record {
      res_after = read_told (take_dynamic (take symbols a.histogram.now) a.coded.now (coder_in a.state.now)) a.state.now a.res.now c.if-res-lt-RESULT_WORDS.false long
          (rw (c.coder_in.ensures, chunk.same) at c.read_dynamic-read.ensures.result_value) (c.answer.ensures (coder_in a.state.now));
      histogram_after = histogram_put (taken_histogram (take symbols a.histogram.now) a.coded.now (coder_in a.state.now)) a.histogram.now
          (result_long a.res.now c.if-res-lt-RESULT_WORDS.false long)
          (rw (c.coder_in.ensures, chunk.same) at c.read_dynamic-read.ensures.frequencies_after) (stored_chunk c.read_dynamic-read.new.frequencies a.histogram.now many chunk.enough);
    }
