-- The coder's words, and the flag.
use Rattle.oysterfold.proofs.coder_state.writer_in.Goals as goal

pub returns : goal.returns
returns c = rw (c.low_in.ensures, c.coder_in-s.ensures)
