-- Word by word.
use Rattle.oysterfold.proofs.coder_state.coder_in.Goals as goal

pub returns : goal.returns
returns c = rw (c.limit_in.ensures, c.limit_in-2.ensures)
