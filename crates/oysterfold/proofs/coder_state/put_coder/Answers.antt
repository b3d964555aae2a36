-- Word by word.
use Rattle.oysterfold.proofs.coder_state.put_coder.Goals as goal

pub returns : goal.returns
returns c = rw (← c.from.ensures, ← c.from-2.ensures) c.put_words.ensures
