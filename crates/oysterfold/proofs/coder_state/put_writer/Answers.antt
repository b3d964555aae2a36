-- The coder's words, and after them the flag.
use Rattle.oysterfold.proofs.Words.{flag_word}
use Rattle.oysterfold.proofs.coder_state.put_writer.Goals as goal

pub returns : goal.returns
returns c = rw (c.put_coder.ensures, c.from.ensures, flag_word c.args.w.compressed)
