use Rattle.oysterfold.proofs.Words.{stored_front}
use Rattle.oysterfold.proofs.result.put_words.Goals as goal

pub returns : goal.returns
returns c = rw c.copy_from_slice.ensures.after (stored_front c.args.words.now c.args.res.now c.requires)
