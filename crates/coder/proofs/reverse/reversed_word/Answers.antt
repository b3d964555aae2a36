-- The low byte reversed is the high one.
use Rattle.coder.proofs.Windows.{two_bytes}
use Rattle.std.proofs.Common.{rules}
use Rattle.coder.proofs.reverse.reversed_word.Goals as goal

pub returns : goal.returns
returns c = record { value = rw (c.reversed_byte-2.ensures.0, c.reversed_byte.ensures.0) (two_bytes c.args.v); upper_bound = search rules }
