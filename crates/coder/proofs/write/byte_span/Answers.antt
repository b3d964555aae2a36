-- The reversed byte is the symbol.
use Rattle.coder.proofs.write.byte_span.Goals as goal

pub returns : goal.returns
returns c = rw (c.static_span.ensures, c.reversed_byte.ensures.0)
