-- Each width computes.
use Rattle.std.proofs.Common.{refl}
use Rattle.coder.proofs.write.Width.largest.Goals as goal

pub returns-in-U8 : goal.returns-in-U8
returns-in-U8 c = rw c.in-U8.is refl

pub returns-in-U16 : goal.returns-in-U16
returns-in-U16 c = rw c.in-U16.is refl

pub returns-in-U32 : goal.returns-in-U32
returns-in-U32 c = rw c.in-U32.is refl
