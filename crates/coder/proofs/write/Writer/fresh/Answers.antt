-- The fresh interval, and no compressed value yet.
use Rattle.coder.proofs.write.Writer.fresh.Goals as goal

pub returns : goal.returns
returns c = rw c.fresh.ensures
