-- The state is the definition's record.
use Rattle.coder.specs.Ending.{low_state}
use Rattle.std.proofs.Common.{refl}
use Rattle.coder.proofs.interval.Coder.low_ended.Goals as goal

pub returns : goal.returns
unfolding low_state
returns c = refl
