-- The measure is how many bytes are left.
use Rattle.std.proofs.Common.{length}
use Rattle.climb_mesh.proofs.calls.print_calls.Given as goal

abbrev pub decreases-loop-ask : goal.decreases-loop-ask
decreases-loop-ask g l = length l.rest
