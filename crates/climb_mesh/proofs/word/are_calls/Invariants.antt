-- The measure is how many bytes are left.
use Rattle.std.proofs.Common.{length}
use Rattle.climb_mesh.proofs.word.are_calls.Given as goal

abbrev pub decreases-loop-rest : goal.decreases-loop-rest
decreases-loop-rest l = length l.rest
