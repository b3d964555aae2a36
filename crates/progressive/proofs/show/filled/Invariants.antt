use Rattle.std.proofs.Common.{◌≡◌}
use Rattle.progressive.specs.Indexed.{always, from, shows}
use Rattle.progressive.proofs.show.filled.Given as goal

-- the answer is that of the words so far
abbrev pub invariant-loop-word : goal.invariant-loop-word
invariant-loop-word l = l.same ≡ shows (from l.at) (always l.value) l.table l.word-index
