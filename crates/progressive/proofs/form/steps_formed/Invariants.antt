-- The invariant: the walk over the table stands at step k, all steps before it are formed, and the marks among them are noted.
use Rattle.std.proofs.Common.{length}
use Rattle.progressive.proofs.Formed.{Walked}
use Rattle.progressive.proofs.Marking.{Noting}
use Rattle.progressive.proofs.form.steps_formed.Given as goal

abbrev pub invariant-loop-k : goal.invariant-loop-k
invariant-loop-k l = record { walked : Walked l.steps l.count l.offset l.faces l.k; noting : Noting l.steps (length l.initial.marks) l.marks l.k }
