-- The number is the fault's, or 0 with the counts stored.
use mathlib.Core.Path.{refl}
use Rattle.oysterfold.proofs.steps.answer.Goals as goal

pub returns-in-Err : goal.returns-in-Err
returns-in-Err c = rw c.in-Err.is (c.from.ensures, refl)

pub returns-in-Ok : goal.returns-in-Ok
returns-in-Ok c = rw c.in-Ok.is (refl, c.put_counts.ensures)
