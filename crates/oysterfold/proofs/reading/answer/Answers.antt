-- The number is the fault's, or 0 with state and value.
use Rattle.oysterfold.proofs.reading.answer.Goals as goal

pub returns-in-Err : goal.returns-in-Err
returns-in-Err c = λ s. rw (c.in-Err.is, c.unplaced.ensures.0, c.unplaced.ensures.1)

pub returns-in-Ok : goal.returns-in-Ok
returns-in-Ok c = λ s. rw (c.in-Ok.is, c.put_coder.ensures, c.tell.ensures.value, c.tell.ensures.res_after)
