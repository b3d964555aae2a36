-- The number is the fault's, or 0 with state and bytes used.
use Rattle.oysterfold.proofs.writing.end_answer.Goals as goal

pub returns-in-Err : goal.returns-in-Err
returns-in-Err c = λ w bytes. rw c.in-Err.is (rw c.unplaced.ensures.0, c.unplaced.ensures.1)

pub returns-in-Ok : goal.returns-in-Ok
returns-in-Ok c = λ w bytes. rw c.in-Ok.is (rw (c.put_writer.ensures, c.tell.ensures.value), c.tell.ensures.res_after)
