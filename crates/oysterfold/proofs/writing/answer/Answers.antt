-- The number is the fault's, or 0 with the state stored.
use Rattle.oysterfold.proofs.writing.answer.Goals as goal

pub returns-in-Err : goal.returns-in-Err
returns-in-Err c = λ w bytes. rw (c.in-Err.is, c.from.ensures)

pub returns-in-Ok : goal.returns-in-Ok
returns-in-Ok c = λ w bytes. rw (c.in-Ok.is, c.put_writer.ensures)
