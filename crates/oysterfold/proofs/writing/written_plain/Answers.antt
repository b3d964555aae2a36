-- A width of the coder's, or none.
use mathlib.Core.Path.{◌∙◌}
use Rattle.oysterfold.proofs.Widths.{no_plain_written, width_written}
use Rattle.oysterfold.proofs.writing.written_plain.Goals as goal

pub returns-in-Ok : goal.returns-in-Ok
returns-in-Ok c =
    let a = c.args in
    c.write_plain.ensures ∙ width_written a.bytes a.buffer.now a.w a.value c.in-Ok.width c.in-Ok.ensures

pub returns-in-Err : goal.returns-in-Err
returns-in-Err c =
    let a = c.args in
    c.write_static.ensures ∙ no_plain_written a.bytes a.buffer.now a.w a.value c.in-Err.ensures.0
