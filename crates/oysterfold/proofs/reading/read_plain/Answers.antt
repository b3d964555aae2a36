-- A width of the coder's, or none.
use mathlib.Core.Path.{◌∙◌}
use Rattle.oysterfold.proofs.Widths.{no_plain_read, plain_read}
use Rattle.oysterfold.proofs.reading.read_plain.Goals as goal

pub returns-in-Ok : goal.returns-in-Ok
returns-in-Ok c =
    let a = c.args in
    c.read_plain.ensures ∙ plain_read a.bytes a.coded.now a.s c.in-Ok.width c.in-Ok.ensures

pub returns-in-Err : goal.returns-in-Err
returns-in-Err c =
    let a = c.args in
    c.read_static.ensures ∙ no_plain_read a.bytes a.coded.now a.s c.in-Err.ensures.0
