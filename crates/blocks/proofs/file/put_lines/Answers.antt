-- The size of the lines decides, and then they are stored.
use mathlib.Core.Path.{sym, ◌∙◌}
use Rattle.fields.proofs.Judging.{handed_on}
use Rattle.blocks.proofs.Files.{told_whole, lines_told, lines_refused, lines_short, lines_done, lines_stored}
use Rattle.blocks.proofs.file.put_lines.Goals as goal

pub returns-in_err-told : goal.returns-in_err-told
returns-in_err-told c =
    let q = lines_refused c.args.file.now c.args.text.now _ _ (sym c.in_err-told.ensures) in
    record { result_value = handed_on _ _ c.from_residual.ensures.1 ∙ q.0; text_after = q.1 }

pub returns-then-text-told : goal.returns-then-text-told
returns-then-text-told c =
    let q = lines_short c.args.file.now c.args.text.now c.in_ok-told.told (sym c.in_ok-told.ensures) c.if-text-told.true in
    record { result_value = rw c.at.ensures q.0; text_after = q.1 }

pub returns : goal.returns
returns c =
    let file = c.args.file.now in
    let w = c.walk_file.ensures in
    let size = sym c.in_ok-told.ensures in
    let q = lines_done file c.args.text.now c.in_ok-told.told _ size c.if-text-told.false (w.text_after ∙ lines_stored file _ c.args.text.now) in
    record { result_value = w.result_value ∙ told_whole file _ _ _ ∙ lines_told file file ∙ size ∙ q.0; text_after = q.1 }
