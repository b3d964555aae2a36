-- The number of rows decides, and then they are stored.
use mathlib.Core.Path.{sym, ◌∙◌}
use Rattle.fields.proofs.Judging.{handed_on, not_done, same_done}
use Rattle.blocks.proofs.Files.{told_whole, rows_refused, rows_short, rows_done, words_stored}
use Rattle.blocks.proofs.file.walk_blocks.Goals as goal

pub returns-in_err-told : goal.returns-in_err-told
returns-in_err-told c =
    let q = rows_refused c.args.file.now c.args.table.now _ _ (sym c.in_err-told.ensures.result_value) in
    record { result_value = handed_on _ _ c.from_residual.ensures.1 ∙ q.0; table_after = q.1 }

pub returns-then-table-told : goal.returns-then-table-told
returns-then-table-told c =
    let q = rows_short c.args.file.now c.args.table.now c.in_ok-told.told (sym c.in_ok-told.ensures.result_value) c.if-table-told.true in
    record { result_value = rw c.at.ensures q.0; table_after = q.1 }

pub returns-in_err-told-2 : goal.returns-in_err-told-2
returns-in_err-told-2 c =
    not_done (c.in_err-told-2.ensures.result_value ∙ told_whole c.args.file.now _ _ _ ∙ sym c.in_ok-told.ensures.result_value)

pub returns : goal.returns
returns c =
    let file = c.args.file.now in
    let whole = told_whole file _ _ _ in
    let same = same_done (c.in_ok-told-2.ensures.result_value ∙ whole ∙ sym c.in_ok-told.ensures.result_value) in
    let q = rows_done file c.args.table.now c.in_ok-told.told _ (sym c.in_ok-told.ensures.result_value) c.if-table-told.false
    (c.walk_file.ensures.table_after ∙ words_stored file c.args.table.now _ _) in
    record { result_value = rw same q.0; table_after = q.1 }
