-- The last line, and the text's end.
use Rattle.std.proofs.lemmas.Result.{err_from_is_err_and}
use Rattle.climb.proofs.Climbs.{end_bad, end_done, end_more}
use Rattle.climb.proofs.Rows.{row_told, taken_refused, taken_told}
use Rattle.climb.proofs.steps.read_end.Goals as goal

pub returns-in_err-next : goal.returns-in_err-next
returns-in_err-next c =
    let a = c.args in
    let p = err_from_is_err_and c.from_residual.result c.from_residual.ensures.1 in
    rw (p.1, p.2) (end_bad a.text.now a.steps a.from.line a.from.at a.from.to _ _ (taken_refused a.text.now _ _ 0 _ _ c.in_err-next.ensures.table_after))

pub returns-then-next-text : goal.returns-then-next-text
returns-then-next-text c =
    let a = c.args in
    rw (c.bad_line.ensures.0, c.bad_line.ensures.1)
    (end_more a.text.now a.steps a.from.line a.from.at a.from.to _ _ _ _ (row_told (taken_told a.text.now _ _ 0 _ 1 _ c.in_ok-next.ensures.table_after)) c.if-next-text.true)

pub returns : goal.returns
returns c =
    let a = c.args in
    end_done a.text.now a.steps a.from.line a.from.at a.from.to _ _ _ _ (row_told (taken_told a.text.now _ _ 0 _ 1 _ c.in_ok-next.ensures.table_after)) c.if-next-text.false
