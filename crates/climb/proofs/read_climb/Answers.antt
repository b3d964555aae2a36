-- The text is judged on an empty table, and then stored where it fits.
use Rattle.std.proofs.lemmas.Result.{err_from_is_err_and}
use Rattle.climb.proofs.Climbs.{read_done, read_refused, read_unroomed, text_refused, text_told}
use Rattle.climb.proofs.read_climb.Goals as goal

pub returns-in_err-words-clause-result_value : goal.returns-in_err-words-clause-result_value
returns-in_err-words-clause-result_value c =
    let a = c.args in
    let p = err_from_is_err_and c.from_residual.result c.from_residual.ensures.1 in
    rw (p.1, p.2) (read_refused a.text.now a.table.now _ _ (text_refused a.text.now _ _ _ c.in_err-words.ensures)).0

pub returns-in_err-words-clause-table_after : goal.returns-in_err-words-clause-table_after
returns-in_err-words-clause-table_after c =
    let a = c.args in
    (read_refused a.text.now a.table.now _ _ (text_refused a.text.now _ _ _ c.in_err-words.ensures)).1

pub returns-then-table-words-clause-result_value : goal.returns-then-table-words-clause-result_value
returns-then-table-words-clause-result_value c =
    let a = c.args in
    let w = text_told a.text.now _ _ _ c.in_ok-words.ensures in
    rw c.at.ensures (read_unroomed a.text.now a.table.now w.0 w.1 (rw w.2 c.if-table-words.true)).0

pub returns-then-table-words-clause-table_after : goal.returns-then-table-words-clause-table_after
returns-then-table-words-clause-table_after c =
    let a = c.args in
    let w = text_told a.text.now _ _ _ c.in_ok-words.ensures in
    (read_unroomed a.text.now a.table.now w.0 w.1 (rw w.2 c.if-table-words.true)).1

pub returns-clause-result_value : goal.returns-clause-result_value
returns-clause-result_value c =
    let a = c.args in
    let w = text_told a.text.now _ _ _ c.in_ok-words.ensures in
    (read_done a.text.now a.table.now w.0 w.1 _ _ c.read_text-2.result w.2 c.if-table-words.false c.read_text-2.ensures).0

pub returns-clause-table_after : goal.returns-clause-table_after
returns-clause-table_after c =
    let a = c.args in
    let w = text_told a.text.now _ _ _ c.in_ok-words.ensures in
    (read_done a.text.now a.table.now w.0 w.1 _ _ c.read_text-2.result w.2 c.if-table-words.false c.read_text-2.ensures).1
