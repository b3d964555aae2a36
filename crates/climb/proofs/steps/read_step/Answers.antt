-- The split, the moves and the new faces, one after the other.
use Prim.Native.Nat.{ℕ, ◌+◌}
use mathlib.Core.List.{List}
use mathlib.Core.Path.{◌∙◌, ap}
use lib.ListN.{drop, set}
use Rattle.std.proofs.lemmas.Result.{err_from_is_err_and}
use Rattle.fields.specs.Limits.{most_moves}
use Rattle.climb.specs.Climb.{move_form, rows_from, split_form}
use Rattle.climb.proofs.Rows.{RowTold, TakenTold, row_told, step_done, step_unfaced, step_unmoved, step_unsplit, taken_refused, taken_told}
use Rattle.climb.proofs.steps.read_step.Goals as goal
use Rattle.climb.proofs.steps.read_step.Goals.{In_ok-split, In_ok-moves}

-- what was learnt at each place
split_of : (c : In_ok-split)
    → RowTold c.args.text.now split_form c.args.from.line c.args.from.at c.args.from.to c.in_ok-split.split c.args.table.now c.read_row.new.table
split_of c = row_told (taken_told c.args.text.now _ c.args.table.now c.args.from.to _ 1 _ c.in_ok-split.ensures.table_after)

moves_of : (c : In_ok-moves)
    → TakenTold c.args.text.now (rows_from move_form most_moves c.in_ok-split.split.line (drop c.in_ok-split.split.at c.args.text.now))
    c.read_row.new.table (c.args.from.to + 6) c.in_ok-moves.moves.count c.in_ok-moves.moves.next c.read_rows.new.table
moves_of c = taken_told c.args.text.now _ _ (c.args.from.to + 6) _ _ _ c.in_ok-moves.ensures.table_after

pub returns-in_err-split-clause-table_after : goal.returns-in_err-split-clause-table_after
returns-in_err-split-clause-table_after c =
    let a = c.args in
    let p = err_from_is_err_and c.from_residual.result c.from_residual.ensures.1 in
    rw (p.1, p.2) (step_unsplit a.text.now a.from.line a.from.at a.from.to a.table.now _ _ (taken_refused a.text.now _ _ a.from.to _ _ c.in_err-split.ensures.table_after))

pub returns-in_err-moves-clause-table_after : goal.returns-in_err-moves-clause-table_after
returns-in_err-moves-clause-table_after c =
    let a = c.args in
    let p = err_from_is_err_and c.from_residual-in_err-moves.result c.from_residual-in_err-moves.ensures.1 in
    rw (p.1, p.2) (step_unmoved a.text.now a.from.line a.from.at a.from.to a.table.now _ _ (split_of (goal.at.returns-in_err-moves-clause-table_after c).In_ok-split) _ _
    (taken_refused a.text.now _ _ _ _ _ c.in_err-moves.ensures.table_after))

pub returns-in_err-faces-clause-table_after : goal.returns-in_err-faces-clause-table_after
returns-in_err-faces-clause-table_after c =
    let a = c.args in
    let p = err_from_is_err_and c.from_residual-in_err-faces.result c.from_residual-in_err-faces.ensures.1 in
    rw (p.1, p.2) (step_unfaced a.text.now a.from.line a.from.at a.from.to a.table.now _ _ (split_of (goal.at.returns-in_err-faces-clause-table_after c).In_ok-split) _ _ _
    (moves_of (goal.at.returns-in_err-faces-clause-table_after c).In_ok-moves) _ _ (taken_refused a.text.now _ _ _ _ _ c.in_err-faces.ensures.table_after))

pub returns-clause-table_after : goal.returns-clause-table_after
returns-clause-table_after c =
    let a = c.args in
    step_done a.text.now a.from.line a.from.at a.from.to a.table.now _ _ (split_of (goal.at.returns-clause-table_after c).In_ok-split) _ _ _
    (moves_of (goal.at.returns-clause-table_after c).In_ok-moves) _ _ _ _ (taken_told a.text.now _ _ c.in_ok-moves.moves.next.to _ _ _ c.in_ok-faces.ensures.table_after)
    (c.put-2.ensures ∙ ap (λ (l : List ℕ). set l (a.from.to + 5) c.in_ok-faces.faces.count) c.put.ensures)
