-- The head, the steps and the last line, one after the other.
use Prim.Native.Nat.{ℕ}
use mathlib.Core.List.{List, [], ◌∷◌}
use mathlib.Core.Path.{◌∙◌, ap}
use lib.ListN.{get_or, set}
use Rattle.std.proofs.lemmas.Result.{err_from_is_err_and}
use Rattle.climb.specs.Climb.{head_form}
use Rattle.climb.proofs.Climbs.{climb_ended, climb_unheaded, climb_unstepped}
use Rattle.climb.proofs.Rows.{RowTold, row_told, taken_refused, taken_told}
use Rattle.climb.proofs.steps.read_text.Goals as goal
use Rattle.climb.proofs.steps.read_text.Goals.{In_ok-first}

-- what was learnt of the head
head_of : (c : In_ok-first)
    → RowTold c.args.text.now head_form 1 0 0 c.in_ok-first.first (0 ∷ 0 ∷ 0 ∷ []) c.read_row.new.table
head_of c = row_told (taken_told c.args.text.now _ (0 ∷ 0 ∷ 0 ∷ []) 0 _ 1 _ c.in_ok-first.ensures.table_after)

pub returns-in_err-first : goal.returns-in_err-first
returns-in_err-first c =
    let a = c.args in
    let p = err_from_is_err_and c.from_residual.result c.from_residual.ensures.1 in
    rw (p.1, p.2) (climb_unheaded a.text.now a.table.now _ _ (taken_refused a.text.now _ (0 ∷ 0 ∷ 0 ∷ []) 0 _ _ c.in_err-first.ensures.table_after))

pub returns-in_err-steps : goal.returns-in_err-steps
returns-in_err-steps c =
    let a = c.args in
    let p = err_from_is_err_and c.from_residual-in_err-steps.result c.from_residual-in_err-steps.ensures.1 in
    rw (p.1, p.2) (climb_unstepped a.text.now a.table.now _ _ (head_of (goal.at.returns-in_err-steps c).In_ok-first) _ _ (taken_refused a.text.now _ _ 3 _ _ c.in_err-steps.ensures.table_after))

pub returns : goal.returns
returns c =
    let a = c.args in
    let p = c.put-2.ensures ∙ ap (λ (l : List ℕ). set l 1 (get_or c.read_row.new.table 2 0)) c.put.ensures in
    climb_ended a.text.now a.table.now _ _ (head_of (goal.at.returns c).In_ok-first) _ _ _ _ _ c.read_end.result p
    (taken_told a.text.now _ _ 3 _ _ _ c.in_ok-steps.ensures.table_after) c.put-3.ensures c.read_end.ensures
