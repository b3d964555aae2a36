-- The head, room for it, and what follows.
use mathlib.Core.Path.{◌∙◌, sym}
use Rattle.std.proofs.lemmas.Result.{err_from_is_err_and}
use Rattle.mesh.specs.Inside.{judged_given}
use Rattle.mesh.proofs.Bases.{base_contents, base_full, base_refused, contents_fit, head_within}
use Rattle.mesh.proofs.base.judge_base.Goals as goal

pub returns-in_err-head-clause-result_value : goal.returns-in_err-head-clause-result_value
unfolding judged_given
returns-in_err-head-clause-result_value c =
    let a = c.args in
    let p = err_from_is_err_and c.from_residual.result c.from_residual.ensures.1 in
    rw (p.1, p.2) (sym (base_refused a.s.now a.name.now a.declaration a.lengths _ _ (sym c.in_err-head.ensures)))

pub returns-then-not-has_room-clause-result_value : goal.returns-then-not-has_room-clause-result_value
unfolding judged_given
returns-then-not-has_room-clause-result_value c =
    let a = c.args in
    let f = sym c.has_room.ensures ∙ c.if-not-has_room.true in
    rw c.at.ensures (sym (base_full a.s.now a.name.now a.declaration a.lengths _ _ (sym c.in_ok-head.ensures) f))

pub judge_contents-requires : goal.judge_contents-requires
judge_contents-requires c =
    let a = c.args in
    (head_within a.s.now a.name.now a.declaration _ (sym c.in_ok-head.ensures), c.requires.1)

pub returns : goal.returns
returns c =
    let a = c.args in
    let j = c.judge_contents in
    let f = sym c.has_room.ensures ∙ c.if-not-has_room.false in record {
      result_value = j.ensures.result_value ∙ sym (base_contents a.s.now a.name.now a.declaration a.lengths _ _ (sym c.in_ok-head.ensures) f);
      judged_fits = contents_fit a.s.now a.declaration _ _ a.lengths j.result j.ensures.contents_fit f;
    }
