-- The pools end within the bytes, and the faces after them can be read.
use Prim.Native.Nat.{ℕ}
use mathlib.Core.List.{List}
use mathlib.Core.Path.{◌∙◌, ◌≡◌, ap, sym}
use Rattle.mesh.specs.Inside.{judged_given}
use Rattle.mesh.specs.declared.run.Ended.{Ended}
use Rattle.mesh.proofs.Bases.{contents_cut, contents_done, contents_refused, faces_coded, faces_there}
use Rattle.mesh.proofs.FaceRuns.{faces_failed, faces_told}
use Rattle.mesh.proofs.base.judge_contents.Goals as goal

pub returns-then-s-faces_at-clause-result_value : goal.returns-then-s-faces_at-clause-result_value
unfolding judged_given
returns-then-s-faces_at-clause-result_value c =
    let a = c.args in
    rw c.at.ensures (sym (contents_cut a.s.now a.declaration a.counts a.at c.type_inv.s c.requires.0 (rw c.words_before.ensures.0 at c.if-s-faces_at.true)))

pub returns-in-Err-clause-result_value : goal.returns-in-Err-clause-result_value
unfolding judged_given
returns-in-Err-clause-result_value c =
    let a = c.args in
    let w = c.words_before in
    let f = sym (faces_there a.s.now a.declaration a.counts a.at w.result w.ensures.0) ∙ faces_failed _ _ _ _ c.in-Err.ensures in
    rw (c.at-in-Err.ensures, w.ensures.0) (sym (contents_refused a.s.now a.declaration a.counts a.at c.type_inv.s (rw w.ensures.0 at c.if-s-faces_at.false) _ _ f))

pub returns-in-Ok-clause-result_value : goal.returns-in-Ok-clause-result_value
unfolding judged_given
returns-in-Ok-clause-result_value c =
    let a = c.args in
    let w = c.words_before in
    let f = faces_told _ _ _ c.in-Ok.ensures in
    let g = sym (faces_there a.s.now a.declaration a.counts a.at w.result w.ensures.0) ∙ f.1 in
    sym (contents_done a.s.now a.declaration a.counts a.at c.type_inv.s (rw w.ensures.0 at c.if-s-faces_at.false) _ g)

pub returns-in-Ok-clause-contents_fit : goal.returns-in-Ok-clause-contents_fit
returns-in-Ok-clause-contents_fit c =
    let a = c.args in
    let w = c.words_before in
    let f = faces_told _ _ _ c.in-Ok.ensures in
    let g = sym (faces_there a.s.now a.declaration a.counts a.at w.result w.ensures.0) ∙ f.1 in
    λ head e.
    let same : head ≡ record { value = a.counts; next = a.at } = cc in
    (ap (λ (x : Ended (List ℕ)). x.next) same, ap (λ (x : Ended (List ℕ)). x.value) same, rw w.ensures.0 at c.if-s-faces_at.false, faces_coded a.s.now a.declaration a.counts a.at _ g)
