-- The wishes from i on are wish i and those after it; at the end none is left.
use Rattle.std.proofs.Common.{◌≡◌, ℕ, ◌+◌, ◌^◌, ◌<◌, ◌≤◌, List, length, get_or, drop, sym, ◌∙◌}
use Rattle.std.proofs.lemmas.List.{at_drop_more, drop_all}
use Rattle.progressive.specs.declared.requests.StepRequest.{StepRequest}
use Rattle.progressive.specs.Mesh.{Mesh}
use Rattle.progressive.specs.Requests.{StepWalk, asks, asks_of, progress_of, walked_on}
use Rattle.progressive.proofs.Walking.{told_small, walked_append, walked_none}
use Rattle.progressive.proofs.requests.step_all.Goals as goal

module _ (t : List ℕ) (shadings : ℕ) (rs : List StepRequest) (i : ℕ) (w : StepWalk Mesh) {end : StepWalk Mesh} where
  -- wish i is taken
  wish_taken : {v : StepWalk Mesh} (none : StepRequest) → i < length rs → v ≡ walked_on t shadings (asks_of (get_or rs i none).direction (get_or rs i none).count) w
      → walked_on t shadings (asks (drop i rs)) w ≡ end → walked_on t shadings (asks (drop (i + 1) rs)) v ≡ end
  unfolding asks
  wish_taken none l e h = rw e (walked_append t shadings _ (asks (drop (i + 1) rs)) w ∙ sym (at_drop_more (λ (more : List StepRequest). walked_on t shadings (asks more) w) rs i none l) ∙ h)

  -- no wish is left
  all_taken : length rs ≤ i → w.granted < 2 ^ 64 → walked_on t shadings (asks (drop i rs)) w ≡ end → w ≡ end
  unfolding asks
  all_taken l small h = sym (walked_none t shadings w small) ∙ (rw (drop_all i rs l) at h)

pub loop-request-preserved : goal.loop-request-preserved
loop-request-preserved c =
    let a = c.args in
    let at = c.loop-request in
    let w = progress_of at.progress at.faces at.positions in
    record {
      told = told_small a.steps.now a.shadings _ w c.take_judged-progress.ensures;
      walked = wish_taken a.steps.now a.shadings a.requests.now at.request-index w _ c.loop-request-test.true c.take_judged-progress.ensures at.invariant.walked;
    }

pub returns : goal.returns
returns c =
    let a = c.args in
    let at = c.loop-request in
    all_taken a.steps.now a.shadings a.requests.now at.request-index (progress_of at.progress at.faces at.positions) c.loop-request-test.false at.invariant.told at.invariant.walked
