-- The exported walk: what is too short, and what is told of a walk.
use Prim.Native.Nat.{ℕ, ◌≤◌, ◌<◌}
use mathlib.Core.Path.{◌≡◌, ◌∙◌, ap}
use mathlib.Core.List.{List}
use borrow.Author.Tests.{le-ltb, lt-ltb}
use lib.ListN.{length}
use Rattle.fields.specs.Numbers.{no_room}
use Rattle.progressive.specs.declared.counts.Counts.{Counts}
use Rattle.progressive.specs.declared.requests.Progress.{Progress}
use Rattle.progressive.specs.declared.requests.StepRequest.{StepRequest}
use Rattle.progressive.specs.Mesh.{Mesh, mesh_of}
use Rattle.progressive.specs.Requests.{StepWalk, as_told, asks, progress_of, walked, walked_on}
use Rattle.progressive.proofs.Walking.{walked-fresh}
use Rattle.oysterfold.specs.Result.{result_words, value_told}
use Rattle.oysterfold.specs.Steps.{count_words, counts_in, counts_put}
use Rattle.oysterfold.specs.Requests.{handed_walk, steps_into, walk_handed}

module _ (t : List ℕ) (shadings : ℕ) (requests : List StepRequest) (faces positions counts result : List ℕ) where
  pub no_result : length result < result_words
      → walk_handed no_room faces positions counts result ≡ steps_into t shadings requests faces positions counts result
  unfolding steps_into
  no_result short = rw (lt-ltb _ _ short)

  module _ (long : result_words ≤ length result) {result' : List ℕ} where
    pub no_counts : length counts < count_words → result' ≡ value_told 0 result
        → walk_handed no_room faces positions counts result' ≡ steps_into t shadings requests faces positions counts result
    unfolding steps_into
    no_counts short e = rw (le-ltb _ _ long, lt-ltb _ _ short, e)

    pub walk_told : count_words ≤ length counts → (present : Counts) (p : Progress) {faces' positions' counts' : List ℕ}
        → present ≡ counts_in counts
        → progress_of p faces' positions' ≡ walked_on t shadings (asks requests) (progress_of (record { number = 0; granted = 0; counts = present }) faces positions)
        → counts' ≡ counts_put p.counts counts → result' ≡ value_told p.granted result
        → walk_handed p.number faces' positions' counts' result' ≡ steps_into t shadings requests faces positions counts result
    unfolding steps_into
    walk_told enough present p {faces'} {positions'} s e f g =
        let m = mesh_of faces positions (counts_in counts) in
        let same : progress_of p faces' positions' ≡ as_told (walked t shadings m requests) = (rw s at e) ∙ walked-fresh t shadings (asks requests) m in
        rw (le-ltb _ _ long, le-ltb _ _ enough, f, g) (ap (λ (w : StepWalk Mesh). handed_walk w counts result) same)
