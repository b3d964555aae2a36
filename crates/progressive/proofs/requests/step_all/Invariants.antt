-- The invariant: the wishes from i on, after the progress so far, come to what the whole walk comes to.
use Rattle.std.proofs.Common.{◌≡◌, ◌^◌, ◌<◌, drop}
use Rattle.progressive.specs.Requests.{asks, progress_of, walked_on}
use Rattle.progressive.proofs.requests.step_all.Given as goal

abbrev pub invariant-loop-request : goal.invariant-loop-request
invariant-loop-request l = record {
  told : l.progress.granted < 2 ^ 64;
  walked : walked_on l.steps l.shadings (asks (drop l.request-index l.requests)) (progress_of l.progress l.faces l.positions)
      ≡ walked_on l.steps l.shadings (asks l.requests) (progress_of l.initial.progress l.initial.faces l.initial.positions);
}
