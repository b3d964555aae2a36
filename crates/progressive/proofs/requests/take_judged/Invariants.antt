-- The invariant: the steps left, after the progress so far, come to what the whole wish comes to.
use Rattle.std.proofs.Common.{◌≡◌, ◌-◌, ◌^◌, ◌<◌, replicate}
use Rattle.progressive.specs.Requests.{progress_of, walked_on}
use Rattle.progressive.specs.Inside.{ask_of}
use Rattle.progressive.proofs.requests.take_judged.Given as goal

abbrev pub invariant-loop : goal.invariant-loop
invariant-loop l = record {
  told : l.progress.granted < 2 ^ 64;
  walked : walked_on l.steps l.shadings (replicate (l.end - l.counter) (ask_of l.direction)) (progress_of l.progress l.faces l.positions)
      ≡ walked_on l.steps l.shadings (replicate l.end (ask_of l.direction)) (progress_of l.initial.progress l.initial.faces l.initial.positions);
}
