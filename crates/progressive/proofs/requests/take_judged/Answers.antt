-- A walk that was refused stays, a wish that is refused ends it; else the steps left come to what the whole wish comes to.
use Rattle.std.proofs.Common.{◌≡◌, ◌-◌, ◌+◌, [], ◌∷◌, arith, rules}
use Rattle.progressive.specs.Requests.{asks_of, progress_of}
use Rattle.progressive.specs.Inside.{ask_of}
use Rattle.progressive.proofs.Walking.{over_limit_lem, told_small, walked_done, walked_more, walked_stays}
use Rattle.progressive.proofs.requests.take_judged.Goals as goal

pub returns-then-start-ne0 : goal.returns-then-start-ne0
returns-then-start-ne0 c =
    let a = c.args in
    walked_stays a.steps.now a.shadings (asks_of a.request.direction a.request.count) (progress_of a.start a.faces.now a.positions.now)
    c.if-start-ne0.true (search rules)

pub returns-in-Err : goal.returns-in-Err
returns-in-Err c =
    let a = c.args in
    rw (c.refused.ensures, c.in-Err.ensures.1)
    (over_limit_lem a.steps.now a.shadings (asks_of a.request.direction a.request.count) (progress_of a.start a.faces.now a.positions.now)
    c.in-Err.ensures.0 c.if-start-ne0.false (search rules))

pub loop-init : goal.loop-init
loop-init c = let all : c.args.request.count - 0 ≡ c.args.request.count = omega arith in record { told = search rules; walked = rw all }

pub loop-preserved : goal.loop-preserved
loop-preserved c =
    let a = c.args in
    let at = c.loop in
    let w = progress_of at.progress at.faces at.positions in
    let left : a.request.count - (at.counter + 1) ≡ a.request.count - at.counter - 1 = omega arith in
    record {
      told = told_small a.steps.now a.shadings (ask_of c.in-Ok.direction ∷ []) w c.step_on-progress.ensures;
      walked =
          rw left
          (walked_more a.steps.now a.shadings (ask_of c.in-Ok.direction) (a.request.count - at.counter) w _ (omega (arith, c.loop-test.true)) c.step_on-progress.ensures at.invariant.walked);
    }

pub returns-after-loop : goal.returns-after-loop
returns-after-loop c =
    let a = c.args in
    let at = c.loop in
    rw c.in-Ok.ensures
    (walked_done a.steps.now a.shadings (ask_of c.in-Ok.direction) (a.request.count - at.counter) (progress_of at.progress at.faces at.positions) _
    (omega (arith, c.loop-test.false)) at.invariant.told at.invariant.walked)
