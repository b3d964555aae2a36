-- What is left of the place and the frequencies passed make the place, and the frequencies left hold what is left.
use Rattle.std.proofs.Common.{◌≡◌, ◌∙◌, arith, rules}
use Rattle.coder.proofs.Weights.{sum_more, symbol_more, symbol_stop, symbol_none}
use Rattle.coder.specs.Histogram.{sum}
use Rattle.coder.proofs.histogram.symbol_at.Goals as goal

pub loop-index-init : goal.loop-index-init
unfolding sum
loop-index-init c = search rules

pub overflow_sub-result : goal.overflow_sub-result
overflow_sub-result c = search rules

pub returns-then-rest-frequency : goal.returns-then-rest-frequency
returns-then-rest-frequency c =
    let l = c.loop-index in
    (symbol_stop _ l.index l.rest (omega arith) (omega arith) ∙ l.invariant.0, omega (arith, l.invariant.1), omega arith)

pub loop-index-preserved : goal.loop-index-preserved
loop-index-preserved c =
    let l = c.loop-index in
    rw c.from-frequency.ensures
    (symbol_more _ l.index l.rest (omega arith) (omega arith) ∙ l.invariant.0, omega (arith, l.invariant.1, sum_more c.args.h.now l.index (omega arith)))

pub returns : goal.returns
returns c =
    let l = c.loop-index in
    let all : l.index ≡ 257 = omega arith in
    let h = rw all at l.invariant in
    (symbol_none c.args.h.now 257 l.rest (omega arith) ∙ h.0, omega (arith, h.1), omega arith)
