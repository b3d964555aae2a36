-- `padding::zeros` meets its contract. The invariant: what is to be answered from the start is what is to be answered from `at`.
-- Assumes nothing.
use mathlib.Core.Path.{sym, ◌∙◌}
use Rattle.blocks.proofs.Zeros.{zeros_done, zeros_next, zeros_refused}
use Rattle.blocks.proofs.padding.zeros.Goals as goal

pub returns-then-s-at-ne0 : goal.returns-then-s-at-ne0
returns-then-s-at-ne0 c = rw c.at.ensures (sym (c.loop-at.invariant ∙ zeros_refused _ _ _ c.loop-at-test.true c.if-s-at-ne0.true))

pub loop-at-preserved : goal.loop-at-preserved
loop-at-preserved c = c.loop-at.invariant ∙ zeros_next _ _ _ c.loop-at-test.true c.if-s-at-ne0.false

pub returns : goal.returns
returns c = sym (c.loop-at.invariant ∙ zeros_done _ _ _ c.loop-at-test.false)
