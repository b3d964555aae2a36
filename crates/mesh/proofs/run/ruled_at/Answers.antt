-- The field is read, and judged by each test in turn.
use borrow.Author.Tests.{le-ltb, lt-ltb}
use mathlib.Core.Logic.{⊎_elim}
use Rattle.mesh.specs.Run.{ruled_at}
use Rattle.mesh.proofs.run.ruled_at.Goals as goal

pub returns-in_default : goal.returns-in_default
unfolding ruled_at
returns-in_default c = rw (c.at.ensures, ← c.in_default.ensures)

pub returns-then-rule-value : goal.returns-then-rule-value
unfolding ruled_at
returns-then-rule-value c = rw (c.at-then-rule-value.ensures, ← c.in-Some.ensures, lt-ltb _ _ c.if-rule-value.true)

pub returns-then-value-rule : goal.returns-then-value-rule
unfolding ruled_at
returns-then-value-rule c =
    let v = c.in-Some.value in
    let r = c.args.rule in
    rw (c.at-then-value-rule.ensures, ← c.in-Some.ensures, le-ltb _ _ c.if-rule-value.false)
    (⊎_elim (λ below. rw (lt-ltb v r.least below)) (λ above. rw (le-ltb v r.least above.0, lt-ltb r.most v above.1)) c.then-value-rule.either)

pub returns : goal.returns
unfolding ruled_at
returns c = rw (← c.in-Some.ensures, le-ltb _ _ c.if-rule-value.false, le-ltb _ _ c.if-value-rule.false, le-ltb _ _ c.if-rule-value-2.false)
