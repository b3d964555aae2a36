-- Each test that fails refutes a conjunct of the counts' agreement; past all of them the walk arrived at the level.
use Rattle.std.proofs.Common.{ℕ, ◌-◌, ap, arith}
use Rattle.progressive.proofs.Reaching.{agreeing, agrees, disagrees, other_faces}
use Rattle.progressive.proofs.levels.locate.Goals as goal
use Rattle.progressive.proofs.levels.locate.Goals.{then-positions-base-via-then-positions-base, then-positions-base-via-else-positions-base+then-number-positions}

pub returns-then-positions-base : goal.returns-then-positions-base
returns-then-positions-base c =
    let a = c.args in
    disagrees a.list.steps.now a.counts.faces a.counts.positions a.list.marked.form
    (λ e. elim c.then-positions-base.branch [
      | then-positions-base-via-then-positions-base w ↦
          omega (arith, agreeing a.list.steps.now a.counts.faces a.counts.positions e, c.number-base.ensures.0, w.if-positions-base.true)
      | then-positions-base-via-else-positions-base+then-number-positions w ↦
          omega (arith, agreeing a.list.steps.now a.counts.faces a.counts.positions e, c.number-base.ensures.0, w.number.ensures.0, w.if-number-positions.true)
    ])

pub returns-then-walked-counts : goal.returns-then-walked-counts
returns-then-walked-counts c =
    let a = c.args in
    disagrees a.list.steps.now a.counts.faces a.counts.positions a.list.marked.form
    (other_faces a.list.steps.now a.counts.faces a.counts.positions (ap (λ (x : ℕ). a.counts.positions - x) c.number-base.ensures.0)
    c.walk_to-walked.ensures c.if-walked-counts.true)

pub returns : goal.returns
returns c =
    let a = c.args in
    agrees a.list.steps.now a.counts.faces a.counts.positions a.list.marked.form
    (omega (arith, c.number-base.ensures.0)) (ap (λ (x : ℕ). a.counts.positions - x) c.number-base.ensures.0)
    (omega (arith, c.number.ensures.0, c.number-base.ensures.0)) c.walk_to-walked.ensures c.if-walked-counts.false
