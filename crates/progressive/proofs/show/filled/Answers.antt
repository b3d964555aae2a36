use Rattle.std.proofs.Common.{◌≡◌, sym, ◌∙◌, arith}
use Rattle.progressive.specs.Indexed.{always, from}
use Rattle.progressive.proofs.Indexed.{not_shown, part_at, part_long, still_shown}
use Rattle.progressive.proofs.show.filled.Goals as goal

pub loop-word-preserved : goal.loop-word-preserved
loop-word-preserved c =
    let a = c.args in
    let read = part_at a.table.now a.at a.count c.loop-word.word-index c.loop-word-test.true in
    elim c.if-word-value.branch [
      | goal.then-word-value w ↦
          w.same-is ∙ not_shown (from a.at) (always a.value) a.table.now c.loop-word.word-index c.loop-word.invariant (λ e. w.if-word-value.true (read ∙ e))
      | goal.else-word-value w ↦
          w.same-is ∙ still_shown (from a.at) (always a.value) a.table.now c.loop-word.word-index c.loop-word.invariant (sym read ∙ w.if-word-value.false)
    ]

pub returns : goal.returns
returns c =
    let a = c.args in
    let end : c.loop-word.word-index ≡ a.count = omega (arith, part_long a.table.now a.at a.count c.requires, c.loop-word-test.false) in
    rw end at c.loop-word.invariant
