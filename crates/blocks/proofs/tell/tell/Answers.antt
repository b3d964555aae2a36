-- The line is short.
use mathlib.Core.Bool.{true}
use native.Mathlib.Omega.{arith}
use Rattle.blocks.proofs.Lines.{bytes_short}
use Rattle.blocks.proofs.tell.tell.Goals as goal
use Rattle.blocks.proofs.tell.tell.Goals.{then-lines, else-lines}

pub overflow_add-result-2 : goal.overflow_add-result-2
overflow_add-result-2 c =
    elim c.if-lines.branch [
      | then-lines w ↦ omega (arith, w.size-is, w.put_line-size.ensures.value, bytes_short true c.args.row, c.requires)
      | else-lines w ↦ omega (arith, w.size-is, c.requires)
    ]
