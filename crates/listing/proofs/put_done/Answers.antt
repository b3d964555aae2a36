-- The length decides, and then three pieces are stored.
use mathlib.Core.Path.{refl, ◌∙◌}
use native.Mathlib.Omega.{arith}
use Prim.Native.Nat.{◌+◌, ◌<◌}
use lib.ListN.{length}
use Rattle.fields.proofs.Judging.{not_done}
use Rattle.listing.specs.Listing.{end_line}
use Rattle.listing.proofs.Pieces.{end_short, lines_taken, done_stored, done_short}
use Rattle.listing.proofs.put_done.Goals as goal
use Rattle.listing.proofs.put_done.Goals.{then-text-lines-via-then-text-lines, then-text-lines-via-else-text-lines+then-text-lines-2}

pub overflow_add-lines : goal.overflow_add-lines
overflow_add-lines c = omega (arith, c.end_size-lines.ensures, end_short 0 c.args.told.blocks)

pub returns-then-text-lines : goal.returns-then-text-lines
returns-then-text-lines c =
    let size = c.end_size-lines in
    let short : length c.args.text.now < 9 + length (end_line 0 c.args.told.blocks) + c.args.told.bytes =
    elim c.then-text-lines.branch [
      | then-text-lines-via-then-text-lines w ↦ omega (arith, size.ensures, w.if-text-lines.true)
      | then-text-lines-via-else-text-lines+then-text-lines-2 w ↦ omega (arith, size.ensures, w.if-text-lines.false, w.if-text-lines-2.true)
    ] in
    let q = done_short c.args.file.now c.args.told c.args.text.now c.requires short in
    record { result_value = rw c.at.ensures q.0; text_after = q.1 }

pub returns-in_err-put_lines : goal.returns-in_err-put_lines
returns-in_err-put_lines c =
    let a = c.args in
    not_done (c.in_err-put_lines.ensures.result_value
    ∙ lines_taken a.file.now a.told a.text.now c.put_first-from.new.text c.put_first-from.result c.requires c.put_first-from.ensures.text_after
    c.put_first-from.ensures.value (omega (arith, c.end_size-lines.ensures, c.if-text-lines.false, c.if-text-lines-2.false)))

pub returns : goal.returns
returns c =
    let a = c.args in
    let first = c.put_first-from in
    let both = done_stored a.file.now a.told a.text.now first.new.text _ c.put_lines.new.text c.put_end.new.text first.result _ c.requires
    first.ensures.text_after first.ensures.value c.put_lines.ensures.text_after refl c.put_end.ensures.text_after
    (omega (arith, c.end_size-lines.ensures)) (omega (arith, c.if-text-lines.false, c.if-text-lines-2.false)) in
    record { result_value = both.0; text_after = both.1 }
