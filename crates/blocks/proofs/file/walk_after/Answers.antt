-- The first block is told, and then the walk tells the others.
use mathlib.Core.Path.{sym, ◌∙◌, ap}
use native.Mathlib.Omega.{arith}
use Rattle.blocks.specs.Inside.{Stored, answer_of, none_told}
use Rattle.blocks.proofs.Turns.{told_short}
use Rattle.blocks.proofs.Files.{after_first_lem, fits_more}
use Rattle.blocks.proofs.file.walk_after.Goals as goal

pub walk-requires : goal.walk-requires
walk-requires c =
    let sh = told_short c.args.lines c.row_of.result 0 none_told c.tell-told.result c.tell-told.ensures.value (omega arith) (omega arith) in
    (c.requires.1, c.requires.2, omega arith, omega (arith, sh.blocks, c.requires.0), omega (arith, sh.bytes, c.requires.0))

pub returns : goal.returns
returns c =
    let a = c.args in
    let e = after_first_lem a.file.now a.first a.lines a.table.now a.text.now c.tell-told.new.table c.tell-told.new.text c.row_of.result c.tell-told.result
    c.row_of.ensures c.tell-told.ensures.value c.tell-told.ensures.table_after c.tell-told.ensures.text_after in
    let w = c.walk.ensures in
    record { result_value = w.result_value ∙ ap answer_of (sym e); table_after = w.table_after ∙ ap (λ (r : Stored). r.table) (sym e); text_after = w.text_after ∙ ap (λ (r : Stored). r.text) (sym e); told_fits = fits_more _ _ _ c.requires.2 w.told_fits }
