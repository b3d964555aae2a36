-- The first block decides.
use mathlib.Core.Path.{sym, ◌∙◌, ap}
use Rattle.fields.proofs.Judging.{handed_on}
use Rattle.blocks.specs.Inside.{Stored, stored, answer_of, none_told}
use Rattle.blocks.proofs.Files.{first_fits, file_after, file_refused}
use Rattle.blocks.proofs.file.walk_file.Goals as goal

pub walk_after-requires : goal.walk_after-requires
walk_after-requires c = let f = first_fits _ _ (sym c.in_ok-first.ensures) in (f.starts, f.ends, f.small)

pub returns-in_err-first : goal.returns-in_err-first
returns-in_err-first c =
    let a = c.args in
    let e = handed_on _ _ c.from_residual.ensures.1 in
    let q = file_refused a.file.now a.lines a.table.now a.text.now _ _ (sym c.in_err-first.ensures) in
    record { result_value = e ∙ q.answer; table_after = q.in_table; text_after = q.in_text; told_fits = rw e tt }

pub returns : goal.returns
returns c =
    let a = c.args in
    let e = ap (stored a.table.now a.text.now none_told a.lines) (file_after a.file.now c.in_ok-first.first (sym c.in_ok-first.ensures)) in
    let w = c.walk_after.ensures in
    record {
      result_value = w.result_value ∙ ap answer_of (sym e);
      table_after = w.table_after ∙ ap (λ (r : Stored). r.table) (sym e);
      text_after = w.text_after ∙ ap (λ (r : Stored). r.text) (sym e);
      told_fits = w.told_fits;
    }
