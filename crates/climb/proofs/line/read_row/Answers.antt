-- Each test in turn.
use mathlib.Core.Path.{◌∙◌, sym}
use Rattle.std.specs.Prelude.{None}
use Rattle.climb.specs.Inside.{form_of, rule_of}
use Rattle.climb.specs.Lines.{line_feed}
use Rattle.climb.proofs.Finding.{found_has}
use Rattle.std.proofs.lemmas.List.{length-map}
use Rattle.climb.proofs.Lines.{row_bad, row_done, row_other, row_unended}
use Rattle.climb.proofs.line.read_row.Goals as goal
use Rattle.climb.proofs.line.read_row.Goals.{then-not-starts_with-via-then-not-starts_with, then-not-starts_with-via-else-not-starts_with+then-not-read_fields}

pub returns-in_default-clause-table_after : goal.returns-in_default-clause-table_after
returns-in_default-clause-table_after c =
    let a = c.args in
    let from = a.from in
    rw (c.bad_line.ensures.0, c.bad_line.ensures.1)
    (row_unended a.text.now (form_of a.form) from.at from.to from.line a.table.now (found_has line_feed a.text.now from.at None c.in_default.ensures))

pub returns-then-not-starts_with-clause-table_after : goal.returns-then-not-starts_with-clause-table_after
returns-then-not-starts_with-clause-table_after c =
    let a = c.args in
    let from = a.from in
    let f = c.in-Some.ensures in
    elim c.then-not-starts_with.branch [
      | then-not-starts_with-via-then-not-starts_with w ↦ rw (c.bad_line-then-not-starts_with.ensures.0, c.bad_line-then-not-starts_with.ensures.1)
          (row_other a.text.now (form_of a.form) from.at from.to from.line a.table.now c.in-Some.end f.0 f.1 (sym c.starts_with.ensures ∙ w.if-not-starts_with.true))
      | then-not-starts_with-via-else-not-starts_with+then-not-read_fields w ↦ rw (c.bad_line-then-not-starts_with.ensures.0, c.bad_line-then-not-starts_with.ensures.1)
          (row_bad a.text.now (form_of a.form) from.at from.to from.line a.table.now c.in-Some.end f.0 f.1 (sym c.starts_with.ensures ∙ w.if-not-starts_with.false)
          _ w.read_fields.result (w.read_fields.ensures from.line) w.if-not-read_fields.true)
    ]

pub returns-clause-table_after : goal.returns-clause-table_after
returns-clause-table_after c =
    let a = c.args in
    let from = a.from in
    let f = c.in-Some.ensures in
    row_done a.text.now (form_of a.form) from.at from.to from.line a.table.now c.in-Some.end f.0 f.1 (sym c.starts_with.ensures ∙ c.if-not-starts_with.false)
    _ c.read_fields.result (c.read_fields.ensures from.line) c.if-not-read_fields.false _ (length-map a.form.rules.now rule_of)
