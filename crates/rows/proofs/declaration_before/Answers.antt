-- The invariant: rows from `left` on have no such declaration.
use mathlib.Core.Path.{◌∙◌, ap, sym}
use Rattle.fields.specs.Judged.{done}
use Rattle.rows.proofs.Below.{below_found, below_none, below_passed}
use Rattle.rows.proofs.declaration_before.Goals as goal

pub returns-then-is_declaration : goal.returns-then-is_declaration
returns-then-is_declaration c = let l = c.loop-left in ap done c.offset_in.ensures ∙ sym (l.invariant ∙ below_found _ _ _ l.left c.loop-left-test.true (sym c.is_declaration.ensures ∙ c.if-is_declaration.true))

pub loop-left-preserved : goal.loop-left-preserved
loop-left-preserved c = let l = c.loop-left in l.invariant ∙ below_passed _ _ _ l.left c.loop-left-test.true (sym c.is_declaration.ensures ∙ c.if-is_declaration.false)

pub returns : goal.returns
returns c = let l = c.loop-left in sym (l.invariant ∙ below_none _ _ _ l.left c.loop-left-test.false)
