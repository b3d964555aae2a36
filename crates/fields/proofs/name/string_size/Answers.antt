-- The length is read, and then the bytes are tested for room.
use mathlib.Core.Path.{sym, ◌∙◌}
use Rattle.fields.specs.Name.{string_at}
use Rattle.fields.proofs.name.string_size.Goals as goal

pub returns-in_err-field_at : goal.returns-in_err-field_at
unfolding string_at
returns-in_err-field_at c = rw (c.from_residual.ensures, ← c.in_err-field_at.ensures)

pub returns-then-passes : goal.returns-then-passes
unfolding string_at
returns-then-passes c = rw (← c.in_ok-field_at.ensures, ← c.from-size.ensures, sym c.passes.ensures ∙ c.if-passes.true)

pub returns-else-passes : goal.returns-else-passes
unfolding string_at
returns-else-passes c = rw (← c.in_ok-field_at.ensures, ← c.from-size.ensures, sym c.passes.ensures ∙ c.if-passes.false)
