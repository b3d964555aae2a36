-- Eight digits.
use mathlib.Core.Path.{◌∙◌}
use Rattle.climb.proofs.Numerals.{pattern_eight, pattern_other}
use Rattle.climb.proofs.digits.pattern.Goals as goal

pub returns-then-field-ne8 : goal.returns-then-field-ne8
returns-then-field-ne8 c = pattern_other c.args.field.now c.if-field-ne8.true

pub returns : goal.returns
returns c = c.value_of.ensures ∙ pattern_eight c.args.field.now c.if-field-ne8.false
