use mathlib.Core.Path.{sym, ◌∙◌}
use Rattle.fields.proofs.Names.{same_pointwise}
use Rattle.fields.proofs.name.is_same.Goals as goal

pub returns : goal.returns
returns c = c.eq.ensures ∙ sym (same_pointwise c.args.a.now c.args.b.now)
