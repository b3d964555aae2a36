-- The rules one by one; the smaller of two numbers.
use mathlib.Core.Path.{◌∙◌}
use Rattle.mesh.specs.Base.{base_rules}
use Rattle.mesh.proofs.Heads.{smaller_min}
use Rattle.mesh.proofs.head.base_rules.Goals as goal

pub returns : goal.returns
unfolding base_rules
returns c =
    rw (
      c.base_count.ensures,
      c.base_count-2.ensures,
      c.base_count-3.ensures,
      c.base_count-4.ensures,
      c.base_count-5.ensures,
      c.base_count-6.ensures,
      c.min.ensures ∙ smaller_min _ _,
    )
