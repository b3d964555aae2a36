-- A raised histogram is well formed again, so that it can be raised a second time.
use Rattle.coder.proofs.Raising.{escape_after, raised_formed, value_after}
use Rattle.std.proofs.Common.{◌∙◌, rules}
use Rattle.coder.proofs.histogram.raise_after.Goals as goal

pub raise-requires-then-symbol-eq0 : goal.raise-requires-then-symbol-eq0
raise-requires-then-symbol-eq0 c =
    let a = c.args in
    (search rules, record { formed = rw c.raise.ensures (raised_formed a.h.now a.symbol (search rules)); summed = search rules })

pub returns-then-symbol-eq0 : goal.returns-then-symbol-eq0
returns-then-symbol-eq0 c =
    let a = c.args in
    rw (c.raise-then-symbol-eq0.ensures, c.raise.ensures) (escape_after a.h.now a.symbol a.value (search rules))

pub returns-else-symbol-eq0 : goal.returns-else-symbol-eq0
returns-else-symbol-eq0 c =
    let a = c.args in
    c.raise.ensures ∙ value_after a.h.now a.symbol a.value (search rules)
