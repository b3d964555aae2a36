-- `line::put_decimal` meets its contract: the digits, and then the byte that ends them. Assumes nothing.
use mathlib.Core.Path.{◌∙◌}
use native.Mathlib.Omega.{arith}
use Rattle.text.specs.Digits.{decimal_field}
use Rattle.text.proofs.Turns.{ended}
use Rattle.text.proofs.Widths.{width_most, decimal_size}
use Rattle.text.proofs.line.put_decimal.Goals as goal

pub overflow_add-result : goal.overflow_add-result
overflow_add-result c = omega (arith, c.decimal_width-width.ensures, width_most 19 c.args.value)

pub returns : goal.returns
unfolding decimal_field
returns c =
    let a = c.args in
    let w = c.decimal_width-width in record { value = rw (w.ensures, decimal_size a.value a.end); text_after = ended a.text.now _ _ a.at 10 w.result a.value a.end c.put_digits.ensures c.put.ensures ∙ rw w.ensures }
