-- `line::put_hex` meets its contract: the digits, and then the byte that ends them. Assumes nothing.
use Rattle.text.specs.Digits.{hex_field}
use Rattle.text.proofs.Turns.{ended}
use Rattle.text.proofs.Widths.{hex_length}
use Rattle.text.proofs.line.put_hex.Goals as goal

pub returns : goal.returns
unfolding hex_field
returns c =
    let a = c.args in record { value = rw (hex_length a.value a.end); text_after = ended a.text.now _ _ a.at 16 8 a.value a.end (rw c.from.ensures at c.put_digits.ensures) c.put.ensures }
