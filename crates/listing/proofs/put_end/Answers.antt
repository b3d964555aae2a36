-- Three fields one after the other.
use native.Mathlib.Omega.{arith}
use Rattle.text.proofs.Widths.{decimal_length}
use Rattle.listing.proofs.Pieces.{end_length, end-stored}
use Rattle.listing.proofs.put_end.Goals as goal

pub overflow_add-size : goal.overflow_add-size
overflow_add-size c = omega (arith, decimal_length c.from.result 9, decimal_length c.args.blocks 10, c.put_word-size.ensures.value, c.put_decimal-size.ensures.value)

pub overflow_add-result : goal.overflow_add-result
overflow_add-result c = omega (arith, decimal_length c.from.result 9, decimal_length c.args.blocks 10, c.put_word-size.ensures.value, c.put_decimal-size.ensures.value, c.put_decimal.ensures.value)

pub returns : goal.returns
returns c =
    let a = c.args in
    let word = c.put_word-size in
    let number = rw c.from.ensures at c.put_decimal-size.ensures in
    let blocks = c.put_decimal in
    record {
      value = omega (arith, end_length a.number a.blocks, word.ensures.value, number.value, blocks.ensures.value);
      text_after = end-stored a.number a.blocks word.result c.put_decimal-size.result a.text.now word.new.text c.put_decimal-size.new.text
          blocks.new.text word.ensures.text_after word.ensures.value number.text_after number.value blocks.ensures.text_after;
    }
