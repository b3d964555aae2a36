-- Six fields one after the other, each at the end of the one before.
use native.Mathlib.Omega.{arith}
use Rattle.blocks.proofs.Lines.{line_length, line_stored}
use Rattle.text.proofs.Stores.{stored_length}
use Rattle.blocks.specs.Told.{line_of}
use Rattle.text.proofs.Widths.{decimal_length, hex_length}
use Rattle.blocks.proofs.tell.put_line.Goals as goal

pub overflow_add-end-2 : goal.overflow_add-end-2
overflow_add-end-2 c = omega (arith, c.put_word.ensures.value, c.put_decimal-end.ensures.value, decimal_length c.from.result 9)

pub overflow_add-end-3 : goal.overflow_add-end-3
overflow_add-end-3 c = omega (arith, c.put_word.ensures.value, c.put_decimal-end.ensures.value, c.put_hex-end.ensures.value, decimal_length c.from.result 9, hex_length c.args.row.block_type 9)

pub overflow_add-end-4 : goal.overflow_add-end-4
overflow_add-end-4 c = omega (arith, c.put_word.ensures.value, c.put_decimal-end.ensures.value, c.put_hex-end.ensures.value, c.put_decimal-end-2.ensures.value, decimal_length c.from.result 9, hex_length c.args.row.block_type 9, decimal_length c.from-2.result 9)

pub overflow_add-end-5 : goal.overflow_add-end-5
overflow_add-end-5 c = omega (arith, c.put_word.ensures.value, c.put_decimal-end.ensures.value, c.put_hex-end.ensures.value, c.put_decimal-end-2.ensures.value, c.put_decimal-end-3.ensures.value, decimal_length c.from.result 9, hex_length c.args.row.block_type 9, decimal_length c.from-2.result 9, decimal_length c.from-3.result 9)

pub overflow_add-end-6 : goal.overflow_add-end-6
overflow_add-end-6 c = omega (arith, c.requires, c.put_word.ensures.value, c.put_decimal-end.ensures.value, c.put_hex-end.ensures.value, c.put_decimal-end-2.ensures.value, c.put_decimal-end-3.ensures.value, c.put_decimal-end-4.ensures.value, decimal_length c.from.result 9, hex_length c.args.row.block_type 9, decimal_length c.from-2.result 9, decimal_length c.from-3.result 9, decimal_length c.from-4.result 10)

pub returns : goal.returns
returns c =
    let row = c.args.row in
    let text = c.args.text.now in
    let word = c.put_word in
    let offset = rw c.from.ensures at c.put_decimal-end.ensures in
    let block_type = c.put_hex-end in
    let data_size = rw c.from-2.ensures at c.put_decimal-end-2.ensures in
    let meta_size = rw c.from-3.ensures at c.put_decimal-end-3.ensures in
    let depth = rw c.from-4.ensures at c.put_decimal-end-4.ensures in
    record {
      value = omega (arith, line_length row, word.ensures.value, offset.value, block_type.ensures.value, data_size.value, meta_size.value, depth.value);
      text_after = line_stored row c.args.at word.result c.put_decimal-end.result block_type.result c.put_decimal-end-2.result
          c.put_decimal-end-3.result text word.new.text c.put_decimal-end.new.text block_type.new.text c.put_decimal-end-2.new.text
          c.put_decimal-end-3.new.text c.put_decimal-end-4.new.text word.ensures.text_after word.ensures.value offset.text_after
          offset.value block_type.ensures.text_after block_type.ensures.value data_size.text_after data_size.value meta_size.text_after meta_size.value
          depth.text_after;
    }

pub shape_of-text : goal.shape_of-text
shape_of-text c = stored_length c.put_decimal-end-4.new.text c.args.text.now c.args.at (line_of c.args.row) (returns c).text_after
