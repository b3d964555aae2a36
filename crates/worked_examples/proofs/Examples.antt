-- Each row of the table holds: both its sides compute to the same.
use mathlib.Core.Path.{refl}
use Rattle.coder.specs.Bytes.{padded, put_bit, put_bits, store_bits}
use Rattle.coder.specs.Forms.{limits_formed, writer_formed}
use Rattle.coder.specs.Histogram.{histogram_formed, raised, span_of, sum, thinned}
use Rattle.coder.specs.Interval.{after_symbol, narrow, postpones, settle_tops, settled_bits, symbol_bits, top_bits}
use Rattle.coder.specs.Symbols.{after_symbols, dynamic_after, dynamic_spans, plain_spans, reversed, static_spans, symbols_bits}
use Rattle.coder.specs.Writing.{dynamic_number, write, write_dynamic, write_fault, write_number, write_static, written_histogram}
use Rattle.coder_theorems.specs.Runs.{after_step, call_write, write_calls}
use Rattle.progressive.specs.StepTable.{faces_before, step_formed, step_offset, well_formed}
use Rattle.progressive.specs.Mesh.{fits}
use Rattle.progressive.specs.Rules.{allowed_on, corner_index, move_numbers, new_face_allowed, numbers_allowed, other_corner, other_position, split_and_other, split_triangle}
use Rattle.progressive.specs.Laying.{clear_after, laid, laid_faces, laid_positions, new_face_field, new_face_number, shows_step, undone, undone_faces, undone_positions}
use Rattle.progressive.specs.Steps.{coarsened, coarsened_by, counts_agree, level_of, refined, refined_by}
use Rattle.progressive_theorems.specs.Calls.{answer_to, replies}
use Rattle.worked_examples.specs.Row.{AllHold}
use Rattle.worked_examples.specs.Table.{table}

-- all the rows of the table hold
pub examples : AllHold table
unfolding after_step after_symbol after_symbols call_write dynamic_after dynamic_number dynamic_spans histogram_formed limits_formed narrow padded plain_spans
    postpones put_bit put_bits raised reversed settle_tops settled_bits span_of static_spans store_bits sum symbol_bits symbols_bits thinned top_bits
    write write_calls write_dynamic write_fault write_number write_static writer_formed written_histogram
    replies answer_to refined refined_by coarsened coarsened_by level_of counts_agree step_offset faces_before step_formed well_formed corner_index new_face_field new_face_number fits other_position other_corner split_and_other split_triangle move_numbers new_face_allowed numbers_allowed allowed_on clear_after laid laid_faces laid_positions shows_step undone undone_faces undone_positions
examples = (refl, (refl, (refl, (refl, (refl, (refl, (refl, (refl, (refl, tt)))))))))
