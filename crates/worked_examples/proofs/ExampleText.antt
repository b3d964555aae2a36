-- 01's whole example of a climb text is read to the example list of the table. By computing.
use mathlib.Core.Path.{◌≡◌, refl}
use Rattle.fields.specs.Judged.{done}
use Rattle.fields.specs.Name.{same}
use Rattle.climb.specs.Digits.{are_digits, is_decimal, is_pattern, value_after}
use Rattle.climb.specs.Lines.{field_of, fields_after, has, past, row_from, until}
use Rattle.climb.specs.Climb.{climb_of, items_from, step_from}
use Rattle.worked_examples.specs.Row.{example_list}
use Rattle.worked_examples.specs.ExampleText.{example_text}

pub example_read : climb_of example_text ≡ done example_list
unfolding example_text climb_of row_from items_from step_from fields_after field_of is_decimal is_pattern are_digits value_after until past has same
example_read = refl
