-- What was to be told at the call is what is still to be told. Each turn of the loop takes it one step on by a law of Turns; the call
-- of the walk itself, with one level less, is one of these steps.
use Rattle.std.proofs.Common.{◌≡◌, false, ◌*◌, ◌≤◌, length}
use Rattle.blocks.specs.Walk.{walk_of}
use Rattle.blocks.specs.Inside.{stored}
use Rattle.blocks.proofs.walk.+walk.Given as goal

abbrev pub decreases-walk : goal.decreases-walk
decreases-walk l = l.remaining

abbrev pub invariant-loop-left : goal.invariant-loop-left
invariant-loop-left l = record {
  at_within : l.at ≤ length l.s;
  blocks_told : l.told.blocks ≤ l.at;
  bytes_told : l.told.bytes ≤ 9 * l.at;
  table_length : length l.table ≡ length l.initial.table;
  text_length : length l.text ≡ length l.initial.text;
  still_told : stored l.initial.table l.initial.text l.initial.told l.lines (walk_of l.remaining l.initial._left l.s l.initial.at false)
      ≡ stored l.table l.text l.told l.lines (walk_of l.remaining l._left l.s l.at l.continued);
}
