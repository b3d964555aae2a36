-- What a program's input leaves in its buffer: no contract can say which bytes were read, only that they lie within it.
use Rattle.std.specs.Prelude.{ℕ, ◌≤◌, Option, Some, None}

abbrev pub InputFits : ℕ → Option ℕ → Type 0
InputFits len (Some n) = n ≤ len
InputFits len None = Unit {0}
