-- Inside the crate: what its private functions promise. No public promise cites this file.
use Rattle.std.specs.Prelude.{ℕ, ◌^◌, ◌<◌, ◌≡◌, List}
use Rattle.fields.specs.Field.{little_endian}

-- r is the number of that width at `at`, and is below 256 to the width
pub record ValueOf (width : ℕ) (s : List ℕ) (at r : ℕ) : Type 0 where
  pub value : r ≡ little_endian width s at
  pub small : r < 256 ^ width
