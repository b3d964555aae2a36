-- Padding (01, "Blocks"): "zero bytes to a multiple of 4".
use Rattle.std.specs.Prelude.{ℕ, zero, suc, ◌+◌, ◌*◌, ◌/◌, List, get_or, eqb}
use Rattle.fields.specs.Numbers.{bad_padding}
use Rattle.fields.specs.Judged.{Judged, done, refused, pick}

-- a size with its padding
abbrev pub aligned_to : ℕ → ℕ
aligned_to size = (size + 3) / 4 * 4

-- judged, and nothing handed out
abbrev pub fine : Judged (Unit {0})
fine = done tt

-- of k bytes from `at` on, the first that isn't 0 is refused
unfoldable pub zeros_of : ℕ → List ℕ → ℕ → Judged (Unit {0})
zeros_of zero s at = fine
zeros_of (suc k) s at = pick (eqb (get_or s at 0) 0) (zeros_of k s (suc at)) (refused bad_padding at)
