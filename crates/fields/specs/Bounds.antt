-- A part of the caller's bytes (01: "A name is handed out as a part of the caller's bytes"): its bounds, and the bytes within them.
use Rattle.std.specs.Prelude.{ℕ, List, [], Result, Ok, Err}
use Rattle.fields.specs.Judged.{Judged, done, refused}
use Rattle.fields.specs.Field.{bytes_at}
use Rattle.fields.specs.declared.bounds.Bounds.{Bounds}

-- the bytes within bounds that were judged; none where they are refused
abbrev pub part_of : List ℕ → Judged Bounds → List ℕ
part_of s (done b) = bytes_at s b.at b.size
part_of s (refused n p) = []

-- the same of bounds that the code hands back
abbrev pub part_given : {E : Type 0} → List ℕ → Result Bounds E → List ℕ
part_given s (Ok b) = bytes_at s b.at b.size
part_given s (Err e) = []
