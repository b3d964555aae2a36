-- Little-endian fields of a list of bytes (01, "Blocks": "Little-endian").
use Rattle.std.specs.Prelude.{ℕ, zero, suc, ◌+◌, ◌*◌, List, [], length, get_or, take, drop, ltb, Option, Some, None, Result, Ok, Err}
use Rattle.fields.specs.Numbers.{truncated, fault_number}
use Rattle.fields.specs.Judged.{Judged, done, refused, refused_if, pick}
use Rattle.fields.specs.declared.refusal.Refusal.{Refusal}

-- the number whose k bytes stand at `at`, lowest byte first
unfoldable pub little_endian : ℕ → List ℕ → ℕ → ℕ
little_endian zero s at = 0
little_endian (suc k) s at = get_or s at 0 + 256 * little_endian k s (suc at)

-- the field of that width at `at`; 1 at its offset where the bytes end before it does
unfoldable pub field_at : ℕ → List ℕ → ℕ → Judged ℕ
field_at width s at = refused_if (ltb (length s) (at + width)) truncated at (done (little_endian width s at))

-- the `size` bytes from `at` on; none where they pass the end
unfoldable pub bytes_at : List ℕ → ℕ → ℕ → List ℕ
bytes_at s at size = pick (ltb (length s) (at + size)) [] (take size (drop at s))

-- 01's number, place and value of an answer at `at`
abbrev pub field_given : {A : Type 0} → (A → ℕ) → ℕ → Option A → Judged ℕ
field_given value at (Some number) = done (value number)
field_given value at None = refused truncated at

-- the same of an answer that has the refusal in it
abbrev pub number_given : {A : Type 0} → (A → ℕ) → Result A Refusal → Judged ℕ
number_given value (Ok number) = done (value number)
number_given value (Err e) = refused (fault_number e.fault) e.place
