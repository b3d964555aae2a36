-- Strings and names (01, "Blocks": "name (U16 length, bytes)"). A name is one field: it is judged whole, and then its length (8).
use Rattle.std.specs.Prelude.{ℕ, ◌+◌, Bool, true, false, ◌&&◌, List, [], ◌∷◌, eqb, ltb, length}
use Rattle.fields.specs.Numbers.{truncated, bad_name}
use Rattle.fields.specs.Limits.{longest_name}
use Rattle.fields.specs.Judged.{Judged, done, on_done, refused_if}
use Rattle.fields.specs.Field.{field_at}
use Rattle.fields.specs.Bounds.{part_of}
use Rattle.fields.specs.declared.bounds.Bounds.{Bounds}

-- the number of bytes of the string at `at`
unfoldable pub string_at : List ℕ → ℕ → Judged ℕ
string_at s at = on_done (field_at 2 s at) λ size. refused_if (ltb (length s) (at + (size + 2))) truncated at (done size)

-- the number of bytes of the name at `at`; "a name above 255 bytes" is 8 (name 256 bytes: 8)
unfoldable pub name_at : List ℕ → ℕ → Judged ℕ
name_at s at = on_done (string_at s at) λ size. refused_if (ltb longest_name size) bad_name at (done size)

-- the bytes of that name, which follow its length
unfoldable pub name_bounds : List ℕ → ℕ → Judged Bounds
name_bounds s at = on_done (name_at s at) λ size. done (record { at = at + 2; size = size })

-- "A name is handed out as a part of the caller's bytes"; none where it is refused
unfoldable pub name_part : List ℕ → ℕ → List ℕ
name_part s at = part_of s (name_bounds s at)

-- two names are the same
unfoldable pub same : List ℕ → List ℕ → Bool
same [] [] = true
same [] (b ∷ others) = false
same (a ∷ more) [] = false
same (a ∷ more) (b ∷ others) = eqb a b && same more others
