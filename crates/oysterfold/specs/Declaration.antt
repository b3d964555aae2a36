-- What the exported reader of a mesh declaration hands back: 01's number, the U32 fields after the name, and in the result place, number of
-- fields, name offset and name length.
use Rattle.std.specs.Prelude.{ℕ, zero, suc, ◌+◌, ◌-◌, ◌/◌, List, [], ◌∷◌, ◌++◌, drop, length}
use Rattle.fields.specs.Judged.{Judged, done, refused, on_done, room_for}
use Rattle.fields.specs.Field.{little_endian}
use Rattle.mesh.specs.Declaration.{declaration_of}
use Rattle.oysterfold.specs.Result.{answer_for, result_for}

-- place, number of fields, name offset, name length
abbrev pub result_words : ℕ
result_words = 4

-- the name stands after the two bytes of its length
abbrev pub name_offset : ℕ
name_offset = 2

-- n U32 fields from `at` on
unfoldable pub words_at : ℕ → List ℕ → ℕ → List ℕ
words_at zero s at = []
words_at (suc n) s at = little_endian 4 s at ∷ words_at n s (at + 4)

-- the end of a name of that many bytes
abbrev pub name_end : ℕ → ℕ
name_end size = name_offset + size

-- from there to the data's end a declaration is U32 fields and nothing else (proofs/Whole.antt: no byte is left over)
abbrev pub field_count : List ℕ → ℕ → ℕ
field_count s size = (length s - name_end size) / 4

-- "U32 fields in file order from chain index to bone count, shadings as they come"
abbrev pub fields_of : List ℕ → ℕ → List ℕ
fields_of s size = words_at (field_count s size) s (name_end size)

-- the fields of a declaration, and the length of its name
pub record Fields : Type 0 where
  pub values : List ℕ
  pub name_size : ℕ

-- "12 (place 0) where fields_len is below the number of fields"
unfoldable pub fields_in : List ℕ → List ℕ → ℕ → Judged Fields
fields_in s table size = room_for (fields_of s size) table (record { values = fields_of s size; name_size = size })

-- a result too short is 12, before all else; then "all judged as 01 judges a declaration"; then the room for the fields
unfoldable pub declaration_in : List ℕ → List ℕ → List ℕ → Judged Fields
declaration_in s table result = answer_for result_words result (on_done (declaration_of s) λ d. fields_in s table d.name_size)

-- "place first; on a refusal the place and every other word of it 0"
abbrev pub fields_words : Judged Fields → List ℕ
fields_words (done f) = 0 ∷ length f.values ∷ name_offset ∷ f.name_size ∷ []
fields_words (refused n p) = p ∷ 0 ∷ 0 ∷ 0 ∷ []

unfoldable pub declaration_result : Judged Fields → List ℕ → List ℕ
declaration_result answer result = result_for result_words (fields_words answer) result

-- "Fields past the number are untouched"; a refusal leaves all as they were
abbrev pub fields_after : Judged Fields → List ℕ → List ℕ
fields_after (done f) table = f.values ++ drop (length f.values) table
fields_after (refused n p) table = table
