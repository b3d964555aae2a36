-- What the exported reader of a file's header hands back: 01's number, and in the result place, fields and the next block's offset.
use Rattle.std.specs.Prelude.{ℕ, List, [], ◌∷◌}
use Rattle.fields.specs.Judged.{Judged, done, refused}
use Rattle.blocks.specs.Header.{first_of}
use Rattle.blocks.specs.declared.header.First.{First}
use Rattle.oysterfold.specs.Result.{answer_for, result_for}

-- place and seven values
abbrev pub header_length : ℕ
header_length = 8

-- "place, minor version, profile, declaration size, file size, character encoding, units scaling factor .., offset of the next block"; "on a
-- refusal the place and every other word of it 0"
abbrev pub header_words : Judged First → List ℕ
header_words (done first) =
    let h = first.fields in
    0 ∷ h.minor_version ∷ h.profile ∷ h.declaration_size ∷ h.file_size ∷ h.encoding ∷ h.units ∷ first.next ∷ []
header_words (refused n p) = p ∷ 0 ∷ 0 ∷ 0 ∷ 0 ∷ 0 ∷ 0 ∷ 0 ∷ []

-- a result too short is 12, before all else; then the header is "judged as the walk judges the first block"
unfoldable pub header_in : List ℕ → List ℕ → Judged First
header_in s result = answer_for header_length result (first_of s)

unfoldable pub header_result : Judged First → List ℕ → List ℕ
header_result answer result = result_for header_length (header_words answer) result
