-- What an exported function hands back beside the tables: 01's number, and in the result's first two words place and value.
use Rattle.std.specs.Prelude.{ℕ, List, [], ◌∷◌, ltb, length}
use Rattle.std.proofs.lemmas.List.Edits.{sets}
use Rattle.fields.specs.Numbers.{no_room}
use Rattle.fields.specs.Judged.{Judged, done, refused, pick, refused_if}

abbrev pub result_words : ℕ
result_words = 2

-- "place first; on a refusal the place and every other word of it 0"
abbrev pub words_of : Judged ℕ → List ℕ
words_of (done value) = 0 ∷ value ∷ []
words_of (refused n p) = p ∷ 0 ∷ []

-- a result too short for so many words is 12, before all else
abbrev pub answer_for : {A : Type 0} → ℕ → List ℕ → Judged A → Judged A
answer_for words result answer = refused_if (ltb (length result) words) no_room 0 answer

-- and stays as it was
abbrev pub result_for : ℕ → List ℕ → List ℕ → List ℕ
result_for n words result = pick (ltb (length result) n) result (sets result 0 words)

unfoldable pub answer_in : {A : Type 0} → List ℕ → Judged A → Judged A
answer_in result answer = answer_for result_words result answer

unfoldable pub result_of : Judged ℕ → List ℕ → List ℕ
result_of answer result = result_for result_words (words_of answer) result

-- a value told, at place 0; with 0 for it, a refusal that has no place
abbrev pub value_told : ℕ → List ℕ → List ℕ
value_told value result = sets result 0 (0 ∷ value ∷ [])
