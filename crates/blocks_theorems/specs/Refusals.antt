-- Which refusals a judgement may come to (01, "Numbers given back"; include/oysterfold.h: "Answers 0 to 9, 11, 12").
use Rattle.std.specs.Prelude.{ℕ, ◌≤◌, true, List, [], ◌∷◌, ◌≡◌, eqb}
use Rattle.fields.specs.Judged.{Judged, done, refused, pick}
use Rattle.fields.specs.Member.{member}
use Rattle.blocks.specs.Block.{levels}

-- a refusal has one of these numbers, and its place is at most `end`
unfoldable pub Refusing : {A : Type 0} → List ℕ → ℕ → Judged A → Type 0
Refusing numbers end (done a) = Unit {0}
Refusing numbers end (refused n p) = (member n numbers ≡ true) × (p ≤ end)

-- of the first block: "type and data size (2, never 6)"
abbrev pub first_numbers : List ℕ
first_numbers = 1 ∷ 2 ∷ 3 ∷ 4 ∷ 5 ∷ 9 ∷ []

-- of a block inside a chain: "a field or block passing its end is 7, not 1"
abbrev pub chain_numbers : List ℕ
chain_numbers = 5 ∷ 6 ∷ 7 ∷ 8 ∷ 9 ∷ 11 ∷ []

-- of a block at the top
abbrev pub block_numbers : List ℕ
block_numbers = 1 ∷ chain_numbers

-- of a block that is read by itself, by its level
abbrev pub numbers_at : ℕ → List ℕ
numbers_at remaining = pick (eqb remaining levels) block_numbers chain_numbers

-- of a block's data or meta data
abbrev pub part_numbers : List ℕ
part_numbers = 1 ∷ 9 ∷ []

-- of a chain's name, which is judged within the chain: cut it is 7, not 1
abbrev pub chain_name_numbers : List ℕ
chain_name_numbers = 1 ∷ 7 ∷ 8 ∷ 9 ∷ 11 ∷ []

-- of a whole file
abbrev pub file_numbers : List ℕ
file_numbers = 1 ∷ 2 ∷ 3 ∷ 4 ∷ 5 ∷ 6 ∷ 7 ∷ 8 ∷ 9 ∷ 11 ∷ []

-- of a walk that is told in a lent table or text
abbrev pub told_numbers : List ℕ
told_numbers = 1 ∷ 2 ∷ 3 ∷ 4 ∷ 5 ∷ 6 ∷ 7 ∷ 8 ∷ 9 ∷ 11 ∷ 12 ∷ []
