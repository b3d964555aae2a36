-- How numbers and names are laid out in bytes. Nothing here is read by a program: the theorems say that what is laid out so is read back.
use Rattle.std.specs.Prelude.{ℕ, zero, suc, ◌/◌, ◌%◌, ◌<◌, List, [], ◌∷◌, ◌++◌, get_or, length}

-- bytes are below 256
abbrev pub Bytes : List ℕ → Type 0
Bytes s = (i : ℕ) → get_or s i 0 < 256

-- the lowest n bytes of a number: "Little-endian"
unfoldable pub number_bytes : ℕ → ℕ → List ℕ
number_bytes zero v = []
number_bytes (suc n) v = v % 256 ∷ number_bytes n (v / 256)

-- numbers, each as a U32
unfoldable pub word_bytes : List ℕ → List ℕ
word_bytes [] = []
word_bytes (v ∷ vs) = number_bytes 4 v ++ word_bytes vs

-- "name (U16 length, bytes)"
unfoldable pub name_bytes : List ℕ → List ℕ
name_bytes name = number_bytes 2 (length name) ++ name
