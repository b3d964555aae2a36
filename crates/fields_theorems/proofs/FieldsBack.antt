-- Fields are read back: a field's bytes are its number's digits to the base 256, lowest first, and the reader puts the same digits together.
-- What stands at an offset is said by `drop`: `drop at s ≡ bytes ++ rest`.
use Prim.Native.Nat.{ℕ, zero, suc, ◌+◌, ◌*◌, ◌/◌, ◌%◌, ◌^◌, ◌≤◌, ◌<◌}
use lib.ListN.{drop, length, length-append}
use lib.Seq.{take-append_seam}
use mathlib.Core.List.{List, [], ◌∷◌, ◌++◌, append_assoc}
use mathlib.Core.Path.{◌≡◌, ap, refl, sym, ◌∙◌}
use mathlib.Core.Bool.{true}
use native.Mathlib.Omega.{arith}
use borrow.Author.Tests.{eq-eqb, le-ltb}
use Rattle.fields.specs.Field.{bytes_at, field_at, little_endian}
use Rattle.fields.specs.Limits.{longest_name}
use Rattle.fields.specs.Name.{name_at, name_bounds, name_part, same, string_at}
use Rattle.fields.specs.Judged.{done}
use Rattle.fields_theorems.specs.Encoding.{number_bytes, name_bytes, word_bytes}
use Rattle.fields_theorems.proofs.Seams.{first_at, past, second_at, within}

-- ---- lengths

-- n bytes are n
pub length_number_bytes : (n v : ℕ) → length (number_bytes n v) ≡ n
unfolding number_bytes
length_number_bytes zero v = refl
length_number_bytes (suc n) v = ap suc (length_number_bytes n (v / 256))

-- a number takes four bytes
pub length_word_bytes : (vs : List ℕ) → length (word_bytes vs) ≡ 4 * length vs
unfolding word_bytes
length_word_bytes [] = refl
length_word_bytes (v ∷ vs) = omega (arith, length-append (number_bytes 4 v) (word_bytes vs), length_number_bytes 4 v, length_word_bytes vs)

-- the bytes of numbers and more numbers
pub word_bytes_append : (vs ws : List ℕ) → word_bytes (vs ++ ws) ≡ word_bytes vs ++ word_bytes ws
unfolding word_bytes
word_bytes_append [] ws = refl
word_bytes_append (v ∷ vs) ws = rw (word_bytes_append vs ws) (sym (append_assoc (number_bytes 4 v) (word_bytes vs) (word_bytes ws)))

-- what follows a run of words begins where the run ends
pub after_words : (s vs rest : List ℕ) (at n : ℕ) → drop at s ≡ word_bytes vs ++ rest → 4 * length vs ≡ n → drop (at + n) s ≡ rest
after_words s vs rest at n here e = past s (word_bytes vs) rest at here n (omega (arith, length_word_bytes vs))

-- two runs of words, one after the other
pub two_runs : (s vs ws rest : List ℕ) (at : ℕ) → drop at s ≡ word_bytes (vs ++ ws) ++ rest → drop at s ≡ word_bytes vs ++ (word_bytes ws ++ rest)
two_runs s vs ws rest at here =
    here ∙ ap (λ (l : List ℕ). l ++ rest) (word_bytes_append vs ws) ∙ append_assoc (word_bytes vs) (word_bytes ws) rest

-- ---- one field

-- a number's bytes are read to the number
pub number_back : (k : ℕ) (s rest : List ℕ) (at v : ℕ) → v < 256 ^ k → drop at s ≡ number_bytes k v ++ rest → little_endian k s at ≡ v
unfolding little_endian number_bytes
number_back zero s rest at v h here = omega arith
number_back (suc k) s rest at v h here =
    let low = first_at s (v % 256) (number_bytes k (v / 256) ++ rest) at 0 here in
    let next = second_at s (v % 256) (number_bytes k (v / 256) ++ rest) at here in
    let high = number_back k s rest (suc at) (v / 256) (omega arith) next in
    rw (low, high) (omega arith)

-- so is a field of a width above 0
pub field_back : (k : ℕ) (s rest : List ℕ) (at v : ℕ) → 0 < k → v < 256 ^ k → drop at s ≡ number_bytes k v ++ rest → field_at k s at ≡ done v
unfolding field_at
field_back k s rest at v w h here =
    let size = length_number_bytes k v in
    let room : at + k ≤ length s = omega (arith, within s (number_bytes k v) rest at here (omega arith)) in
    rw (le-ltb (length s) (at + k) room, number_back k s rest at v h here)

-- ---- a name

-- a name takes two bytes more than its own
pub length_name_bytes : (name : List ℕ) → length (name_bytes name) ≡ length name + 2
unfolding name_bytes
length_name_bytes name = omega (arith, length-append (number_bytes 2 (length name)) name, length_number_bytes 2 (length name))

-- what follows a name begins where it ends
pub after_name : (s name rest : List ℕ) (at : ℕ) → drop at s ≡ name_bytes name ++ rest → drop (at + (length name + 2)) s ≡ rest
after_name s name rest at here = past s (name_bytes name) rest at here (length name + 2) (length_name_bytes name)

-- a name lies within the bytes
name_room : (s name rest : List ℕ) (at : ℕ) → drop at s ≡ name_bytes name ++ rest → at + (length name + 2) ≤ length s
name_room s name rest at here =
    let size = length_name_bytes name in
    omega (arith, within s (name_bytes name) rest at here (omega arith))

-- a name is read to its length
pub name_back : (s name rest : List ℕ) (at : ℕ) → length name ≤ longest_name → drop at s ≡ name_bytes name ++ rest → name_at s at ≡ done (length name)
unfolding name_at string_at name_bytes
name_back s name rest at h here =
    let bytes = here ∙ append_assoc (number_bytes 2 (length name)) name rest in
    let field = field_back 2 s (name ++ rest) at (length name) (omega arith) (omega arith) bytes in
    rw (field, le-ltb (length s) (at + (length name + 2)) (name_room s name rest at here), le-ltb longest_name (length name) h)

-- its bytes follow the length
pub name_bounds_back : (s name rest : List ℕ) (at : ℕ) → length name ≤ longest_name → drop at s ≡ name_bytes name ++ rest
    → name_bounds s at ≡ done (record { at = at + 2; size = length name })
unfolding name_bounds
name_bounds_back s name rest at h here = rw (name_back s name rest at h here)

-- and are handed out as they stand
pub name_part_lem : (s name rest : List ℕ) (at : ℕ) → length name ≤ longest_name → drop at s ≡ name_bytes name ++ rest → name_part s at ≡ name
unfolding name_part bytes_at name_bytes
name_part_lem s name rest at h here =
    let bytes = here ∙ append_assoc (number_bytes 2 (length name)) name rest in
    let from : drop (at + 2) s ≡ name ++ rest = past s (number_bytes 2 (length name)) (name ++ rest) at bytes 2 (length_number_bytes 2 (length name)) in
    let room : at + 2 + length name ≤ length s = omega (arith, name_room s name rest at here) in
    rw (name_bounds_back s name rest at h here, le-ltb (length s) (at + 2 + length name) room, from) (take-append_seam name rest)

-- a name is the same as itself
pub same_name : (name : List ℕ) → same name name ≡ true
unfolding same
same_name [] = refl
same_name (a ∷ more) = rw (eq-eqb a a refl, same_name more)
