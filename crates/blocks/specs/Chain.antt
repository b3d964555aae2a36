-- The fields of a chain (clause 9.4.3; 01, "Blocks"): "A chain (14) holds name (U16 length, bytes), type, attributes, padding to 4
-- from the data's start, modifier count, then that many blocks." A chain's bytes are those of the file up to the chain's end.
use Rattle.std.specs.Prelude.{ℕ, ◌+◌, ◌-◌, List, eqb, ltb, length}
use Rattle.fields.specs.Numbers.{truncated, bad_chain}
use Rattle.fields.specs.Judged.{Judged, done, refused, on_done, refused_if, pick}
use Rattle.fields.specs.Field.{field_at}
use Rattle.fields.specs.Name.{name_at}
use Rattle.blocks.specs.Padding.{aligned_to, zeros_of}
use Rattle.blocks.specs.declared.chain.Run.{Run}

-- "a field or block passing its end is 7, not 1"
abbrev pub chain_number : ℕ → ℕ
chain_number n = pick (eqb n truncated) bad_chain n

abbrev pub in_chain : {A : Type 0} → Judged A → Judged A
in_chain (done a) = done a
in_chain (refused n p) = refused (chain_number n) p

-- padding from `from` up to `to`, and the modifier count
unfoldable pub count_at : List ℕ → ℕ → ℕ → Judged Run
count_at s from to =
    refused_if (ltb (length s) to) truncated from
    (on_done (zeros_of (to - from) s from) λ _.
    on_done (field_at 4 s to) λ count.
    done (record { at = to + 4; count = count }))

-- after a name of `size` bytes: type (at most 2), attributes (0), and the rest
unfoldable pub fields_after_name : List ℕ → ℕ → ℕ → Judged Run
fields_after_name s at size =
    let next = at + (size + 2) in
    on_done (field_at 4 s next) λ kind.
    refused_if (ltb 2 kind) bad_chain next
    (on_done (field_at 4 s (next + 4)) λ attributes.
    pick (eqb attributes 0) (count_at s (next + 8) (at + aligned_to (size + 10))) (refused bad_chain (next + 4)))

-- the chain whose data starts at `at`: where its blocks start, and how many they are
unfoldable pub chain_at : List ℕ → ℕ → Judged Run
chain_at s at = on_done (name_at s at) λ size. fields_after_name s at size
