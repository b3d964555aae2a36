-- The known block types (01, "Blocks").
use Rattle.std.specs.Prelude.{ℕ, ◌-◌, List, [], ◌∷◌, Bool, true, false, eqb, ltb}
use Rattle.fields.specs.Judged.{pick}
use Rattle.fields.specs.Member.{member}
use Rattle.blocks.specs.declared.kind.Kind.{Kind}
use Rattle.blocks.specs.declared.kind.Kind.TheVariants.{Header, Declaration, Continuation, Unknown}

abbrev pub header_type : ℕ
header_type = 0x00443355

abbrev pub chain_type : ℕ
chain_type = 0xFFFFFF14

-- "Known types, by last byte under 0xFFFFFF"
abbrev pub known_types : ℕ
known_types = 0xFFFFFF00

-- "declarations 12, 14, 16, 21 to 24, 31, 36, 37, 41 to 46, 51 to 56"
abbrev pub declarations : List ℕ
declarations = 0x12 ∷ 0x14 ∷ 0x16 ∷ 0x21 ∷ 0x22 ∷ 0x23 ∷ 0x24 ∷ 0x31 ∷ 0x36 ∷ 0x37 ∷ 0x41 ∷ 0x42 ∷ 0x43 ∷ 0x44 ∷ 0x45 ∷ 0x46
    ∷ 0x51 ∷ 0x52 ∷ 0x53 ∷ 0x54 ∷ 0x55 ∷ 0x56 ∷ []

-- "continuations 15, 3B, 3C, 3E, 3F, 5C"
abbrev pub continuations : List ℕ
continuations = 0x15 ∷ 0x3B ∷ 0x3C ∷ 0x3E ∷ 0x3F ∷ 0x5C ∷ []

-- by a type's last byte: 1 a declaration, 2 a continuation, 0 neither
unfoldable pub class_of : ℕ → ℕ
class_of last = pick (member last declarations) 1 (pick (member last continuations) 2 0)

-- the kind of a block type
unfoldable pub kind_of : ℕ → Kind
kind_of block_type =
    pick (eqb block_type header_type) Header
    (pick (ltb block_type known_types) Unknown
    (let class = class_of (block_type - known_types) in
    pick (eqb class 1) (Declaration block_type) (pick (eqb class 2) (Continuation block_type) Unknown)))

-- a chain is the declaration 0xFFFFFF14
unfoldable pub is_chain : Kind → Bool
is_chain Header = false
is_chain (Declaration block_type) = eqb block_type chain_type
is_chain (Continuation block_type) = false
is_chain Unknown = false

unfoldable pub is_continuation : Kind → Bool
is_continuation Header = false
is_continuation (Declaration block_type) = false
is_continuation (Continuation block_type) = true
is_continuation Unknown = false
