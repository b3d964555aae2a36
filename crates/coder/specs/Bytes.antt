-- Bits in bytes (01: "Bits fill each byte from its lowest"; "a reader sees zeros past the end").
use Rattle.std.specs.Prelude.{ℕ, suc, ◌+◌, ◌*◌, ◌/◌, ◌%◌, ◌^◌, cond, List, [], ◌∷◌, ◌==◌, slice_index, slice_set}
use Rattle.coder.specs.Stream.{Stream}

-- the bit at place i, 0 past the end
unfoldable pub bit_at : List ℕ → Stream
bit_at l i = slice_index l (i / 8) / 2 ^ (i % 8) % 2

-- the bit b at place p, and zeros above it in its byte
unfoldable pub put_bit : List ℕ → ℕ → ℕ → List ℕ
put_bit l p b = slice_set l (p / 8) (slice_index l (p / 8) % 2 ^ (p % 8) + b * 2 ^ (p % 8))

-- the bits from place p on
unfoldable pub put_bits : List ℕ → ℕ → List ℕ → List ℕ
put_bits l p [] = l
put_bits l p (b ∷ bs) = put_bits (put_bit l p b) (suc p) bs

-- zeros from place p to the end of its byte, where p lies inside a byte
unfoldable pub padded : List ℕ → ℕ → List ℕ
padded l p = cond (p % 8 == 0) l (put_bit l p 0)

-- the bits from place p on; "bits of the last byte not settled are 0; later bytes are untouched"
unfoldable pub store_bits : List ℕ → ℕ → List ℕ → List ℕ
store_bits l p bs = put_bits (padded l p) p bs

-- the bytes that n bits take
abbrev pub bytes_of : ℕ → ℕ
bytes_of n = (n + 7) / 8
