-- How many bits are moved together (02, Ask 3: "Find how many top bits agree and move them together").
use Rattle.std.specs.Prelude.{ℕ, ◌-◌}
use Rattle.std.specs.Int.Bits.{bit_or, bit_xor}
use Rattle.std.specs.Int.Count.{count_leading_zeros}

-- the top bits in which two limits of 16 bits agree
abbrev pub agreeing : ℕ → ℕ → ℕ
agreeing low high = count_leading_zeros 32 (bit_xor low high) - 16

-- the bits below the top ones that are 1 in low and 0 in high: the leading zeros that the distances from the middle share
abbrev pub straddling : ℕ → ℕ → ℕ
straddling low high = count_leading_zeros 32 (bit_or (0x7FFF - low) (high - 0x8000)) - 17
