-- Digits of a number, in ASCII.
use Rattle.std.specs.Prelude.{ℕ, zero, suc, ◌+◌, ◌/◌, ◌%◌, List, [], ◌∷◌, ◌++◌, ltb}
use Rattle.fields.specs.Judged.{pick}

-- the digit 0 to 9, or a to f
abbrev pub digit_of : ℕ → ℕ
digit_of d = pick (ltb d 10) (0x30 + d) (0x57 + d)

-- the last k digits of n in that base, the highest first
unfoldable pub digits_of : ℕ → ℕ → ℕ → List ℕ
digits_of base zero n = []
digits_of base (suc k) n = digits_of base k (n / base) ++ (digit_of (n % base) ∷ [])

-- how many decimal digits n has, without leading zeros and at most `most` + 1
unfoldable pub decimal_width : ℕ → ℕ → ℕ
decimal_width zero n = 1
decimal_width (suc most) n = pick (ltb n 10) 1 (suc (decimal_width most (n / 10)))

-- a decimal number below 2 ^ 64, and the byte that ends it
unfoldable pub decimal_field : ℕ → ℕ → List ℕ
decimal_field n end = digits_of 10 (decimal_width 19 n) n ++ (end ∷ [])

-- a number below 2 ^ 32 as eight hexadecimal digits, and the byte that ends it
unfoldable pub hex_field : ℕ → ℕ → List ℕ
hex_field n end = digits_of 16 8 n ++ (end ∷ [])
