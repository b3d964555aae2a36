-- Numbers in a climb text (01, "Climbing": "decimals without leading zeros, bit patterns as 8 lower-case hexadecimal digits", "every number
-- below 2^32").
use Rattle.std.specs.Prelude.{ℕ, ◌+◌, ◌-◌, ◌*◌, Bool, true, ◌&&◌, not, List, [], ◌∷◌, eqb, leb, ltb, get_or, length}
use Rattle.fields.specs.Limits.{any_number}
use Rattle.fields.specs.Judged.{pick}
use Rattle.text.specs.Digits.{digit_of}

-- the value of a digit 0 to 9, or a to f
abbrev pub digit_value : ℕ → ℕ
digit_value b = pick (ltb b 0x61) (b - 0x30) (b - 0x57)

-- the byte is a digit in that base
abbrev pub is_digit : ℕ → ℕ → Bool
is_digit base b = ltb (digit_value b) base && eqb (digit_of (digit_value b)) b

-- all bytes are digits in that base
unfoldable pub are_digits : ℕ → List ℕ → Bool
are_digits base [] = true
are_digits base (b ∷ more) = is_digit base b && are_digits base more

-- the number that the digits write, after those that write `high`
unfoldable pub value_after : ℕ → ℕ → List ℕ → ℕ
value_after base high [] = high
value_after base high (b ∷ more) = value_after base (high * base + digit_value b) more

abbrev pub value_of : ℕ → List ℕ → ℕ
value_of base digits = value_after base 0 digits

-- no leading zero: the first digit is not 0, or it is the only one
abbrev pub no_leading_zero : List ℕ → Bool
no_leading_zero digits = not (eqb (get_or digits 0 0) 0x30 && ltb 1 (length digits))

-- a decimal, and 8 hexadecimal digits
unfoldable pub is_decimal : List ℕ → Bool
is_decimal field = ltb 0 (length field) && are_digits 10 field && no_leading_zero field && leb (value_of 10 field) any_number

unfoldable pub is_pattern : List ℕ → Bool
is_pattern field = eqb (length field) 8 && are_digits 16 field
