-- Digits mean what they should: read back they give the number, and a decimal has no leading zero. Assumes nothing.
use mathlib.Core.Path.{◌≡◌, refl, sym, ◌∙◌}
use mathlib.Core.Bool.{Bool, true, false}
use mathlib.Core.List.{List, [], ◌∷◌, ◌++◌}
use Prim.Native.Nat.{ℕ, zero, suc, ◌+◌, ◌-◌, ◌*◌, ◌/◌, ◌%◌, ◌^◌, ◌≤◌, ◌<◌}
use native.Mathlib.Nat.{mod-lt, mod-one, mod-eq_of_lt, one-le-pow, pow-zero, pow-suc}
use native.Mathlib.Omega.{arith}
use lib.Arith.{mod-mul}
use lib.Dec.{ltb}
use lib.ListN.{get_or, get_or-append}
use borrow.Author.Tests.{ltb-true, ltb-false, lt-ltb, le-ltb}
use Rattle.fields.specs.Judged.{pick}
use Rattle.text.specs.Digits.{digit_of, digits_of, decimal_width, decimal_field, hex_field}
use Rattle.text.proofs.Widths.{digits_length, width_some, width_one, width_more, tenth}

-- the digit of an ASCII byte
abbrev pub digit_value : ℕ → ℕ
digit_value b = pick (ltb b 0x3a) (b - 0x30) (b - 0x57)

-- the number whose digits, the highest first, follow those of `high`
pub value_after : ℕ → ℕ → List ℕ → ℕ
value_after base high [] = high
value_after base high (b ∷ l) = value_after base (high * base + digit_value b) l

value_last : (base high : ℕ) (l : List ℕ) (b : ℕ) → value_after base high (l ++ (b ∷ [])) ≡ value_after base high l * base + digit_value b
unfolding value_after
value_last base high [] b = refl
value_last base high (x ∷ l) b = value_last base (high * base + digit_value x) l b

read_back : (d : ℕ) (t : Bool) → ltb d 10 ≡ t → d < 16 → digit_value (digit_of d) ≡ d
read_back d true e h = rw e (rw (lt-ltb (0x30 + d) 0x3a (omega (arith, ltb-true d 10 e))) (omega arith))
read_back d false e h = rw e (rw (le-ltb (0x57 + d) 0x3a (omega arith)) (omega arith))

-- k digits, read back, are the number's k last digits
pub digits_value : (base k n : ℕ) → 0 < base → base ≤ 16 → value_after base 0 (digits_of base k n) ≡ n % base ^ k
unfolding digits_of value_after
digits_value base zero n p h = rw (pow-zero base) (sym (mod-one n))
digits_value base (suc k) n p h =
    let d : n % base < 16 = omega (arith, mod-lt n p) in
    value_last base 0 (digits_of base k (n / base)) (digit_of (n % base))
    ∙ rw (digits_value base k (n / base) p h, read_back (n % base) (ltb (n % base) 10) refl d, pow-suc base k, mod-mul n (one-le-pow k base p) p)

-- a decimal has all digits of its number
width_enough : (most n : ℕ) (t : Bool) → ltb n 10 ≡ t → n < 10 ^ suc most → n < 10 ^ decimal_width most n
width_enough zero n true e h = rw (width_one zero n (ltb-true n 10 e)) (ltb-true n 10 e)
width_enough zero n false e h = absurd (omega (arith, ltb-false n 10 e))
width_enough (suc most) n true e h = rw (width_one (suc most) n (ltb-true n 10 e)) (ltb-true n 10 e)
width_enough (suc most) n false e h =
    let r : n / 10 < 10 ^ decimal_width most (n / 10) = width_enough most (n / 10) (ltb (n / 10) 10) refl (tenth (suc most) n h) in
    rw (width_more most n (ltb-false n 10 e), pow-suc 10 (decimal_width most (n / 10))) (omega arith)

pub decimal_value : (n : ℕ) → n < 18446744073709551616 → value_after 10 0 (digits_of 10 (decimal_width 19 n) n) ≡ n
decimal_value n h =
    digits_value 10 (decimal_width 19 n) n (omega arith) (omega arith) ∙ mod-eq_of_lt (width_enough 19 n (ltb n 10) refl (omega arith))

pub hex_value : (n : ℕ) → n < 4294967296 → value_after 16 0 (digits_of 16 8 n) ≡ n
hex_value n h = digits_value 16 8 n (omega arith) (omega arith) ∙ mod-eq_of_lt h

-- the first byte of a decimal, but of 0, is past the digit 0
one_digit : (most n : ℕ) → n < 10 → 0 < n → 0x30 < get_or (digits_of 10 (decimal_width most n) n) 0 0
unfolding digits_of
one_digit most n h p =
    let l : n % 10 ≡ n = omega arith in
    rw (width_one most n h, l, lt-ltb n 10 h) (omega arith)

first_digit : (most n : ℕ) (t : Bool) → ltb n 10 ≡ t → 0 < n → n < 10 ^ suc most → 0x30 < get_or (digits_of 10 (decimal_width most n) n) 0 0
unfolding digits_of
first_digit zero n true e p h = one_digit zero n (ltb-true n 10 e) p
first_digit (suc most) n true e p h = one_digit (suc most) n (ltb-true n 10 e) p
first_digit zero n false e p h = absurd (omega (arith, ltb-false n 10 e))
first_digit (suc most) n false e p h =
    let m = n / 10 in
    let w = decimal_width most m in
    let q : 10 ≤ n = ltb-false n 10 e in
    let r : 0x30 < get_or (digits_of 10 w m) 0 0 = first_digit most m (ltb m 10) refl (omega arith) (tenth (suc most) n h) in
    rw (width_more most n q, get_or-append (digits_of 10 w m) (digit_of (n % 10) ∷ []) 0 0 (rw (digits_length 10 w m) (width_some most m (ltb m 10) refl))) r

pub no_leading_zero : (n : ℕ) → 0 < n → n < 18446744073709551616 → 0x30 < get_or (digits_of 10 (decimal_width 19 n) n) 0 0
no_leading_zero n p h = first_digit 19 n (ltb n 10) refl p (omega arith)

-- examples: 0, 1205 and 0xff00beef, each ended by a tab
zero_field : decimal_field 0 9 ≡ 0x30 ∷ 9 ∷ []
unfolding decimal_field decimal_width digits_of
zero_field = refl

decimal_field_lem : decimal_field 1205 9 ≡ 0x31 ∷ 0x32 ∷ 0x30 ∷ 0x35 ∷ 9 ∷ []
unfolding decimal_field decimal_width digits_of
decimal_field_lem = refl

hex_field_lem : hex_field 0xff00beef 9 ≡ 0x66 ∷ 0x66 ∷ 0x30 ∷ 0x30 ∷ 0x62 ∷ 0x65 ∷ 0x65 ∷ 0x66 ∷ 9 ∷ []
unfolding hex_field digits_of
hex_field_lem = refl
