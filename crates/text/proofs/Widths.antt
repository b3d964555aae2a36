-- How many bytes the fields have. Assumes nothing.
use mathlib.Core.Path.{◌≡◌, refl, ◌∙◌}
use mathlib.Core.Bool.{Bool, true, false}
use mathlib.Core.List.{[], ◌∷◌}
use Prim.Native.Nat.{ℕ, zero, suc, ◌+◌, ◌*◌, ◌/◌, ◌%◌, ◌^◌, ◌≤◌, ◌<◌, suc-le-suc}
use native.Mathlib.Nat.{pow-suc, one-le-pow, div-lt_iff_lt-mul, zero-lt-suc}
use native.Mathlib.Omega.{arith}
use lib.Dec.{ltb}
use lib.ListN.{length, length-append}
use borrow.Author.Tests.{ltb-false, lt-ltb, le-ltb}
use Rattle.text.specs.Digits.{digit_of, digits_of, decimal_width, decimal_field, hex_field}

pub digits_length : (base k n : ℕ) → length (digits_of base k n) ≡ k
unfolding digits_of
digits_length base zero n = refl
digits_length base (suc k) n =
    length-append (digits_of base k (n / base)) (digit_of (n % base) ∷ []) ∙ rw (digits_length base k (n / base)) (omega arith)

-- a number with one digit, and one with more
pub width_one : (most n : ℕ) → n < 10 → decimal_width most n ≡ 1
unfolding decimal_width
width_one zero n h = refl
width_one (suc most) n h = rw (lt-ltb n 10 h)

pub width_more : (most n : ℕ) → 10 ≤ n → decimal_width (suc most) n ≡ suc (decimal_width most (n / 10))
unfolding decimal_width
width_more most n h = rw (le-ltb n 10 h)

pub width_some : (most n : ℕ) (t : Bool) → ltb n 10 ≡ t → 0 < decimal_width most n
unfolding decimal_width
width_some zero n t e = omega arith
width_some (suc most) n true e = rw e (omega arith)
width_some (suc most) n false e = rw e (omega arith)

-- a digit less, a power less
pub tenth : (k n : ℕ) → n < 10 ^ suc k → n / 10 < 10 ^ k
tenth k n h = (div-lt_iff_lt-mul (zero-lt-suc 9)).1 (rw (pow-suc 10 k) at h)

-- from its power of ten to the next a number has one digit more than the power
pub width_of : (most k n : ℕ) → k ≤ most → 10 ^ k ≤ n → n < 10 * 10 ^ k → decimal_width most n ≡ k + 1
width_of most zero n h p q = width_one most n (omega arith)
width_of zero (suc k) n h p q = absurd (omega arith)
width_of (suc most) (suc k) n h p q =
    let e = pow-suc 10 k in
    let w = width_of most k (n / 10) (omega arith) (omega (arith, e)) (omega (arith, e)) in
    let some = one-le-pow k 10 (omega arith) in
    width_more most n (omega (arith, e, some)) ∙ rw w (omega arith)

-- a bound of the tenth's width is one of the number's
width_step : (most k n : ℕ) (t : Bool) → ltb n 10 ≡ t → (10 ≤ n → decimal_width most (n / 10) ≤ k) → decimal_width (suc most) n ≤ suc k
unfolding decimal_width
width_step most k n true e h = rw e (omega arith)
width_step most k n false e h = rw e (suc-le-suc (h (ltb-false n 10 e)))

pub width_most : (most n : ℕ) → decimal_width most n ≤ suc most
unfolding decimal_width
width_most zero n = omega arith
width_most (suc most) n = width_step most (suc most) n (ltb n 10) refl (λ _. width_most most (n / 10))

-- a number below a power of ten has at most so many digits
pub width_below : (most k n : ℕ) → n < 10 ^ suc k → decimal_width most n ≤ suc k
unfolding decimal_width
width_below zero k n h = omega arith
width_below (suc most) zero n h = rw (width_one (suc most) n h) (omega arith)
width_below (suc most) (suc k) n h =
    width_step most (suc k) n (ltb n 10) refl (λ _. width_below most k (n / 10) (tenth (suc k) n h))

-- the lengths of the fields
pub decimal_size : (n end : ℕ) → length (decimal_field n end) ≡ decimal_width 19 n + 1
unfolding decimal_field
decimal_size n end = rw (length-append, digits_length)

pub decimal_length : (n end : ℕ) → length (decimal_field n end) ≤ 21
decimal_length n end = rw (decimal_size n end) (omega (arith, width_most 19 n))

pub decimal_short : (n end : ℕ) → n < 4294967296 → length (decimal_field n end) ≤ 11
decimal_short n end h = rw (decimal_size n end) (omega (arith, width_below 19 9 n (omega arith)))

pub hex_length : (n end : ℕ) → length (hex_field n end) ≡ 9
unfolding hex_field
hex_length n end = rw (length-append, digits_length)
