-- Digits one by one: a digit more, a byte that is no digit, a number that grew too large. Eight hexadecimal digits stay below 2^32.
use Prim.Native.Nat.{ℕ, zero, suc, ◌+◌, ◌-◌, ◌*◌, ◌≤◌, ◌<◌}
use mathlib.Core.Path.{◌≡◌, refl, sym}
use mathlib.Core.Bool.{Bool, true, false, ◌&&◌}
use mathlib.Core.List.{List, [], ◌∷◌}
use mathlib.Core.Logic.{◌⊎◌, inl, inr, ⊎_elim}
use native.Mathlib.Nat.{mul-le-mul}
use native.Mathlib.Numerals.{add-one}
use native.Mathlib.Omega.{arith}
use borrow.Author.Tests.{eq-eqb, le-leb, le-ltb, lt-leb, lt-ltb, ltb-false, ltb-true, ne_eqb}
use lib.Dec.{leb, ltb}
use lib.ListN.{drop, drop_of_length-le, get_or, length}
use lib.Seq.{drop-cons}
use Rattle.fields.specs.Limits.{any_number}
use Rattle.fields.specs.Judged.{pick}
use Rattle.text.specs.Digits.{digit_of}
use Rattle.climb.specs.Digits.{are_digits, digit_value, is_decimal, is_digit, is_pattern, no_leading_zero, value_after, value_of}
use Rattle.climb.specs.Inside.{is_number, number_if}
use Rattle.std.specs.Prelude.{Option, Some, None}
use Rattle.climb.proofs.Finding.{and-false, and-true}

-- ---- what an answer says of the test

pub value_told_lem : (t : Bool) (v w : ℕ) → number_if t v ≡ Some w → (t ≡ true) × (v ≡ w)
value_told_lem true v w e = (refl, cc)
value_told_lem false v w e = let z : ◌≡◌ {A = ℕ} 0 1 = cc in absurd (omega arith)

pub bad_told : (t : Bool) (v : ℕ) → number_if t v ≡ None → t ≡ false
bad_told true v e = let z : ◌≡◌ {A = ℕ} 0 1 = cc in absurd (omega arith)
bad_told false v e = refl

-- ---- a digit

module _ (base b : ℕ) where
  -- what a byte is worth that writes a digit in some base
  digit_if : (v : ℕ) → digit_value b ≡ v → digit_of v ≡ b → (t : Bool) → ltb v base ≡ t → number_if t v ≡ number_if (is_digit base b) (digit_value b)
  digit_if v e f t h = rw (e, f, h, eq-eqb b b refl, and-true)

  pub digit_decimal : 0x30 ≤ b → b ≤ 0x39 → (t : Bool) → ltb (b - 0x30) base ≡ t → number_if t (b - 0x30) ≡ number_if (is_digit base b) (digit_value b)
  digit_decimal l h =
      let e : 0x30 + (b - 0x30) ≡ b = omega arith in
      digit_if (b - 0x30) (rw (lt-ltb b 0x61 (omega arith))) (rw (lt-ltb (b - 0x30) 10 (omega arith), e))

  pub digit_letter : 0x61 ≤ b → b ≤ 0x66 → (t : Bool) → ltb (b - 0x61 + 10) base ≡ t → number_if t (b - 0x61 + 10) ≡ number_if (is_digit base b) (digit_value b)
  digit_letter l h =
      let e : b - 0x57 ≡ b - 0x61 + 10 = omega arith in
      let f : 0x57 + (b - 0x61 + 10) ≡ b = omega arith in
      digit_if (b - 0x61 + 10) (rw (le-ltb b 0x61 l, e)) (rw (le-ltb (b - 0x61 + 10) 10 (omega arith), f))

  digit_not : (v : ℕ) → digit_value b ≡ v → (v < 16 → digit_of v ≡ b → ⊥) → base ≤ 16 → (t : Bool) → ltb v base ≡ t → None ≡ number_if (is_digit base b) (digit_value b)
  digit_not v e n s true h = rw (e, h, ne_eqb _ _ (n (omega (arith, ltb-true v base h, s))))
  digit_not v e n s false h = rw (e, h)

  -- a byte that is a digit's stands in one of two ranges
  digit_by : (v : ℕ) (t : Bool) → ltb v 10 ≡ t → pick t (0x30 + v) (0x57 + v) ≡ b → ((v < 10) × (0x30 + v ≡ b)) ⊎ ((10 ≤ v) × (0x57 + v ≡ b))
  digit_by v true h e = inl (ltb-true v 10 h, e)
  digit_by v false h e = inr (ltb-false v 10 h, e)

  pub digit_none : (0x30 ≤ b → b ≤ 0x39 → ⊥) → (0x61 ≤ b → b ≤ 0x66 → ⊥) → base ≤ 16 → None ≡ number_if (is_digit base b) (digit_value b)
  digit_none n m s = none_by (ltb b 0x61) refl
    where
      none_by : (t : Bool) → ltb b 0x61 ≡ t → None ≡ number_if (is_digit base b) (digit_value b)
      none_by true h =
          let l : b < 0x61 = ltb-true b 0x61 h in
          digit_not (b - 0x30) (rw h) (λ k e. ⊎_elim (λ q. n (omega (arith, q)) (omega (arith, q))) (λ q. omega (arith, q, l)) (digit_by (b - 0x30) (ltb (b - 0x30) 10) refl e)) s (ltb (b - 0x30) base) refl
      none_by false h =
          let l : 0x61 ≤ b = ltb-false b 0x61 h in
          digit_not (b - 0x57) (rw h) (λ k e. ⊎_elim (λ q. omega (arith, q, l)) (λ q. m l (omega (arith, q, k))) (digit_by (b - 0x57) (ltb (b - 0x57) 10) refl e)) s (ltb (b - 0x57) base) refl

-- ---- a number

-- the number that the digits write after those that write `high`
abbrev pub number_after : ℕ → ℕ → List ℕ → Option ℕ
number_after base high digits = number_if (are_digits base digits && leb (value_after base high digits) any_number) (value_after base high digits)

value_grows : (base high : ℕ) (digits : List ℕ) → 0 < base → high ≤ value_after base high digits
unfolding value_after
value_grows base high [] h = omega arith
value_grows base high (b ∷ more) h =
    let same : high ≤ high = omega arith in
    let m : high * 1 ≤ high * base = mul-le-mul same h in
    omega (arith, value_grows base (high * base + digit_value b) more h)

module _ (base : ℕ) (digits : List ℕ) (i high : ℕ) (within : i < length digits) where
  pub number_more : (d : ℕ) → Some d ≡ number_if (is_digit base (get_or digits i 0)) (digit_value (get_or digits i 0))
      → number_after base high (drop i digits) ≡ number_after base (high * base + d) (drop (i + 1) digits)
  unfolding are_digits value_after
  number_more d e =
      let k = value_told_lem _ _ _ (sym e) in
      rw (drop-cons digits i 0 within, are_digits, value_after, k.0, k.1, add-one)

  pub number_stopped : None ≡ number_if (is_digit base (get_or digits i 0)) (digit_value (get_or digits i 0)) → number_after base high (drop i digits) ≡ None
  unfolding are_digits value_after
  number_stopped e = rw (drop-cons digits i 0 within, are_digits, value_after, bad_told _ _ (sym e))

pub number_large : (base high : ℕ) (digits : List ℕ) → 0 < base → any_number < high → number_after base high digits ≡ None
number_large base high digits h l =
    let g = value_grows base high digits h in
    rw (lt-leb (value_after base high digits) any_number (omega arith), and-false)

pub number_none : (base high i : ℕ) (digits : List ℕ) → high ≤ any_number → length digits ≤ i → Some high ≡ number_after base high (drop i digits)
unfolding are_digits value_after
number_none base high i digits h l = rw (drop_of_length-le digits l, are_digits, value_after, le-leb high any_number h)

-- ---- decimals and bit patterns

module _ (field : List ℕ) where
  pub decimal_empty : length field ≡ 0 → None ≡ number_if (is_decimal field) (value_of 10 field)
  unfolding is_decimal
  decimal_empty e = rw (le-ltb 0 (length field) (omega arith))

  pub decimal_zero : get_or field 0 0 ≡ 0x30 → 1 < length field → None ≡ number_if (is_decimal field) (value_of 10 field)
  unfolding is_decimal
  decimal_zero e h = rw (lt-ltb 0 (length field) (omega arith), eq-eqb _ _ e, lt-ltb 1 (length field) h, and-false)

  pub leads : ((get_or field 0 0 ≡ 0x30) × (length field ≤ 1)) ⊎ (get_or field 0 0 ≡ 0x30 → ⊥) → no_leading_zero field ≡ true
  leads (inl e) = rw (le-ltb 1 (length field) e.1, and-false)
  leads (inr n) = rw (ne_eqb _ _ n)

  pub decimal_whole : (length field ≡ 0 → ⊥) → no_leading_zero field ≡ true
      → number_if (is_number 10 field) (value_of 10 field) ≡ number_if (is_decimal field) (value_of 10 field)
  unfolding is_decimal
  decimal_whole n e = rw (lt-ltb 0 (length field) (omega arith), e, and-true)

-- the largest number that so many more hexadecimal digits write after `high`
largest : ℕ → ℕ → ℕ
largest high zero = high
largest high (suc n) = largest (high * 16 + 15) n

largest_grows : (low high n : ℕ) → low ≤ high → largest low n ≤ largest high n
unfolding largest
largest_grows low high zero h = h
largest_grows low high (suc n) h = largest_grows (low * 16 + 15) (high * 16 + 15) n (omega arith)

both : (a b : Bool) → (a && b) ≡ true → (a ≡ true) × (b ≡ true)
both true b e = (refl, e)
both false b e = let z : ◌≡◌ {A = ℕ} 0 1 = cc in absurd (omega arith)

value_largest : (high : ℕ) (digits : List ℕ) → are_digits 16 digits ≡ true → value_after 16 high digits ≤ largest high (length digits)
unfolding are_digits value_after largest
value_largest high [] e = omega arith
value_largest high (b ∷ more) e =
    let d = both (is_digit 16 b) (are_digits 16 more) e in
    let s : digit_value b < 16 = ltb-true (digit_value b) 16 (both (ltb (digit_value b) 16) _ d.0).0 in
    let m = value_largest (high * 16 + digit_value b) more d.1 in
    omega (arith, largest_grows (high * 16 + digit_value b) (high * 16 + 15) (length more) (omega arith))

eight_small : (field : List ℕ) → length field ≡ 8 → (t : Bool) → are_digits 16 field ≡ t → (t && leb (value_of 16 field) any_number) ≡ t
unfolding largest
eight_small field e true f =
    let m : value_of 16 field ≤ largest 0 8 = rw e at (value_largest 0 field f) in
    le-leb (value_of 16 field) any_number m
eight_small field e false f = refl

module _ (field : List ℕ) where
  pub pattern_other : (length field ≡ 8 → ⊥) → None ≡ number_if (is_pattern field) (value_of 16 field)
  unfolding is_pattern
  pattern_other n = rw (ne_eqb _ _ n)

  pub pattern_eight : length field ≡ 8 → number_if (is_number 16 field) (value_of 16 field) ≡ number_if (is_pattern field) (value_of 16 field)
  unfolding is_pattern
  pattern_eight e = rw (eq-eqb _ _ e, eight_small field e (are_digits 16 field) refl)
