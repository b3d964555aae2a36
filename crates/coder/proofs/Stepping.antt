-- A step of a reader: the value lies below its range, and the state after it is one from which the next step can be made.
use Rattle.std.proofs.Common.{◌≡◌, ℕ, suc, ◌+◌, ◌-◌, ◌*◌, ◌^◌, ◌<◌, ◌≤◌, sym, refl, ap, ◌∙◌, mul_assoc, mul_comm, mul-le-mul_left, pow-suc, mul-add, arith, le-leb}
use Rattle.coder.proofs.Forward.{reading_static, target_below}
use Rattle.coder.proofs.Limits.{after_grown}
use Rattle.coder.specs.Inside.{Reading, Stepped, found_as}
use Rattle.coder.specs.Interval.{Coder, after_symbol, largest_range, target}
use Rattle.coder.specs.Stream.{Binary, Stream}
use Rattle.coder.specs.Symbols.{reversed, static_span}
use Rattle.coder.specs.Values.{Found, read_plain, read_static, symbol_value}
use borrow.Author.Tests.{lt-leb}
use native.Mathlib.Nat.{one-le-pow}

-- one symbol of a static range
pub symbol_stepped : (t : ℕ) (x : Stream) (s : Coder) → Binary x → Reading s x → 0 < t → t ≤ largest_range → Stepped t x s (symbol_value t x s) 32
symbol_stepped t x s two r some small =
    record {
      value_below = target_below s x t r some;
      reading = reading_static s t x two r some small;
      near = (after_grown s (static_span t (target s x t))).most;
    }

-- the same value and the same state
found_path : {v w : ℕ} {s t : Coder} → v ≡ w → s ≡ t → ◌≡◌ {A = Found} (record { value = v; state = s }) (record { value = w; state = t })
found_path p q = λ i. record { value = p i; state = q i }

-- the whole value, where bytes that are read have given one below the place of those that are left
abbrev pub whole_of : ℕ → ℕ → Found → Found
whole_of value place rest = found_as (value + place * rest.value) rest.state

-- of plain bytes none is read yet
pub whole_none : (found : Found) → whole_of 0 1 found ≡ found
whole_none found = found_path (omega arith) refl

-- a byte and those above it, at their places
place_sum : (value place r w : ℕ) → value + place * r + place * 256 * w ≡ value + place * (r + 256 * w)
place_sum value place r w = rw (mul-add place r (256 * w), mul_assoc place 256 w) (omega arith)

-- one more is read, and others are left, or it is the last
module _ (x : Stream) (s : Coder) (left value place q : ℕ) (t : Coder) (some : 1 ≤ left) (pointed : q ≡ target s x 256)
    (next : t ≡ after_symbol s (static_span 256 q)) where
  pub whole_more : whole_of (value + place * reversed 8 q) (place * 256) (read_plain (left - 1) x t) ≡ whole_of value place (read_plain left x s)
  unfolding read_plain
  whole_more =
      let n : ℕ = left - 1 in
      let e : suc n ≡ left = omega arith in
      let turn : whole_of (value + place * reversed 8 q) (place * 256) (read_plain n x t) ≡ whole_of value place (read_plain (suc n) x s) =
      rw (next, pointed) (found_path (place_sum value place _ _) refl) in
      turn ∙ ap (λ (k : ℕ). whole_of value place (read_plain k x s)) e

  pub whole_last : left - 1 ≡ 0 → found_as (value + place * reversed 8 q) t ≡ whole_of value place (read_plain left x s)
  unfolding read_plain
  whole_last none =
      let v : ℕ = value + place * reversed 8 q in
      let e : whole_of v (place * 256) (read_plain (left - 1) x t) ≡ found_as v t = rw none (found_path (omega arith) refl) in
      sym e ∙ whole_more

-- the value stays below the next place, and that one small
pub record Turned (value place r left : ℕ) : Type 0 where
  pub value_below : value + place * r < place * 256
  pub place_small : place * 256 ≤ 2 ^ 32
  pub left_small : place * 256 * 256 ^ (left - 1) ≤ 2 ^ 32

-- so it is with each byte
pub plain_turned : (value place r left : ℕ) → 1 ≤ left → value < place → r < 256 → place * 256 ^ left ≤ 2 ^ 32 → Turned value place r left
plain_turned value place r left some below byte small =
    let n : ℕ = left - 1 in
    let e : left ≡ suc n = omega arith in
    let power : 256 ^ left ≡ 256 * 256 ^ n = ap (λ (k : ℕ). 256 ^ k) e ∙ pow-suc 256 n ∙ mul_comm (256 ^ n) 256 in
    let whole : place * 256 ^ left ≡ place * 256 * 256 ^ n = ap (λ (k : ℕ). place * k) power ∙ sym (mul_assoc place 256 (256 ^ n)) in
    let one : place * 256 * 1 ≤ place * 256 * 256 ^ n = mul-le-mul_left (place * 256) (one-le-pow n 256 (omega arith)) in
    let most : place * r ≤ place * 255 = mul-le-mul_left place (omega arith) in
    record { value_below = omega arith; place_small = omega arith; left_small = omega arith }

-- a value in a static range, as the code finds it: one symbol, or a plain U32
pub range_one : (range : ℕ) (x : Stream) (s : Coder) (value : ℕ) (next : Coder) → range ≤ largest_range → value ≡ target s x range
    → next ≡ after_symbol s (static_span range value) → found_as value next ≡ read_static range x s
unfolding read_static
range_one range x s value next small e f = rw (le-leb _ _ small, read_static, f, e)

pub range_plain : (range : ℕ) (x : Stream) (s : Coder) (found : Found) → largest_range < range → found ≡ read_plain 4 x s → found ≡ read_static range x s
unfolding read_static
range_plain range x s found large e = rw (lt-leb _ _ large, read_static) e
