-- Laws of little-endian numbers. Assumes nothing.
use mathlib.Core.Path.{◌≡◌}
use mathlib.Core.List.{List}
use Prim.Native.Nat.{ℕ, suc, ◌+◌, ◌-◌, ◌*◌, ◌^◌, ◌<◌, ◌≤◌}
use native.Mathlib.Nat.{pow-le-pow_right, lt_of_lt_of_le, pow-succ'}
use native.Mathlib.Omega.{arith}
use lib.ListN.{get_or}
use Rattle.fields.specs.Field.{little_endian}
use Rattle.fields.specs.Inside.{ValueOf}

-- one byte more, below the bytes already read: the loop goes from the highest byte down
pub one_more : (s : List ℕ) (at width i : ℕ) → 0 < i → i ≤ width
    → little_endian (width - i) s (at + i) * 256 + get_or s (at + (i - 1)) 0 ≡ little_endian (width - (i - 1)) s (at + (i - 1))
unfolding little_endian
one_more s at width i h l =
    let e : width - (i - 1) ≡ suc (width - i) = omega arith in
    let f : suc (at + (i - 1)) ≡ at + i = omega arith in
    rw (e, little_endian, f) (omega arith)

-- no bytes read yet
pub zero_bytes : (s : List ℕ) (at width : ℕ)
    → (0 ≡ little_endian (width - width) s (at + width)) × (0 < 256 ^ (width - width))
unfolding little_endian
zero_bytes s at width =
    let e : width - width ≡ 0 = omega arith in
    (rw e, rw e (omega arith))

-- with a byte of at most eight still to come, seven at most have been read
pub below_seven : (i width value : ℕ) → 0 < i → width ≤ 8 → value < 256 ^ (width - i) → value < 256 ^ 7
below_seven i width value h l v =
    lt_of_lt_of_le v (pow-le-pow_right {n = 256} (omega arith) {i = width - i} {j = 7} (omega arith))

-- a byte more: the loop's invariant again
pub step : (s : List ℕ) (at width i value byte : ℕ) → 0 < i → i ≤ width → value ≡ little_endian (width - i) s (at + i) → value < 256 ^ (width - i)
    → byte ≡ get_or s (at + (i - 1)) 0 → byte < 256
    → (value * 256 + byte ≡ little_endian (width - (i - 1)) s (at + (i - 1))) × (value * 256 + byte < 256 ^ (width - (i - 1)))
step s at width i value byte h l e v f b =
    let p : width - (i - 1) ≡ suc (width - i) = omega arith in
    (rw (e, f) (one_more s at width i h l), rw (p, pow-succ' 256 (width - i)) (omega arith))

pub all_bytes : {s : List ℕ} {at width i value : ℕ} → value ≡ little_endian (width - i) s (at + i) → value < 256 ^ (width - i) → i ≡ 0 → ValueOf width s at value
all_bytes {s} {at} {width} {i} {value} e v z =
    let p : width - i ≡ width = omega arith in
    let q : at + i ≡ at = omega arith in
    record { value = rw (p, q) at e; small = rw p at v }
