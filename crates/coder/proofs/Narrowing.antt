-- A symbol's part of an interval: the two floor divisions, and their order.
use Rattle.std.proofs.Common.{ℕ, ◌+◌, ◌-◌, ◌*◌, ◌/◌, ◌^◌, ◌<◌, ◌≤◌, le_trans, mul_comm, div-lt_iff_lt-mul, mul-le-mul, mul-le-mul_left, le-div_iff_mul-le, mul-add, div-mul-le_self, arith}
use native.Mathlib.Nat.{add-div_right, div-le_of_le-mul}

-- a part of the interval is no longer than the interval
pub part_le : (r k t : ℕ) → k ≤ t → r * k / t ≤ r
part_le r k t h = div-le_of_le-mul t (rw (mul_comm t r) (mul-le-mul_left r h))

div_mono : {x y : ℕ} (t : ℕ) → 0 < t → x ≤ y → x / t ≤ y / t
div_mono {x} {y} t pos h = (le-div_iff_mul-le pos).1 (le_trans (div-mul-le_self x t) h)

-- the next part starts at least one further
pub part_next : (r b w t : ℕ) → 0 < t → t ≤ r → 1 ≤ w → r * b / t + 1 ≤ r * (b + w) / t
part_next r b w t pos le one =
    rw (← add-div_right (r * b) pos)
    (div_mono t pos (rw mul-add (let m : r * 1 ≤ r * w = mul-le-mul_left r one in omega arith)))

-- the products fit 32 bits
pub part_fits : (r k : ℕ) → r ≤ 0x10000 → k ≤ 0x3FFE → r * k < 2 ^ 32
part_fits r k h g = let m : r * k ≤ 0x10000 * 0x3FFE = mul-le-mul h g in omega arith

-- the two floor divisions undo one another
module _ (r t d : ℕ) (r_some : 0 < r) (t_some : 0 < t) where
  pub cut_low : (f : ℕ) → f ≤ (t * (d + 1) - 1) / r → r * f / t ≤ d
  cut_low f h =
      let p : f * r ≤ t * (d + 1) - 1 = (le-div_iff_mul-le r_some).0 h in
      let q : r * f / t < d + 1 = (div-lt_iff_lt-mul t_some).1 (omega arith) in
      omega arith

  pub cut_high : (g : ℕ) → (t * (d + 1) - 1) / r < g → d < r * g / t
  cut_high g h =
      let p : t * (d + 1) - 1 < g * r = (div-lt_iff_lt-mul r_some).0 h in
      let q : d + 1 ≤ r * g / t = (le-div_iff_mul-le t_some).1 (omega arith) in
      omega arith

  pub cut_back : (g : ℕ) → d < r * g / t → (t * (d + 1) - 1) / r < g
  cut_back g h =
      let q : (d + 1) * t ≤ r * g = (le-div_iff_mul-le t_some).0 (omega arith) in
      (div-lt_iff_lt-mul r_some).1 (omega arith)

  pub cut_up : (f : ℕ) → r * f / t ≤ d → f ≤ (t * (d + 1) - 1) / r
  cut_up f h =
      let q : r * f < (d + 1) * t = (div-lt_iff_lt-mul t_some).0 (omega arith) in
      (le-div_iff_mul-le r_some).1 (omega arith)
