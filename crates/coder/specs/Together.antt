-- Several turns of 10.4.4.4 and of 10.4.4.5 at once.
use Rattle.std.specs.Prelude.{◌≡◌, ℕ, zero, suc, ◌+◌, ◌-◌, ◌*◌, ◌/◌, ◌%◌, ◌^◌, ◌<◌, ◌≤◌, ◌⊎◌, List, [], ◌∷◌, ◌++◌, ◌≢◌}
use Rattle.coder.specs.Ending.{bits_of}
use Rattle.coder.specs.Interval.{Coder, postpones, settle_tops, settled_bits}

-- n turns of 10.4.4.4: the n top bits go, and zeros and ones come in from below; the first turn settles the pending ones too
unfoldable pub settled_by : ℕ → Coder → Coder
settled_by zero s = s
settled_by (suc n) s = record {
  low = s.low * 2 ^ suc n % 0x10000;
  high = s.high * 2 ^ suc n % 0x10000 + (2 ^ suc n - 1);
  pending = 0;
  settled = s.settled + suc n + s.pending;
}

-- n turns of 10.4.4.5: what lies between the middle and each limit doubles with each turn
unfoldable pub postponed_by : ℕ → Coder → Coder
postponed_by n s = record {
  low = 0x8000 - (0x8000 - s.low) * 2 ^ n;
  high = 0x7FFF + (s.high - 0x7FFF) * 2 ^ n;
  pending = s.pending + n;
  settled = s.settled;
}

-- n is the number of top bits in which two limits of 16 bits agree
pub record Agreeing (n low high : ℕ) : Type 0 where
  pub left : ℕ
  pub whole : n + left ≡ 16
  pub same : low / 2 ^ left ≡ high / 2 ^ left
  pub next : (p : ℕ) → left ≡ suc p → low / 2 ^ p ≢ high / 2 ^ p

-- n is the number of bits below the top ones that are 1 in low and 0 in high: n doublings keep each limit within its half, one more would not
pub record Straddling (n low high : ℕ) : Type 0 where
  pub most : n ≤ 15
  pub below : (0x8000 - low) * 2 ^ n ≤ 0x8000
  pub above : (high - 0x7FFF) * 2 ^ n ≤ 0x8000
  pub next : (0x4000 < (0x8000 - low) * 2 ^ n) ⊎ (0x4000 < (high - 0x7FFF) * 2 ^ n)

-- 10.4.4.4 and then 10.4.4.5, as often as they go on
abbrev pub renormalized : Coder → Coder
renormalized s = postpones 16 (settle_tops 16 s)

-- the n top bits of low, the pending ones inverted after the first of them
unfoldable pub lead_bits : ℕ → Coder → List ℕ
lead_bits zero s = []
lead_bits (suc k) s = settled_bits s ++ bits_of k (s.low / 2 ^ (15 - k))

-- n bits of a number, the lowest first
unfoldable pub bits_up : ℕ → ℕ → List ℕ
bits_up zero v = []
bits_up (suc n) v = v % 2 ∷ bits_up n (v / 2)
