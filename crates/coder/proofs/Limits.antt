-- The limits after a symbol are well formed again, and the counts rise by little.
use Rattle.std.proofs.Common.{◌≡◌, ℕ, zero, suc, ◌+◌, ◌-◌, ◌*◌, ◌/◌, ◌^◌, ◌<◌, ◌≤◌, Bool, true, false, List, [], ◌++◌, refl, mul_assoc, mul_comm, pow-suc, mul-one, arith, eqb-true}
use Rattle.coder.proofs.Narrowing.{part_le, part_next}
use Rattle.coder.proofs.Putting.{length_put_bits}
use Rattle.coder.specs.Bytes.{put_bits}
use Rattle.coder.specs.Inside.{Holds}
use Rattle.coder.specs.Interval.{Codable, WellFormed, after_symbol, high_straddles, low_straddles, narrow, postpone, postpones, settle_top, settle_tops, settled_bits, top_bits, tops_agree}
use Rattle.coder.specs.declared.interval.Coder.{Coder}
use Rattle.coder.specs.declared.interval.Span.{Span}
use borrow.Author.Tests.{eqb-false}

-- the two ways that a turn can go: the bits that it and the later turns settle, and the state after them
pub settling_cases : (P : List ℕ → Coder → Type 0) (n : ℕ) (s : Coder)
    → (tops_agree s ≡ true → P (settled_bits s ++ top_bits n (settle_top s)) (settle_tops n (settle_top s))) → (tops_agree s ≡ false → P [] s)
    → P (top_bits (suc n) s) (settle_tops (suc n) s)
unfolding settle_tops top_bits
settling_cases P n s t f = go (tops_agree s) refl
  where
    go : (b : Bool) → tops_agree s ≡ b
        → P (elim b [ true ↦ settled_bits s ++ top_bits n (settle_top s) | false ↦ [] ]) (elim b [ true ↦ settle_tops n (settle_top s) | false ↦ s ])
    go true e = t e
    go false e = f e

pub settle_cases : (P : Coder → Type 0) (n : ℕ) (s : Coder) → (tops_agree s ≡ true → P (settle_tops n (settle_top s))) → (tops_agree s ≡ false → P s)
    → P (settle_tops (suc n) s)
settle_cases P n s t f = settling_cases (λ (bits : List ℕ) (t : Coder). P t) n s t f

-- the same of a turn that postpones
pub postpone_cases : (P : Coder → Type 0) (n : ℕ) (s : Coder) → (low_straddles s ≡ true → high_straddles s ≡ true → P (postpones n (postpone s)))
    → (low_straddles s ≡ false → P s) → (high_straddles s ≡ false → P s) → P (postpones (suc n) s)
unfolding postpones
postpone_cases P n s t f g = go (low_straddles s) (high_straddles s) refl refl
  where
    go : (a b : Bool) → low_straddles s ≡ a → high_straddles s ≡ b
        → P (elim a [ true ↦ elim b [ true ↦ postpones n (postpone s) | false ↦ s ] | false ↦ s ])
    go true true e d = t e d
    go true false e d = g d
    go false true e d = f e
    go false false e d = f e

-- limits that are 16 bits wide and not crossed
pub record Ordered (s : Coder) : Type 0 where
  pub order : s.low ≤ s.high
  pub fits : s.high ≤ 0xFFFF

-- limits whose top bits are 0 and 1
pub record Parted (s : Coder) : Type 0 where
  pub low_top : s.low < 0x8000
  pub high_top : 0x8000 ≤ s.high
  pub fits : s.high ≤ 0xFFFF

-- the size doubles with each turn
pub double : (x y n : ℕ) → y ≡ 2 * x → 0x10000 ≤ x * 2 ^ suc n → 0x10000 ≤ y * 2 ^ n
double x y n e h = rw (e, mul_comm 2 x, mul_assoc x 2 (2 ^ n), mul_comm 2 (2 ^ n), ← pow-suc 2 n) h

settled_parted : (n : ℕ) (s : Coder) → Ordered s → 0x10000 ≤ (s.high + 1 - s.low) * 2 ^ n → Parted (settle_tops n s)
unfolding settle_tops
settled_parted zero s o w = let v : 0x10000 ≤ s.high + 1 - s.low = rw mul-one at w in omega arith
settled_parted (suc n) s o w =
    settle_cases Parted n s
    (λ e.
    let same : s.low / 0x8000 ≡ s.high / 0x8000 = eqb-true _ _ e in
    settled_parted n (settle_top s) (omega arith) (double (s.high + 1 - s.low) _ n (omega arith) w))
    (λ e. let other : s.low / 0x8000 ≡ s.high / 0x8000 → ⊥ = eqb-false _ _ e in omega arith)

postponed_apart : (n : ℕ) (s : Coder) → Parted s → 0x10000 ≤ (s.high + 1 - s.low) * 2 ^ n → WellFormed (postpones n s)
unfolding postpones
postponed_apart zero s o w = let v : 0x10000 ≤ s.high + 1 - s.low = rw mul-one at w in omega arith
postponed_apart (suc n) s o w =
    postpone_cases WellFormed n s
    (λ e d.
    let low-next : s.low / 0x4000 ≡ 1 = eqb-true _ _ e in
    let high-next : s.high / 0x4000 ≡ 2 = eqb-true _ _ d in
    postponed_apart n (postpone s) (omega arith) (double (s.high + 1 - s.low) _ n (omega arith) w))
    (λ e. let other : s.low / 0x4000 ≡ 1 → ⊥ = eqb-false _ _ e in omega arith)
    (λ e. let other : s.high / 0x4000 ≡ 2 → ⊥ = eqb-false _ _ e in omega arith)

-- any interval that is not empty is wide enough for 16 turns
pub wide16 : (x : ℕ) → 1 ≤ x → 0x10000 ≤ x * 2 ^ 16
wide16 x h = omega arith

-- after the turns that settle top bits, these differ
pub tops_parted : (s : Coder) → Ordered s → Parted (settle_tops 16 s)
tops_parted s o = settled_parted 16 s o (wide16 _ (omega arith))

-- a symbol that can be coded has a part of the interval that is not empty
pub narrow_ordered : (s : Coder) (a : Span) → WellFormed s → Codable a → Ordered (narrow s a)
unfolding narrow
narrow_ordered s a w g =
    let r : ℕ = s.high + 1 - s.low in
    let next = part_next r a.start a.weight a.total (omega arith) (omega arith) g.some in
    let most = part_le r (a.start + a.weight) a.total g.within in
    omega arith

-- The limits after a symbol that can be coded are well formed.
pub after_wellformed : (s : Coder) (a : Span) → WellFormed s → Codable a → WellFormed (after_symbol s a)
unfolding after_symbol
after_wellformed s a w g =
    let o : Ordered (narrow s a) = narrow_ordered s a w g in
    let p : Parted (settle_tops 16 (narrow s a)) = tops_parted (narrow s a) o in
    postponed_apart 16 _ p (wide16 _ (omega arith))

-- the counts of bits: a turn settles or postpones one more
pub record Grown (n : ℕ) (s t : Coder) : Type 0 where
  pub least : s.settled + s.pending ≤ t.settled + t.pending
  pub most : t.settled + t.pending ≤ s.settled + s.pending + n

pub settle_grown : (n : ℕ) (s : Coder) → Grown n s (settle_tops n s)
unfolding settle_tops
settle_grown zero s = omega arith
settle_grown (suc n) s =
    settle_cases (Grown (suc n) s) n s (λ e. let h = settle_grown n (settle_top s) in omega arith) (λ e. omega arith)

pub postpone_grown : (n : ℕ) (s : Coder) → Grown n s (postpones n s)
unfolding postpones
postpone_grown zero s = omega arith
postpone_grown (suc n) s =
    postpone_cases (Grown (suc n) s) n s
    (λ e d. let h = postpone_grown n (postpone s) in omega arith)
    (λ e. omega arith)
    (λ e. omega arith)

pub narrow_grown : (s : Coder) (a : Span) → Grown 0 s (narrow s a)
unfolding narrow
narrow_grown s a = omega arith

-- A symbol settles or postpones at most 32 bits.
pub after_grown : (s : Coder) (a : Span) → Grown 32 s (after_symbol s a)
unfolding after_symbol
after_grown s a =
    omega (arith, narrow_grown s a, settle_grown 16 (narrow s a), postpone_grown 16 (settle_tops 16 (narrow s a)))

-- bits that are put leave the bytes as many
pub holds_put : (bs l : List ℕ) (p : ℕ) {s : Coder} → Holds l s → Holds (put_bits l p bs) s
holds_put bs l p h = omega (arith, length_put_bits bs l p)

-- what holds the bits after a symbol holds those that it settles
pub turns_hold : (s : Coder) (l : List ℕ) → Holds l (postpones 16 (settle_tops 16 s)) → Holds l (settle_tops 16 s)
turns_hold s l h = omega (arith, postpone_grown 16 (settle_tops 16 s))
