-- One turn of a loop, and its end, in the words of the definition that the loop computes.
use Rattle.std.proofs.Common.{◌≡◌, ℕ, zero, suc, ◌/◌, [], ◌++◌, length, refl, ap, eq-eqb, ne_eqb, eqb-true}
use Rattle.coder.proofs.Limits.{postpone_cases}
use Rattle.coder.specs.Interval.{postpone, postpones, settle_top, settle_tops, settled_bits, top_bits}
use Rattle.coder.specs.declared.interval.Coder.{Coder}
use lib.ListN.{length-replicate}

-- the turns that settle top bits
pub settle_more : (n : ℕ) (s : Coder) → s.low / 0x8000 ≡ s.high / 0x8000 → settle_tops n (settle_top s) ≡ settle_tops (suc n) s
unfolding settle_tops
settle_more n s e = rw (eq-eqb _ _ e, settle_tops)

pub settle_stop : (n : ℕ) (s : Coder) → (s.low / 0x8000 ≡ s.high / 0x8000 → ⊥) → s ≡ settle_tops n s
unfolding settle_tops
settle_stop zero s h = refl
settle_stop (suc n) s h = rw (ne_eqb _ _ h, settle_tops)

-- the bits that they settle
pub bits_more : (n : ℕ) (s : Coder) → s.low / 0x8000 ≡ s.high / 0x8000 → settled_bits s ++ top_bits n (settle_top s) ≡ top_bits (suc n) s
unfolding top_bits
bits_more n s e = rw (eq-eqb _ _ e, top_bits)

pub bits_stop : (n : ℕ) (s : Coder) → (s.low / 0x8000 ≡ s.high / 0x8000 → ⊥) → [] ≡ top_bits n s
unfolding top_bits
bits_stop zero s h = refl
bits_stop (suc n) s h = rw (ne_eqb _ _ h, top_bits)

-- a turn settles one bit and those that were pending
pub settled_length : (s : Coder) → length (settled_bits s) ≡ suc s.pending
unfolding settled_bits
settled_length s = ap suc (length-replicate s.pending _)

-- the turns that postpone
pub postpone_more : (n : ℕ) (s : Coder) → s.low / 0x4000 ≡ 1 → s.high / 0x4000 ≡ 2 → postpones n (postpone s) ≡ postpones (suc n) s
unfolding postpones
postpone_more n s l g = rw (eq-eqb _ _ l, eq-eqb _ _ g, postpones)

pub postpone_low : (n : ℕ) (s : Coder) → (s.low / 0x4000 ≡ 1 → ⊥) → s ≡ postpones n s
unfolding postpones
postpone_low zero s h = refl
postpone_low (suc n) s h = rw (ne_eqb _ _ h, postpones)

pub postpone_high : (n : ℕ) (s : Coder) → (s.high / 0x4000 ≡ 2 → ⊥) → s ≡ postpones n s
unfolding postpones
postpone_high zero s h = refl
postpone_high (suc n) s h =
    postpone_cases (λ (t : Coder). s ≡ t) n s (λ e d. absurd (h (eqb-true _ _ d))) (λ e. refl) (λ e. refl)
