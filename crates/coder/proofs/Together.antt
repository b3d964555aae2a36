-- Several turns at once lead where as many turns one by one lead.
use Rattle.std.proofs.Common.{◌≡◌, ℕ, zero, suc, ◌+◌, ◌-◌, ◌*◌, ◌/◌, ◌%◌, ◌^◌, ◌<◌, ◌≤◌, Bool, true, false, eqb, leb, ◌⊎◌, sym, refl, ap, ◌∙◌, inl, inr, ⊎_elim, le_of_suc-le-suc, add-zero, mul-le-mul_right, mod-lt, mod-eq_of_lt, mul_assoc, mul_comm, add-mul, mul-le-mul, suc-add, mul-le-mul_left, one-mul, pow-suc, lt_of_not-le, zero-add, zero-mul, one-add, arith, pow_pos, pow_mono, pow-add, shr-shr, eqb-true, leb-false, leb-true}
use Rattle.coder.proofs.Limits.{Parted}
use Rattle.coder.proofs.Turns.{postpone_high, postpone_low, postpone_more, settle_more, settle_stop}
use Rattle.coder.specs.Interval.{postpone, postpones, settle_top, settle_tops}
use Rattle.coder.specs.declared.interval.Coder.{Coder}
use Rattle.coder.specs.Together.{Agreeing, Straddling, postponed_by, renormalized, settled_by}
use lib.Bits.{and_le_l, and_le_r, bit_and, bit_or, bit_xor, or_add_and, or_lt, xor_add_and, xor_lt, xor_self, xor_shr}
use borrow.Author.Tests.{eqb-false}
use lib.Count.{count_leading_zeros, leading_length}
use lib.Pow.{field, high, low, mod-mod-pow, mod-pow-add, shl-shr, split}
use native.Mathlib.Nat.{div-div-eq-div-mul, div-eq_of_lt, mul-mod_left}

-- limits and counts that are equal make equal states
abbrev pub made : ℕ → ℕ → ℕ → ℕ → Coder
made l h p e = record { low = l; high = h; pending = p; settled = e }

coder_same : {l h p e l' h' p' e' : ℕ} → l ≡ l' → h ≡ h' → p ≡ p' → e ≡ e' → made l h p e ≡ made l' h' p' e'
coder_same a b c d = rw (a, b, c, d)

-- twice a product with a power of two
pub twice : (x n : ℕ) → x * 2 ^ suc n ≡ 2 * (x * 2 ^ n)
twice x n = rw (pow-suc 2 n, ← mul_assoc x (2 ^ n) 2, mul_comm (x * 2 ^ n) 2)

pub twice_in : (x n : ℕ) → 2 * x * 2 ^ n ≡ 2 * (x * 2 ^ n)
twice_in x n = mul_assoc 2 x (2 ^ n)

-- ---- the turns that postpone

postpone_step : (n : ℕ) (s : Coder) → Parted s → 0x4000 ≤ s.low → s.high < 0xC000 → postponed_by n (postpone s) ≡ postponed_by (suc n) s
unfolding postponed_by
postpone_step n s o l h =
    let below : 0x8000 - 2 * (s.low - 0x4000) ≡ 2 * (0x8000 - s.low) = omega arith in
    let above : 2 * (s.high - 0x4000) + 1 - 0x7FFF ≡ 2 * (s.high - 0x7FFF) = omega arith in
    coder_same
    (ap (λ (x : ℕ). 0x8000 - x) (rw (below, twice_in (0x8000 - s.low) n, twice (0x8000 - s.low) n)))
    (ap (λ (x : ℕ). 0x7FFF + x) (rw (above, twice_in (s.high - 0x7FFF) n, twice (s.high - 0x7FFF) n)))
    (omega arith) refl

-- n turns of 10.4.4.5, where each limit stays within its half
pub postpone_turns : (n m : ℕ) (s : Coder) → Parted s → (0x8000 - s.low) * 2 ^ n ≤ 0x8000 → (s.high - 0x7FFF) * 2 ^ n ≤ 0x8000
    → postpones (n + m) s ≡ postpones m (postponed_by n s)
unfolding postponed_by
postpone_turns zero m s o l h =
    let same : s ≡ made (0x8000 - (0x8000 - s.low) * 2 ^ zero) (0x7FFF + (s.high - 0x7FFF) * 2 ^ zero) (s.pending + zero) s.settled =
    coder_same (omega arith) (omega arith) (omega arith) refl in
    ap (λ (k : ℕ). postpones k s) (zero-add m) ∙ ap (postpones m) same
postpone_turns (suc n) m s o l h =
    let some : 1 ≤ 2 ^ n = pow_pos n in
    let low_half : 2 * ((0x8000 - s.low) * 2 ^ n) ≤ 0x8000 = rw (← twice (0x8000 - s.low) n) l in
    let high_half : 2 * ((s.high - 0x7FFF) * 2 ^ n) ≤ 0x8000 = rw (← twice (s.high - 0x7FFF) n) h in
    let low-least : (0x8000 - s.low) * 1 ≤ (0x8000 - s.low) * 2 ^ n = mul-le-mul_left (0x8000 - s.low) some in
    let high-least : (s.high - 0x7FFF) * 1 ≤ (s.high - 0x7FFF) * 2 ^ n = mul-le-mul_left (s.high - 0x7FFF) some in
    let below : 0x8000 - 2 * (s.low - 0x4000) ≡ 2 * (0x8000 - s.low) = omega arith in
    let above : 2 * (s.high - 0x4000) + 1 - 0x7FFF ≡ 2 * (s.high - 0x7FFF) = omega arith in
    ap (λ (k : ℕ). postpones k s) (suc-add n m)
    ∙ sym (postpone_more (n + m) s (omega arith) (omega arith))
    ∙ postpone_turns n m (postpone s) (omega arith)
    (rw (below, twice_in (0x8000 - s.low) n) low_half) (rw (above, twice_in (s.high - 0x7FFF) n) high_half)
    ∙ ap (postpones m) (postpone_step n s o (omega arith) (omega arith))

-- As many turns of 10.4.4.5 as bits straddle the middle lead where any larger number of turns leads.
postpone_together : (n m : ℕ) (s : Coder) → Parted s → Straddling n s.low s.high → postpones (n + m) s ≡ postponed_by n s
unfolding postponed_by
postpone_together n m s o g = postpone_turns n m s o g.below g.above ∙ go g.next
  where
    go : (0x4000 < (0x8000 - s.low) * 2 ^ n) ⊎ (0x4000 < (s.high - 0x7FFF) * 2 ^ n) → postpones m (postponed_by n s) ≡ postponed_by n s
    go (inl a) = sym (postpone_low m (postponed_by n s) (λ e. absurd (omega (arith, g.below))))
    go (inr b) = sym (postpone_high m (postponed_by n s) (λ e. absurd (omega (arith, g.above))))

-- Sixteen turns are enough.
pub postpone-all : (n : ℕ) (s : Coder) → Parted s → Straddling n s.low s.high → postpones 16 s ≡ postponed_by n s
postpone-all n s o g =
    let whole : n + (16 - n) ≡ 16 = omega (arith, g.most) in
    ap (λ (k : ℕ). postpones k s) (sym whole) ∙ postpone_together n (16 - n) s o g

-- ---- the turns that settle

-- a number shifted up in 16 bits keeps its low ones
shifted : (n q x : ℕ) → n + q ≡ 16 → x * 2 ^ n % 0x10000 ≡ x % 2 ^ q * 2 ^ n
shifted n q x e =
    let turned : q + n ≡ 16 = omega arith in
    let whole : 2 ^ (q + n) ≡ 0x10000 = ap (λ (k : ℕ). 2 ^ k) turned in
    rw (← whole, mod-pow-add (x * 2 ^ n) q n, shl-shr x n, mul-mod_left x (2 ^ n), add-zero)

-- the low bits of twice a number, and of one more
pub doubled : (q x b : ℕ) → b ≤ 1 → (2 * x + b) % 2 ^ suc q ≡ 2 * (x % 2 ^ q) + b
doubled q x b h =
    let parts = split x q in
    let most = mod-lt x {m = 2 ^ q} (pow_pos q) in
    let more : 2 ^ suc q ≡ 2 * 2 ^ q = rw (pow-suc 2 q, mul_comm (2 ^ q) 2) in
    let top : x / 2 ^ q * 2 ^ suc q ≡ 2 * (x / 2 ^ q * 2 ^ q) = twice (x / 2 ^ q) q in
    let e : 2 * x + b ≡ x / 2 ^ q * 2 ^ suc q + (2 * (x % 2 ^ q) + b) = omega arith in
    ap (λ (y : ℕ). y % 2 ^ suc q) e ∙ low (x / 2 ^ q) (suc q) {lo = 2 * (x % 2 ^ q) + b} (omega arith)

-- the low bits of what is below the top bit
below_top : (n q x : ℕ) → n + q ≡ 15 → x % 0x8000 % 2 ^ q ≡ x % 2 ^ q
below_top n q x e =
    let whole : 2 ^ (n + q) ≡ 0x8000 = ap (λ (k : ℕ). 2 ^ k) e in
    rw (← whole, mod-mod-pow x n q)

-- the limits after a turn, shifted
shift_low : (k q x : ℕ) → k + q ≡ 15 → 2 * (x % 0x8000) * 2 ^ k % 0x10000 ≡ x * 2 ^ suc k % 0x10000
shift_low k q x e =
    let inner : 2 * (x % 0x8000) % 2 ^ suc q ≡ 2 * (x % 2 ^ q) = rw (← add-zero (2 * (x % 0x8000)), doubled q (x % 0x8000) 0 (omega arith), below_top k q x e, add-zero) in
    shifted k (suc q) (2 * (x % 0x8000)) (omega arith)
    ∙ ap (λ (y : ℕ). y * 2 ^ k) inner ∙ twice_in (x % 2 ^ q) k ∙ sym (twice (x % 2 ^ q) k)
    ∙ sym (shifted (suc k) q x (omega arith))

shift_high : (k q x : ℕ) → k + q ≡ 15
    → (2 * (x % 0x8000) + 1) * 2 ^ k % 0x10000 + (2 ^ k - 1) ≡ x * 2 ^ suc k % 0x10000 + (2 ^ suc k - 1)
shift_high k q x e =
    let inner : (2 * (x % 0x8000) + 1) % 2 ^ suc q ≡ 2 * (x % 2 ^ q) + 1 = rw (doubled q (x % 0x8000) 1 (omega arith), below_top k q x e) in
    let some : 1 ≤ 2 ^ k = pow_pos k in
    let more : 2 ^ suc k ≡ 2 * 2 ^ k = rw (pow-suc 2 k, mul_comm (2 ^ k) 2) in
    let spread : (2 * (x % 2 ^ q) + 1) * 2 ^ k ≡ 2 * (x % 2 ^ q * 2 ^ k) + 2 ^ k =
    add-mul (2 * (x % 2 ^ q)) 1 (2 ^ k) ∙ rw (twice_in (x % 2 ^ q) k, one-mul) in
    let left : (2 * (x % 0x8000) + 1) * 2 ^ k % 0x10000 ≡ 2 * (x % 2 ^ q * 2 ^ k) + 2 ^ k =
    shifted k (suc q) (2 * (x % 0x8000) + 1) (omega arith) ∙ ap (λ (y : ℕ). y * 2 ^ k) inner ∙ spread in
    let right : x * 2 ^ suc k % 0x10000 ≡ 2 * (x % 2 ^ q * 2 ^ k) = shifted (suc k) q x (omega arith) ∙ twice (x % 2 ^ q) k in
    omega arith

pub settle_step : (n q : ℕ) (s : Coder) → suc n + q ≡ 16 → settled_by n (settle_top s) ≡ settled_by (suc n) s
unfolding settled_by
settle_step zero q s e = coder_same (omega arith) (omega arith) refl (omega arith)
settle_step (suc k) q s e =
    coder_same (shift_low (suc k) q s.low (omega arith)) (shift_high (suc k) q s.high (omega arith)) refl (omega arith)

-- limits that agree in more bits than one agree in the top one, and without it in one less
pub agree_top : (n q a b : ℕ) → n + q ≡ 15 → a / 2 ^ q ≡ b / 2 ^ q → a / 0x8000 ≡ b / 0x8000
agree_top n q a b e h =
    let turned : q + n ≡ 15 = omega arith in
    let whole : 2 ^ (q + n) ≡ 0x8000 = ap (λ (k : ℕ). 2 ^ k) turned in
    rw (← whole, ← shr-shr a q n, ← shr-shr b q n, h)

-- a number's bits from the place q up, below the top one
pub rest_of : (n q x b : ℕ) → n + q ≡ 15 → b ≤ 1 → (2 * (x % 0x8000) + b) / 2 ^ suc q ≡ x / 2 ^ q % 2 ^ n
rest_of n q x b e h =
    let whole : 2 ^ (n + q) ≡ 0x8000 = ap (λ (k : ℕ). 2 ^ k) e in
    let half : (2 * (x % 0x8000) + b) / 2 ≡ x % 0x8000 = omega arith in
    let cut : (2 * (x % 0x8000) + b) / 2 ^ suc q ≡ (2 * (x % 0x8000) + b) / 2 / 2 ^ q =
    rw (pow-suc 2 q, mul_comm (2 ^ q) 2, div-div-eq-div-mul (2 * (x % 0x8000) + b) 2 (2 ^ q)) in
    cut ∙ ap (λ (y : ℕ). y / 2 ^ q) half ∙ ap (λ (y : ℕ). x % y / 2 ^ q) (sym whole) ∙ field x n q

pub agree_rest : (n q a b : ℕ) → n + q ≡ 15 → a / 2 ^ q ≡ b / 2 ^ q → 2 * (a % 0x8000) / 2 ^ suc q ≡ (2 * (b % 0x8000) + 1) / 2 ^ suc q
agree_rest n q a b e h =
    let first : 2 * (a % 0x8000) / 2 ^ suc q ≡ a / 2 ^ q % 2 ^ n = rw (← add-zero (2 * (a % 0x8000)), rest_of n q a 0 e (omega arith)) in
    first ∙ ap (λ (y : ℕ). y % 2 ^ n) h ∙ sym (rest_of n q b 1 e (omega arith))

-- n turns of 10.4.4.4, where n top bits agree
pub settle_turns : (n q m : ℕ) (s : Coder) → n + q ≡ 16 → s.low / 2 ^ q ≡ s.high / 2 ^ q
    → settle_tops (n + m) s ≡ settle_tops m (settled_by n s)
unfolding settled_by
settle_turns zero q m s e h = ap (λ (k : ℕ). settle_tops k s) (zero-add m)
settle_turns (suc n) q m s e h =
    ap (λ (k : ℕ). settle_tops k s) (suc-add n m)
    ∙ sym (settle_more (n + m) s (agree_top n q s.low s.high (omega arith) h))
    ∙ settle_turns n (suc q) m (settle_top s) (omega arith) (agree_rest n q s.low s.high (omega arith) h)
    ∙ ap (settle_tops m) (settle_step n q s e)

halves : (x p : ℕ) → x / 2 ^ p / 2 ≡ x / 2 ^ suc p
halves x p = rw (pow-suc 2 p, div-div-eq-div-mul x (2 ^ p) 2)

next_bit : (x p : ℕ) → x % 2 ^ suc p / 2 ^ p ≡ x / 2 ^ p % 2
next_bit x p = ap (λ (k : ℕ). x % 2 ^ k / 2 ^ p) (sym (one-add p)) ∙ field x 1 p

-- the top bits of limits that were shifted are the next bits of what they were
pub top_low : (n p x : ℕ) → n + p ≡ 15 → x * 2 ^ n % 0x10000 / 0x8000 ≡ x / 2 ^ p % 2
top_low n p x e =
    let whole : 2 ^ (n + p) ≡ 0x8000 = ap (λ (k : ℕ). 2 ^ k) e in
    ap (λ (y : ℕ). y / 0x8000) (shifted n (suc p) x (omega arith))
    ∙ ap (λ (y : ℕ). x % 2 ^ suc p * 2 ^ n / y) (sym whole)
    ∙ sym (shr-shr (x % 2 ^ suc p * 2 ^ n) n p)
    ∙ ap (λ (y : ℕ). y / 2 ^ p) (shl-shr (x % 2 ^ suc p) n)
    ∙ next_bit x p

pub top_high : (n p x : ℕ) → n + p ≡ 15 → (x * 2 ^ n % 0x10000 + (2 ^ n - 1)) / 0x8000 ≡ x / 2 ^ p % 2
top_high n p x e =
    let whole : 2 ^ (n + p) ≡ 0x8000 = ap (λ (k : ℕ). 2 ^ k) e in
    let some : 1 ≤ 2 ^ n = pow_pos n in
    ap (λ (y : ℕ). (y + (2 ^ n - 1)) / 0x8000) (shifted n (suc p) x (omega arith))
    ∙ ap (λ (y : ℕ). (x % 2 ^ suc p * 2 ^ n + (2 ^ n - 1)) / y) (sym whole)
    ∙ sym (shr-shr (x % 2 ^ suc p * 2 ^ n + (2 ^ n - 1)) n p)
    ∙ ap (λ (y : ℕ). y / 2 ^ p) (high (x % 2 ^ suc p) n {lo = 2 ^ n - 1} (omega arith))
    ∙ next_bit x p

-- limits that agree down to a bit and in it agree from it on
pub agree_next : (p a b : ℕ) → a / 2 ^ suc p ≡ b / 2 ^ suc p → a / 2 ^ p % 2 ≡ b / 2 ^ p % 2 → a / 2 ^ p ≡ b / 2 ^ p
agree_next p a b h g =
    let first : a / 2 ^ p / 2 ≡ b / 2 ^ p / 2 = halves a p ∙ h ∙ sym (halves b p) in
    omega arith

settle_ends : (n p m : ℕ) (s : Coder) → n + suc p ≡ 16 → s.low / 2 ^ suc p ≡ s.high / 2 ^ suc p → (s.low / 2 ^ p ≡ s.high / 2 ^ p → ⊥)
    → settle_tops m (settled_by n s) ≡ settled_by n s
unfolding settled_by
settle_ends zero p m s e h d =
    let top : p ≡ 15 = omega arith in
    let whole : 2 ^ p ≡ 0x8000 = ap (λ (k : ℕ). 2 ^ k) top in
    sym (settle_stop m s (λ g. d (rw whole g)))
settle_ends (suc n) p m s e h d =
    sym (settle_stop m (settled_by (suc n) s)
    (λ g. d (agree_next p s.low s.high h (sym (top_low (suc n) p s.low (omega arith)) ∙ g ∙ top_high (suc n) p s.high (omega arith)))))

none : (s : Coder) → settle_tops zero s ≡ s
unfolding settle_tops
none s = refl

-- As many turns of 10.4.4.4 as top bits agree lead where sixteen turns lead.
pub settle_together : (n : ℕ) (s : Coder) → Agreeing n s.low s.high → settle_tops 16 s ≡ settled_by n s
settle_together n s g =
    ap (λ (k : ℕ). settle_tops k s) (sym g.whole)
    ∙ settle_turns n g.left g.left s g.whole g.same
    ∙ go g.left g.whole g.same g.next
  where
    go : (q : ℕ) → n + q ≡ 16 → s.low / 2 ^ q ≡ s.high / 2 ^ q → ((p : ℕ) → q ≡ suc p → s.low / 2 ^ p ≡ s.high / 2 ^ p → ⊥)
        → settle_tops q (settled_by n s) ≡ settled_by n s
    go zero e h d = none (settled_by n s)
    go (suc p) e h d = settle_ends n p (suc p) s e h (d p refl)

-- An interval of more than half the whole makes no turn.
pub wide_none : (s : Coder) → s.low ≤ s.high → s.high ≤ 0xFFFF → 0x8000 ≤ s.high - s.low → s ≡ renormalized s
wide_none s o f h = go (eqb (s.low / 0x4000) 1) refl ∙ ap (postpones 16) (settle_stop 16 s (λ e. absurd (omega arith)))
  where
    go : (b : Bool) → eqb (s.low / 0x4000) 1 ≡ b → s ≡ postpones 16 s
    go true e = let next : s.low / 0x4000 ≡ 1 = eqb-true _ _ e in postpone_high 16 s (λ d. absurd (omega arith))
    go false e = postpone_low 16 s (eqb-false _ _ e)

-- ---- the numbers of bits, found

xor_none : (a b : ℕ) → bit_xor a b ≡ 0 → a ≡ b
xor_none a b e =
    let total = xor_add_and a b in
    omega (arith, and_le_l a b, and_le_r a b)

-- the length of a number below a power of two is at most its exponent
short : (k len x : ℕ) → x < 2 ^ k → 2 ^ len ≤ 2 * x + 1 → len ≤ k
short k len x h l =
    le_of_suc-le-suc (lt_of_not-le (λ (g : suc k ≤ len). long g))
  where
    long : suc k ≤ len → ⊥
    long g =
        let more : 2 ^ suc k ≤ 2 ^ len = pow_mono g in
        let dbl : 2 ^ suc k ≡ 2 * 2 ^ k = rw (pow-suc 2 k, mul_comm (2 ^ k) 2) in
        omega arith

-- a number of more than p bits is not 0 without the last p
longer : (p x : ℕ) → 2 ^ suc p ≤ 2 * x + 1 → x / 2 ^ p ≡ 0 → ⊥
longer p x l e =
    let dbl : 2 ^ suc p ≡ 2 * 2 ^ p = rw (pow-suc 2 p, mul_comm (2 ^ p) 2) in
    let most = mod-lt x {m = 2 ^ p} (pow_pos p) in
    let parts : x / 2 ^ p * 2 ^ p + x % 2 ^ p ≡ x = split x p in
    let none : x / 2 ^ p * 2 ^ p ≡ 0 = ap (λ (y : ℕ). y * 2 ^ p) e ∙ zero-mul (2 ^ p) in
    omega arith

-- The number of top bits in which two limits agree.
pub agreeing_of : (a b : ℕ) → a ≤ 0xFFFF → b ≤ 0xFFFF → (16 ≤ count_leading_zeros 32 (bit_xor a b)) × Agreeing (count_leading_zeros 32 (bit_xor a b) - 16) a b
agreeing_of a b ha hb =
    let x : ℕ = bit_xor a b in
    let small : x < 2 ^ 16 = xor_lt 16 a b (omega arith) (omega arith) in
    let found = leading_length 32 x (omega arith) in
    let len : ℕ = found.0 in
    let all : count_leading_zeros 32 x + len ≡ 32 = found.1 in
    let most : len ≤ 16 = short 16 len x small found.3 in (
      omega arith,
      record {
        left = len;
        whole = omega arith;
        same = xor_none (a / 2 ^ len) (b / 2 ^ len) (sym (xor_shr a b len) ∙ div-eq_of_lt found.2);
        next = λ p e h.
            let long : 2 ^ suc p ≤ 2 * x + 1 = rw (← e) found.3 in
            longer p x long (xor_shr a b p ∙ ap (λ (y : ℕ). bit_xor y (b / 2 ^ p)) h ∙ xor_self (b / 2 ^ p));
      },
    )

-- a distance from the middle of so many bits, shifted to the half's size
reach : (n len d w : ℕ) → n + len ≡ 15 → d ≤ w → w < 2 ^ len → suc d * 2 ^ n ≤ 0x8000
reach n len d w e h l =
    let turned : len + n ≡ 15 = omega arith in
    let whole : 2 ^ len * 2 ^ n ≡ 0x8000 = sym (pow-add 2 len n) ∙ ap (λ (k : ℕ). 2 ^ k) turned in
    let fits : suc d ≤ 2 ^ len = omega arith in
    let spread : suc d * 2 ^ n ≤ 2 ^ len * 2 ^ n = mul-le-mul_right (2 ^ n) fits in
    rw whole at spread

over : (n len d : ℕ) → n + len ≡ 15 → 2 ^ len ≤ 2 * d + 1 → 0x4000 < suc d * 2 ^ n
over n len d e l =
    let turned : len + n ≡ 15 = omega arith in
    let some : 1 ≤ 2 ^ n = pow_pos n in
    let whole : 2 ^ len * 2 ^ n ≡ 0x8000 = sym (pow-add 2 len n) ∙ ap (λ (k : ℕ). 2 ^ k) turned in
    let wide : (2 ^ len + 1) * 2 ^ n ≤ (2 * suc d) * 2 ^ n = mul-le-mul_right (2 ^ n) (omega arith) in
    let left : (2 ^ len + 1) * 2 ^ n ≡ 0x8000 + 2 ^ n = add-mul (2 ^ len) 1 (2 ^ n) ∙ rw (whole, one-mul) in
    let right : (2 * suc d) * 2 ^ n ≡ 2 * (suc d * 2 ^ n) = twice_in (suc d) n in
    omega arith

-- one of two numbers is as long as both together
long_one : (len x y : ℕ) → 2 ^ len ≤ 2 * bit_or x y + 1 → (2 ^ len ≤ 2 * x + 1) ⊎ (2 ^ len ≤ 2 * y + 1)
long_one zero x y h = inl (omega arith)
long_one (suc k) x y h = go (leb (2 ^ k) x) (leb (2 ^ k) y) refl refl
  where
    dbl : 2 ^ suc k ≡ 2 * 2 ^ k
    dbl = rw (pow-suc 2 k, mul_comm (2 ^ k) 2)

    go : (a b : Bool) → leb (2 ^ k) x ≡ a → leb (2 ^ k) y ≡ b → (2 ^ suc k ≤ 2 * x + 1) ⊎ (2 ^ suc k ≤ 2 * y + 1)
    go true b e d = inl (omega (arith, dbl, leb-true (2 ^ k) x e))
    go false true e d = inr (omega (arith, dbl, leb-true (2 ^ k) y d))
    go false false e d = absurd (omega (arith, dbl, or_lt k x y (leb-false (2 ^ k) x e) (leb-false (2 ^ k) y d)))

-- The number of bits that straddle the middle: the leading zeros that the limits' distances from it share.
pub straddling_of : (a b : ℕ) → a < 0x8000 → 0x8000 ≤ b → b ≤ 0xFFFF
    → let w = bit_or (0x7FFF - a) (b - 0x8000) in (17 ≤ count_leading_zeros 32 w) × Straddling (count_leading_zeros 32 w - 17) a b
straddling_of a b la lb hb =
    let x : ℕ = 0x7FFF - a in
    let y : ℕ = b - 0x8000 in
    let w : ℕ = bit_or x y in
    let both : w + bit_and x y ≡ x + y = or_add_and x y in
    let small : w < 2 ^ 15 = or_lt 15 x y (omega arith) (omega arith) in
    let found = leading_length 32 w (omega arith) in
    let len : ℕ = found.0 in
    let all : count_leading_zeros 32 w + len ≡ 32 = found.1 in
    let most : len ≤ 15 = short 15 len w small found.3 in
    let n : ℕ = count_leading_zeros 32 w - 17 in
    let e : n + len ≡ 15 = omega arith in
    let from_low : suc x ≡ 0x8000 - a = omega arith in
    let from-high : suc y ≡ b - 0x7FFF = omega arith in (
      omega arith,
      record {
        most = omega arith;
        below = rw from_low at (reach n len x w e (omega (arith, and_le_r x y)) found.2);
        above = rw from-high at (reach n len y w e (omega (arith, and_le_l x y)) found.2);
        next = ⊎_elim (λ l. inl (rw from_low at (over n len x e l))) (λ l. inr (rw from-high at (over n len y e l))) (long_one len x y found.3);
      },
    )

-- ---- as the machine computes them

-- a shift of 16 bits by up to 16 places stays in 32 bits
pub shl_small : (n x : ℕ) → n ≤ 16 → x ≤ 0xFFFF → x * 2 ^ n % 0x100000000 ≡ x * 2 ^ n
shl_small n x h l =
    let most : 2 ^ n ≤ 2 ^ 16 = pow_mono h in
    let wide : x * 2 ^ n ≤ 0xFFFF * 2 ^ 16 = mul-le-mul l most in
    mod-eq_of_lt (omega arith)

-- as many turns at once as the machine computes them, at a count that is not 0
pub settled_at : (n : ℕ) (s : Coder) → 0 < n → n ≤ 16 → s.low ≤ 0xFFFF → s.high ≤ 0xFFFF
    → made (s.low * 2 ^ n % 0x100000000 % 0x10000) (s.high * 2 ^ n % 0x100000000 % 0x10000 + (1 * 2 ^ n % 0x100000000 - 1)) 0 (s.settled + n + s.pending)
    ≡ settled_by n s
unfolding settled_by
settled_at zero s p h l g = absurd (omega arith)
settled_at (suc n) s p h l g =
    rw (shl_small (suc n) s.low h l, shl_small (suc n) s.high h g, shl_small (suc n) 1 h (omega arith), one-mul)

pub settled_none : (n : ℕ) (s : Coder) → n ≡ 0 → s ≡ settled_by n s
unfolding settled_by
settled_none zero s e = refl
settled_none (suc n) s e = absurd (omega arith)

pub postponed_at : (n : ℕ) (s : Coder) → Straddling n s.low s.high
    → made (0x8000 - (0x8000 - s.low) * 2 ^ n % 0x100000000) (0x7FFF + (s.high - 0x7FFF) * 2 ^ n % 0x100000000) (s.pending + n) s.settled
    ≡ postponed_by n s
unfolding postponed_by
postponed_at n s g =
    let low_fits : (0x8000 - s.low) * 2 ^ n % 0x100000000 ≡ (0x8000 - s.low) * 2 ^ n = omega (arith, g.below) in
    let high_fits : (s.high - 0x7FFF) * 2 ^ n % 0x100000000 ≡ (s.high - 0x7FFF) * 2 ^ n = omega (arith, g.above) in
    rw (low_fits, high_fits)
