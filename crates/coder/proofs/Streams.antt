-- The bits of a stream, read as numbers and as runs: what a reader's loops compute, and how a number shifts by one place.
use Rattle.std.proofs.Common.{◌≡◌, ℕ, zero, suc, ◌+◌, ◌-◌, ◌*◌, ◌/◌, ◌^◌, ◌<◌, ◌≤◌, true, false, eqb, List, length, sym, refl, ap, ◌∙◌, not-suc-le-zero, add-zero, pow-suc, add-one, arith, eq-eqb, ne_eqb, eqb-true}
use Rattle.coder.proofs.Tests.{and_both, both_and}
use Rattle.coder.specs.Bytes.{bit_at}
use Rattle.coder.specs.Forms.{is_run}
use Rattle.coder.specs.Stream.{Binary, Stream, word}
use lib.ListN.{get_or-eq_default}
use native.Mathlib.Nat.{pow-zero, zero-div}

-- the first bit is the highest
pub word_first : (x : Stream) (p n : ℕ) → word x p (suc n) ≡ x p * 2 ^ n + word x (suc p) n
unfolding word
word_first x p zero = let e : x (p + 0) ≡ x p = ap x (add-zero p) in omega (arith, e, pow-zero 2)
word_first x p (suc n) =
    let ih : word x p (suc n) ≡ x p * 2 ^ n + word x (suc p) n = word_first x p n in
    let e : x (p + suc n) ≡ x (suc p + n) = ap x (omega arith) in
    let m : x p * 2 ^ suc n ≡ 2 * (x p * 2 ^ n) = ap (λ (k : ℕ). x p * k) (pow-suc 2 n) ∙ omega arith in
    omega (arith, ih, e, m)

-- sixteen bits after one another, taken as the top one and fifteen, or as fifteen and the last
pub sixteen : (x : Stream) (p : ℕ) → x p * 0x8000 + word x (p + 1 + 0) 15 ≡ 2 * word x p 15 + x (p + 15)
unfolding word
sixteen x p =
    let e : word x (p + 1 + 0) 15 ≡ word x (suc p) 15 = ap (λ (k : ℕ). word x k 15) (omega arith) in
    omega (arith, word_first x p 15, e)

-- fifteen bits behind a bit that is passed over, and the fifteen after it
pub fifteen : (x : Stream) (p : ℕ) → (v : ℕ) → x p ≡ v
    → (word x p 15 ≡ v * 0x4000 + word x (suc p) 14) × (word x (suc p) 15 ≡ 2 * word x (suc p) 14 + x (suc p + 14))
unfolding word
fifteen x p v e = (word_first x p 14 ∙ ap (λ (k : ℕ). k * 0x4000 + word x (suc p) 14) e, refl)

-- n bits make a number below 2 ^ n
pub word_below : (x : Stream) (p n : ℕ) → Binary x → word x p n < 2 ^ n
unfolding word
word_below x p zero two = omega (arith, pow-zero 2)
word_below x p (suc n) two = omega (arith, word_below x p n two, two (p + n), pow-suc 2 n)

-- one bit more
pub word_more : (x : Stream) (p n : ℕ) → 2 * word x p n + x (p + n) ≡ word x p (n + 1)
unfolding word
word_more x p n = rw add-one

-- the bits of bytes: each is 0 or 1, and 0 past the end
pub bit_binary : (l : List ℕ) → Binary (bit_at l)
unfolding bit_at
bit_binary l i = omega arith

pub bit_past : (l : List ℕ) (i : ℕ) → 8 * length l ≤ i → bit_at l i ≡ 0
unfolding bit_at
bit_past l i h = let far : length l ≤ i / 8 = omega arith in rw (get_or-eq_default l 0 far, zero-div)

-- the turns of a run
pub run_more : (x : Stream) (p n b : ℕ) → 0 < n → x p ≡ b → is_run x (p + 1) (n - 1) b ≡ is_run x p n b
unfolding is_run
run_more x p zero b h e = absurd (omega arith)
run_more x p (suc n) b h e = let less : suc n - 1 ≡ n = omega arith in rw (less, eq-eqb _ _ e, add-one)

pub run_stop : (x : Stream) (p n b : ℕ) → 0 < n → (x p ≡ b → ⊥) → false ≡ is_run x p n b
unfolding is_run
run_stop x p zero b h e = absurd (omega arith)
run_stop x p (suc n) b h e = rw (ne_eqb _ _ e)

pub run_none : (x : Stream) (p n b : ℕ) → n ≤ 0 → true ≡ is_run x p n b
unfolding is_run
run_none x p zero b h = refl
run_none x p (suc n) b h = absurd (omega arith)

-- past the end all bits are equal
pub run_past : (l : List ℕ) (p n b : ℕ) → 8 * length l ≤ p → bit_at l p ≡ b → true ≡ is_run (bit_at l) p n b
unfolding is_run
run_past l p zero b far e = refl
run_past l p (suc n) b far e =
    let next : bit_at l (suc p) ≡ b = bit_past l (suc p) (omega arith) ∙ sym (bit_past l p far) ∙ e in
    rw (eq-eqb _ _ e) (run_past l (suc p) n b (omega arith) next)

-- a run, bit by bit
pub run_all : (x : Stream) (p n b : ℕ) → is_run x p n b ≡ true → (i : ℕ) → i < n → x (p + i) ≡ b
unfolding is_run
run_all x p zero b e i h = absurd (not-suc-le-zero h)
run_all x p (suc n) b e zero h = ap x (add-zero p) ∙ eqb-true _ _ (and_both (eqb (x p) b) _ e).0
run_all x p (suc n) b e (suc i) h =
    ap x (let same : p + suc i ≡ suc p + i = omega arith in same) ∙ run_all x (suc p) n b (and_both (eqb (x p) b) _ e).1 i (omega arith)

pub all_run : (x : Stream) (p n b : ℕ) → ((i : ℕ) → i < n → x (p + i) ≡ b) → is_run x p n b ≡ true
unfolding is_run
all_run x p zero b h = refl
all_run x p (suc n) b h =
    both_and (eqb (x p) b) _ (eq-eqb _ _ (ap x (sym (add-zero p)) ∙ h 0 (omega arith)))
    (all_run x (suc p) n b (λ i g. ap x (let same : suc p + i ≡ p + suc i = omega arith in same) ∙ h (suc i) (omega arith)))
