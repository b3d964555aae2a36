-- Fifteen bits from any place stand in three bytes: each bit of the number that these make is the stream's, and bits of which the first
-- is the highest make the number that has them in reverse order.
use Rattle.std.proofs.Common.{◌≡◌, ℕ, zero, suc, ◌+◌, ◌-◌, ◌*◌, ◌/◌, ◌%◌, ◌^◌, ◌<◌, List, get_or, sym, refl, ap, ◌∙◌, add-zero, zero-add, zero-mul, div-one, arith, shr-shr}
use Rattle.coder.proofs.Streams.{word_first}
use Rattle.coder.specs.Bytes.{bit_at}
use Rattle.coder.specs.Inside.{three_at}
use Rattle.coder.specs.Stream.{Stream, word}
use Rattle.coder.specs.Symbols.{reversed}
use lib.Pow.{field, mod-mod-pow}

-- the bit of a number at a place
abbrev pub bit : ℕ → Stream
bit v i = v / 2 ^ i % 2

-- the bits of a remainder by a higher power
low_bit : (m v i : ℕ) → i < m → bit (v % 2 ^ m) i ≡ bit v i
low_bit m v i h =
    let k : ℕ = m - suc i in
    let e : m ≡ k + 1 + i = omega arith in
    ap (λ (n : ℕ). bit (v % 2 ^ n) i) e ∙ ap (λ (n : ℕ). n % 2) (field v (k + 1) i) ∙ mod-mod-pow (v / 2 ^ i) k 1

-- the bits of a quotient
high_bit : (k v i : ℕ) → bit (v / 2 ^ k) i ≡ bit v (k + i)
high_bit k v i = ap (λ (n : ℕ). n % 2) (shr-shr v k i)

-- a stream's bits, the first of them the highest, are a number's last bits in reverse order
pub reversed-word : (n v : ℕ) (x : Stream) (p : ℕ) → ((i : ℕ) → i < n → bit v i ≡ x (p + i)) → reversed n v ≡ word x p n
unfolding reversed word
reversed-word zero v x p same = refl
reversed-word (suc n) v x p same =
    let first : v % 2 ≡ x p = ap (λ (k : ℕ). k % 2) (sym (div-one v)) ∙ same 0 (omega arith) ∙ ap x (add-zero p) in
    let rest : reversed n (v / 2) ≡ word x (suc p) n =
    reversed-word n (v / 2) x (suc p) (λ i h. high_bit 1 v i ∙ same (1 + i) (omega arith) ∙ ap x (let e : p + (1 + i) ≡ suc p + i = omega arith in e)) in
    rw (word_first x p n, first, rest)

-- two words of eight bits, the first of them the higher
two_words : (x : Stream) → word x 0 8 * 256 + word x 8 8 ≡ word x 0 16
unfolding word
two_words x = omega arith

-- sixteen bits by two bytes
pub two_bytes : (v : ℕ) → reversed 8 (v % 256) * 256 + reversed 8 (v / 256) ≡ reversed 16 v
two_bytes v =
    let first : reversed 8 (v % 256) ≡ word (bit v) 0 8 = reversed-word 8 (v % 256) (bit v) 0 (λ i h. rw zero-add (low_bit 8 v i h)) in
    let second : reversed 8 (v / 256) ≡ word (bit v) 8 8 = reversed-word 8 (v / 256) (bit v) 8 (λ i h. high_bit 8 v i) in
    let whole : reversed 16 v ≡ word (bit v) 0 16 = reversed-word 16 v (bit v) 0 (λ i h. rw zero-add) in
    rw (first, second, whole) (two_words (bit v))

-- a number twice as large has a 0 before its bits
reversed_doubled : (n v : ℕ) → reversed (suc n) (v * 2) ≡ reversed n v
unfolding reversed
reversed_doubled n v =
    let none : v * 2 % 2 ≡ 0 = omega arith in
    let half : v * 2 / 2 ≡ v = omega arith in
    rw (none, half, zero-mul, zero-add)

module _ (l : List ℕ) (small : (i : ℕ) → get_or l i 0 < 256) where
  byte_of : (i q : ℕ) → q < 3 → three_at l i / 2 ^ (8 * q) % 2 ^ 8 ≡ get_or l (i + q) 0
  byte_of i zero h = omega (arith, small i, ap (λ (k : ℕ). get_or l k 0) (add-zero i))
  byte_of i (suc zero) h = omega (arith, small i, small (i + 1))
  byte_of i (suc (suc zero)) h = omega (arith, small i, small (i + 1), small (i + 2))
  byte_of i (suc (suc (suc q))) h = absurd (omega arith)

  three_bit : (i j : ℕ) → j < 24 → bit (three_at l i) j ≡ bit (get_or l (i + j / 8) 0) (j % 8)
  three_bit i j h =
      let e : j ≡ 8 * (j / 8) + j % 8 = omega arith in
      ap (bit (three_at l i)) e
      ∙ sym (high_bit (8 * (j / 8)) (three_at l i) (j % 8))
      ∙ sym (low_bit 8 (three_at l i / 2 ^ (8 * (j / 8))) (j % 8) (omega arith))
      ∙ ap (λ (b : ℕ). bit b (j % 8)) (byte_of i (j / 8) (omega arith))

  window_bit : (p i : ℕ) → i < 15 → bit (three_at l (p / 8) / 2 ^ (p % 8) % 0x8000) i ≡ bit_at l (p + i)
  unfolding bit_at
  window_bit p i h =
      let byte : p / 8 + (p % 8 + i) / 8 ≡ (p + i) / 8 = omega arith in
      let place : (p % 8 + i) % 8 ≡ (p + i) % 8 = omega arith in
      low_bit 15 (three_at l (p / 8) / 2 ^ (p % 8)) i h
      ∙ high_bit (p % 8) (three_at l (p / 8)) i
      ∙ three_bit (p / 8) (p % 8 + i) (omega arith)
      ∙ rw (byte, place)

  -- fifteen bits from a place
  pub window : (p : ℕ) → reversed 16 (three_at l (p / 8) / 2 ^ (p % 8) % 0x8000 * 2) ≡ word (bit_at l) p 15
  window p = reversed_doubled 15 _ ∙ reversed-word 15 _ (bit_at l) p (window_bit p)
