-- After bits were stored the bytes hold them, all that stood before them, and zeros to the end of the last byte: a bit that is put
-- changes its byte from its place upward, and no other byte.
use Prim.Native.Nat.{ℕ, suc, ◌+◌, ◌*◌, ◌-◌, ◌/◌, ◌%◌, ◌^◌, ◌≤◌, ◌<◌}
use Rattle.coder.proofs.Putting.{bit_mul, length_put_bit, length_put_bits}
use Rattle.coder.proofs.SettledBits.{AllBits}
use Rattle.coder.specs.Bytes.{bit_at, bytes_of, padded, put_bit, put_bits, store_bits}
use Rattle.coder.specs.Stream.{Carries}
use borrow.Author.Tests.{eqb-false, eqb-true}
use lib.Dec.{eqb}
use lib.ListN.{get_or, length, set, take}
use lib.Pow.{field, high, low, mod-mod-pow, pow_mono, pow_pos}
use lib.Seq.{get_or-set_other, get_or-set_same, get_or-take}
use mathlib.Core.Bool.{Bool, true, false, cond}
use mathlib.Core.List.{List, [], ◌∷◌}
use mathlib.Core.Logic.{◌≢◌, ⊎_elim}
use mathlib.Core.Path.{◌≡◌, ◌∙◌, refl, sym}
use native.Mathlib.Decide.{ℕ_discrete}
use native.Mathlib.Nat.{add_comm, div-eq_of_lt, eq-or-lt_of_le, mod-eq_of_lt, mod-lt, pow-suc}
use native.Mathlib.Omega.{arith}

-- ---- bits of a number

-- numbers that are the same up to a place have the same bits below it
same_below : (u v j k : ℕ) → j < k → u % 2 ^ k ≡ v % 2 ^ k → u / 2 ^ j % 2 ≡ v / 2 ^ j % 2
same_below u v j k h e =
    let m : ℕ = k - suc j in
    let q : k ≡ m + (1 + j) = omega arith in
    let f : u % 2 ^ (m + (1 + j)) ≡ v % 2 ^ (m + (1 + j)) = rw q at e in
    sym (field u 1 j) ∙ rw (← mod-mod-pow u m (1 + j), f, mod-mod-pow v m (1 + j)) (field v 1 j)

-- the bit b at place k, above a number that is cut there
module _ (v b k : ℕ) where
  bit_below : (j : ℕ) → j < k → (v % 2 ^ k + b * 2 ^ k) / 2 ^ j % 2 ≡ v / 2 ^ j % 2
  bit_below j h = same_below _ v j k h (rw add_comm (low b k (mod-lt v (pow_pos k))))

  bit_there : b ≤ 1 → (v % 2 ^ k + b * 2 ^ k) / 2 ^ k % 2 ≡ b
  bit_there h = rw (add_comm (v % 2 ^ k) (b * 2 ^ k), high b k (mod-lt v (pow_pos k))) (mod-eq_of_lt (omega arith))

  bit_above : b ≤ 1 → (j : ℕ) → k < j → (v % 2 ^ k + b * 2 ^ k) / 2 ^ j % 2 ≡ 0
  bit_above h j l =
      let p : 2 ^ suc k ≤ 2 ^ j = pow_mono l in
      let small : v % 2 ^ k + b * 2 ^ k < 2 ^ j = omega (arith, mod-lt v (pow_pos k), pow-suc 2 k, bit_mul b (2 ^ k) h) in
      rw (div-eq_of_lt small)

-- ---- a bit is put

module _ (l : List ℕ) (m w i : ℕ) where
  set_same : i / 8 ≡ m → m < length l → bit_at (set l m w) i ≡ w / 2 ^ (i % 8) % 2
  unfolding bit_at
  set_same e h = rw (e, get_or-set_same l m w 0 h)

  set_other : i / 8 ≢ m → bit_at (set l m w) i ≡ bit_at l i
  unfolding bit_at
  set_other n = rw (get_or-set_other l m (i / 8) w 0 n)

module _ (l : List ℕ) (p b : ℕ) (inside : p < 8 * length l) where
  put_before : (i : ℕ) → i < p → bit_at (put_bit l p b) i ≡ bit_at l i
  unfolding put_bit bit_at
  put_before i h = go (ℕ_discrete (i / 8) (p / 8))
    where
      v : ℕ
      v = get_or l (p / 8) 0

      w : ℕ
      w = v % 2 ^ (p % 8) + b * 2 ^ (p % 8)

      go : Dec (i / 8 ≡ p / 8) → bit_at (set l (p / 8) w) i ≡ bit_at l i
      go (yes e) = set_same l (p / 8) w i e (omega arith) ∙ bit_below v b (p % 8) (i % 8) (omega arith) ∙ rw e
      go (no n) = set_other l (p / 8) w i n

  put_there : b ≤ 1 → bit_at (put_bit l p b) p ≡ b
  unfolding put_bit
  put_there h = set_same l (p / 8) _ p refl (omega arith) ∙ bit_there (get_or l (p / 8) 0) b (p % 8) h

  put_above : b ≤ 1 → (i : ℕ) → p < i → i / 8 ≡ p / 8 → bit_at (put_bit l p b) i ≡ 0
  unfolding put_bit
  put_above h i g e = set_same l (p / 8) _ i e (omega arith) ∙ bit_above (get_or l (p / 8) 0) b (p % 8) h (i % 8) (omega arith)

-- ---- bits are stored

-- zeros from place p to the end of its byte
abbrev pub ZeroTail : List ℕ → ℕ → Type 0
ZeroTail l p = (i : ℕ) → p ≤ i → i < 8 * bytes_of p → bit_at l i ≡ 0

-- what stood before the place is kept, the bits stand from it on, and zeros follow to the end of the byte
pub record Stored (l m : List ℕ) (p : ℕ) (bits : List ℕ) : Type 0 where
  pub kept : (i : ℕ) → i < p → bit_at m i ≡ bit_at l i
  pub holds : Carries (bit_at m) p bits
  pub tail : ZeroTail m (p + length bits)

put_stored : (bits l : List ℕ) (p : ℕ) → AllBits bits → p + length bits ≤ 8 * length l → ZeroTail l p → Stored l (put_bits l p bits) p bits
unfolding put_bits Carries
put_stored [] l p a fits z = record { kept = λ i h. refl; holds = tt; tail = λ i h g. z i (omega arith) (omega arith) }
put_stored (b ∷ bits) l p a fits z =
    let inside : p < 8 * length l = omega arith in
    let rest = put_stored bits (put_bit l p b) (suc p) a.1 (omega (arith, length_put_bit l p b))
    (λ i h g. put_above l p b inside a.0 i (omega arith) (omega arith)) in
    record {
      kept = λ i h. rest.kept i (omega arith) ∙ put_before l p b inside i h;
      holds = (rest.kept p (omega arith) ∙ put_there l p b inside a.0, rest.holds);
      tail = λ i h g. rest.tail i (omega arith) (omega arith);
    }

-- Bits that fit the bytes are held after they were stored.
pub store_stored : (bits l : List ℕ) (p : ℕ) → AllBits bits → p + length bits ≤ 8 * length l → Stored l (store_bits l p bits) p bits
unfolding store_bits padded
store_stored bits l p a fits = go (eqb (p % 8) 0) refl
  where
    go : (t : Bool) → eqb (p % 8) 0 ≡ t → Stored l (put_bits (cond t l (put_bit l p 0)) p bits) p bits
    go true e =
        let whole : p % 8 ≡ 0 = eqb-true _ _ e in
        put_stored bits l p a fits (λ i h g. absurd (omega arith))
    go false e =
        let part : p % 8 ≢ 0 = eqb-false _ _ e in
        let inside : p < 8 * length l = omega arith in
        let clear : ZeroTail (put_bit l p 0) p
        = λ i h g. ⊎_elim (λ (q : p ≡ i). rw (← q) (put_there l p 0 inside (omega arith)))
        (λ (q : p < i). put_above l p 0 inside (omega arith) i q (omega arith)) (eq-or-lt_of_le h) in
        let r = put_stored bits (put_bit l p 0) p a (omega (arith, length_put_bit l p 0)) clear in
        record { kept = λ i h. r.kept i h ∙ put_before l p 0 inside i h; holds = r.holds; tail = r.tail }

-- the bytes stay as many
pub length_store : (bits l : List ℕ) (p : ℕ) → length (store_bits l p bits) ≡ length l
unfolding store_bits padded
length_store bits l p = length_put_bits bits _ p ∙ go (eqb (p % 8) 0)
  where
    go : (t : Bool) → length (cond t l (put_bit l p 0)) ≡ length l
    go true = refl
    go false = length_put_bit l p 0

-- Bytes after those of the bits are untouched.
put_later : (bits l : List ℕ) (p i : ℕ) → bytes_of (p + length bits) ≤ i → get_or (put_bits l p bits) i 0 ≡ get_or l i 0
unfolding put_bits put_bit
put_later [] l p i h = refl
put_later (b ∷ bits) l p i h = put_later bits (put_bit l p b) (suc p) i (omega arith) ∙ get_or-set_other l (p / 8) i _ 0 (λ e. omega arith)

pub store_later : (bits l : List ℕ) (p i : ℕ) → bytes_of (p + length bits) ≤ i → get_or (store_bits l p bits) i 0 ≡ get_or l i 0
unfolding store_bits padded put_bit
store_later bits l p i h = put_later bits _ p i h ∙ go (eqb (p % 8) 0) refl
  where
    go : (t : Bool) → eqb (p % 8) 0 ≡ t → get_or (cond t l (put_bit l p 0)) i 0 ≡ get_or l i 0
    go true e = refl
    go false e = let part : p % 8 ≢ 0 = eqb-false _ _ e in get_or-set_other l (p / 8) i _ 0 (λ q. omega arith)

-- ---- the bytes that n bits take

take_byte : (l : List ℕ) (n i : ℕ) → i < 8 * n → bit_at (take n l) i ≡ bit_at l i
unfolding bit_at
take_byte l n i h = let inside : i / 8 < n = omega arith in rw (get_or-take n l (i / 8) 0)

-- bytes cut where the last bit is keep the bits
pub take_before : (l : List ℕ) (n i : ℕ) → i < n → bit_at (take (bytes_of n) l) i ≡ bit_at l i
take_before l n i h = take_byte l (bytes_of n) i (omega arith)
