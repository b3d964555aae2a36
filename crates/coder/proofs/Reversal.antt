-- Laws of a byte's bits in reverse order: tests computed over all 256 bytes, and the laws that they give at each; and the table.
use Rattle.std.proofs.Common.{◌≡◌, ℕ, zero, suc, ◌+◌, ◌*◌, ◌/◌, ◌%◌, ◌^◌, ◌<◌, ◌≤◌, Bool, eqb, length, get_or, refl, mul-le-mul_right, pow-suc, arith, eqb-true}
use Rattle.coder.specs.Inside.{reversed_bytes}
use Rattle.coder.specs.Symbols.{reversed}
use Rattle.fields.proofs.All.{all_at}
use Rattle.fields.proofs.Values.{value_at}
use lib.Bits.{bit_and}
use native.Mathlib.Nat.{pow-zero}

abbrev again : ℕ → Bool
again k = eqb (reversed 8 (reversed 8 k)) k

-- reversing the bits of a byte twice gives the byte
pub reversed_twice : (k : ℕ) → k < 256 → reversed 8 (reversed 8 k) ≡ k
unfolding reversed
reversed_twice k h = eqb-true _ _ (all_at again 256 k refl h)

-- pairs of bits, of pairs and of halves change places
abbrev pub swapped_pairs : ℕ → ℕ
swapped_pairs v = bit_and v 0x55 * 2 + bit_and (v / 2) 0x55

abbrev pub swapped_fours : ℕ → ℕ
swapped_fours v = bit_and (swapped_pairs v) 0x33 * 4 + bit_and (swapped_pairs v / 4) 0x33

abbrev pub swapped : ℕ → ℕ
swapped v = swapped_fours v % 16 * 16 + swapped_fours v / 16

abbrev swaps : ℕ → Bool
swaps k = eqb (swapped k) (reversed 8 k)

-- so the bits of a byte are reversed
pub reversed_swapped : (k : ℕ) → k < 256 → swapped k ≡ reversed 8 k
unfolding reversed
reversed_swapped k h = eqb-true _ _ (all_at swaps 256 k refl h)

-- the table has all bytes
pub table_length : length reversed_bytes ≡ 256
unfolding reversed_bytes
table_length = refl

-- and each of them reversed at its place
pub table_at : (k : ℕ) → k < 256 → get_or reversed_bytes k 0 ≡ reversed 8 k
unfolding reversed_bytes
table_at k h = value_at (reversed 8) 256 k h

-- n bits stay n bits
pub reversed_below : (n v : ℕ) → reversed n v < 2 ^ n
unfolding reversed
reversed_below zero v = omega (arith, pow-zero 2)
reversed_below (suc n) v =
    let bit : v % 2 * 2 ^ n ≤ 1 * 2 ^ n = mul-le-mul_right (2 ^ n) (let small : v % 2 ≤ 1 = omega arith in small) in
    omega (arith, reversed_below n (v / 2), pow-suc 2 n, bit)

pub reversed_small : (v : ℕ) → reversed 8 v < 256
reversed_small v = reversed_below 8 v
