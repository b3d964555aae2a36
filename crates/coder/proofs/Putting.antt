-- Bits put one by one make the bits put at once, and leave the number of bytes as it is.
use Rattle.std.proofs.Common.{◌≡◌, ℕ, zero, suc, ◌+◌, ◌*◌, ◌≤◌, List, [], ◌∷◌, ◌++◌, length, replicate, refl, ◌∙◌, add-zero, mul-le-mul_right, one-mul, arith, length-set}
use Rattle.coder.specs.Bytes.{put_bit, put_bits}

-- a bit of weight p adds at most p
pub bit_mul : (b p : ℕ) → b ≤ 1 → b * p ≤ p
bit_mul b p h = rw one-mul at (mul-le-mul_right p h)

-- the bytes stay as many
pub length_put_bit : (l : List ℕ) (p b : ℕ) → length (put_bit l p b) ≡ length l
unfolding put_bit
length_put_bit l p b = simp length-set

pub length_put_bits : (bs l : List ℕ) (p : ℕ) → length (put_bits l p bs) ≡ length l
unfolding put_bits
length_put_bits [] l p = refl
length_put_bits (b ∷ bs) l p = length_put_bits bs (put_bit l p b) (suc p) ∙ length_put_bit l p b

-- bits put after others
pub put_bits_append : (xs bs l : List ℕ) (p : ℕ) → put_bits l p (xs ++ bs) ≡ put_bits (put_bits l p xs) (p + length xs) bs
unfolding put_bits
put_bits_append [] bs l p = rw add-zero
put_bits_append (a ∷ xs) bs l p =
    let next : suc p + length xs ≡ p + suc (length xs) = omega arith in
    put_bits_append xs bs (put_bit l p a) (suc p) ∙ rw next

-- a run of none
pub run_none : (n : ℕ) (l : List ℕ) (p b : ℕ) → n ≤ 0 → l ≡ put_bits l p (replicate n b)
unfolding put_bits
run_none zero l p b h = refl
run_none (suc n) l p b h = absurd (omega arith)
