-- A plain byte at fresh limits settles its own eight bits, the lowest first, and leaves fresh limits a byte further on; and a reader at fresh
-- limits finds the byte.
use Prim.Native.Nat.{ℕ, zero, suc, ◌+◌, ◌*◌, ◌-◌, ◌/◌, ◌%◌, ◌^◌, ◌<◌}
use Rattle.coder.proofs.Putting.{put_bits_append}
use Rattle.coder.proofs.Reversal.{reversed_small, reversed_twice}
use Rattle.coder.proofs.Stored.{put_part_at, word_up}
use Rattle.coder.proofs.Streams.{bit_binary, sixteen}
use Rattle.coder.proofs.Windows.{reversed-word}
use Rattle.coder.specs.Bytes.{bit_at, padded, put_bits, store_bits}
use Rattle.coder.specs.Interval.{after_symbol, code, symbol_bits, target}
use Rattle.coder.specs.Stream.{Binary, Stream, word}
use Rattle.coder.specs.Symbols.{byte_span, reversed, static_span}
use Rattle.coder.specs.Together.{bits_up}
use Rattle.coder_theorems.proofs.Opening.{part_after, part_bits, whole_at}
use Rattle.plain_theorems.specs.PlainRuns.{fresh_at}
use borrow.Author.Tests.{eq-eqb}
use lib.ListN.{get_or, length, set}
use mathlib.Core.List.{List, [], ◌++◌}
use mathlib.Core.Path.{◌≡◌, ◌∙◌, ap, refl, sym}
use native.Mathlib.Nat.{add-suc, add-zero, div-div-eq-div-mul, div-one, mul_comm, pow-suc}
use native.Mathlib.Omega.{arith}

-- ---- the interval

pub part_fresh : (p q : ℕ) → after_symbol (fresh_at p) (static_span 256 q) ≡ fresh_at (suc p)
part_fresh p q = let place : 8 * p + 8 ≡ 8 * suc p = omega arith in part_after (8 * p) q ∙ ap whole_at place

-- A plain byte: fresh limits again, and its bits, the lowest first.
pub byte_plain : (p v : ℕ)
    → (after_symbol (fresh_at p) (byte_span v) ≡ fresh_at (suc p)) × (symbol_bits (fresh_at p) (byte_span v) ≡ bits_up 8 (v % 256))
byte_plain p v =
    let b : ℕ = v % 256 in
    let q : ℕ = reversed 8 b in
    (part_fresh p q, part_bits (8 * p) q (reversed_small b) ∙ word_up 8 q ∙ ap (bits_up 8) (reversed_twice b (omega arith)))

-- ---- the buffer

-- at a byte's start there is nothing to clear
store_whole : (l : List ℕ) (p : ℕ) (bits : List ℕ) → store_bits l (8 * p) bits ≡ put_bits l (8 * p) bits
unfolding store_bits padded
store_whole l p bits = let start : 8 * p % 8 ≡ 0 = omega arith in rw (eq-eqb _ _ start)

pub none_stored : (l : List ℕ) (p : ℕ) → store_bits l (8 * p) [] ≡ l
unfolding put_bits
none_stored l p = store_whole l p []

-- A byte's bits are stored as the byte.
pub byte_stored : (l : List ℕ) (p b : ℕ) → p < length l → b < 256 → store_bits l (8 * p) (bits_up 8 b) ≡ set l p b
byte_stored l p b h small =
    let byte : 8 * p / 8 ≡ p = omega arith in
    let start : 8 * p % 8 ≡ 0 = omega arith in
    let whole : get_or l p 0 % 2 ^ 0 + b * 2 ^ 0 ≡ b = omega arith in
    store_whole l p (bits_up 8 b)
    ∙ sym (rw (byte, start, whole) at (put_part_at 8 b l (8 * p) (rw byte h) (omega arith) (omega arith) small))

eight_bits : (b : ℕ) → length (bits_up 8 b) ≡ 8
unfolding bits_up
eight_bits b = refl

-- and what follows it from the next byte on
pub byte_then : (l : List ℕ) (p b : ℕ) (rest : List ℕ) → p < length l → b < 256
    → store_bits l (8 * p) (bits_up 8 b ++ rest) ≡ store_bits (set l p b) (8 * suc p) rest
byte_then l p b rest h small =
    let place : 8 * p + length (bits_up 8 b) ≡ 8 * suc p = omega (arith, eight_bits b) in
    let byte : put_bits l (8 * p) (bits_up 8 b) ≡ set l p b = sym (store_whole l p (bits_up 8 b)) ∙ byte_stored l p b h small in
    store_whole l p (bits_up 8 b ++ rest) ∙ put_bits_append (bits_up 8 b) rest l (8 * p)
    ∙ (λ i. put_bits (byte i) (place i) rest) ∙ sym (store_whole (set l p b) (suc p) rest)

-- ---- the data

-- the first n of more bits
first_bits : (x : Stream) (p n m : ℕ) → Binary x → word x p (n + m) / 2 ^ m ≡ word x p n
unfolding word
first_bits x p n zero two = rw (add-zero n) (div-one (word x p n))
first_bits x p n (suc m) two =
    let w : ℕ = word x p (n + m) in
    let half : (2 * w + x (p + (n + m))) / 2 ≡ w = omega (arith, two (p + (n + m))) in
    rw (add-suc n m, word, pow-suc 2 m, mul_comm (2 ^ m) 2, ← div-div-eq-div-mul (2 * w + x (p + (n + m))) 2 (2 ^ m), half) (first_bits x p n m two)

byte_bit : (d : List ℕ) (p i : ℕ) → i < 8 → get_or d p 0 / 2 ^ i % 2 ≡ bit_at d (8 * p + i)
unfolding bit_at
byte_bit d p i h =
    let byte : (8 * p + i) / 8 ≡ p = omega arith in
    let place : (8 * p + i) % 8 ≡ i = omega arith in
    rw (byte, place)

-- A reader at fresh limits is led to the part that is the byte reversed.
pub byte_read : (d : List ℕ) (p : ℕ) → target (fresh_at p) (bit_at d) 256 ≡ reversed 8 (get_or d p 0)
unfolding target code word
byte_read d p =
    let x : Stream = bit_at d in
    let all : code (fresh_at p) x ≡ word x (8 * p) 16 = sixteen x (8 * p) in
    let eight : word x (8 * p) 16 / 256 ≡ word x (8 * p) 8 = first_bits x (8 * p) 8 8 (bit_binary d) in
    let cut : (256 * (code (fresh_at p) x + 1 - 0) - 1) / 0x10000 ≡ code (fresh_at p) x / 256 = omega arith in
    cut ∙ ap (λ (c : ℕ). c / 256) all ∙ eight ∙ sym (reversed-word 8 (get_or d p 0) x (8 * p) (byte_bit d p))
