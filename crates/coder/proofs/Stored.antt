-- The bits that are settled together, and how they go into bytes.
use borrow.Rule.Slice.PartMut.{put_mid}
use Rattle.std.proofs.Common.{take-suc-set, drop-set-lt, drop-cons}
use Rattle.std.proofs.lemmas.List.{take-append-drop}
use lib.Seq.{append_snoc}
use Rattle.std.proofs.Common.{◌≡◌, ℕ, zero, suc, ◌+◌, ◌-◌, ◌*◌, ◌/◌, ◌%◌, ◌^◌, ◌<◌, ◌≤◌, List, [], ◌∷◌, ◌++◌, length, get_or, set, replicate, sym, refl, ap, ◌∙◌, append-nil, add-zero, mul-le-mul_right, mod-lt, mod-eq_of_lt, mul_assoc, suc-mul, mul_comm, add-mul, suc-add, one-mul, pow-suc, zero-add, zero-mul, add-one, one-add, arith, length-set, get_or-set_same, set-set, pow_pos, pow_mono, pow-add, shr-shr}
use Rattle.coder.proofs.Putting.{put_bits_append, run_none}
use Rattle.coder.proofs.Reversal.{reversed_below}
use Rattle.coder.proofs.Turns.{bits_more, bits_stop}
use Rattle.coder.specs.Bytes.{put_bit, put_bits}
use Rattle.coder.specs.Ending.{bits_of, low_bits}
use Rattle.coder.specs.Inside.{Holds}
use Rattle.coder.specs.Interval.{settle_top, settle_tops, settled_bits, top_bits}
use Rattle.coder.specs.Symbols.{reversed}
use Rattle.coder.specs.declared.interval.Coder.{Coder}
use Rattle.coder.proofs.Together.{agree_next, agree_rest, doubled, twice, twice_in, agree_top, rest_of, settle_step, settle_together, shl_small, top_high, top_low}
use Rattle.coder.specs.Together.{Agreeing, bits_up, lead_bits, settled_by}
use lib.Bits.{and_mask, bit_and}
use lib.ListN.{length-replicate, replicate-append-replicate}
use lib.Pow.{field, mod-mod-pow}
use native.Mathlib.Nat.{div-div-eq-div-mul, mul-add-mod_self_right}

-- the last n bits of a number are those of what is left of it below more places
bits_of_mod : (n j v : ℕ) → bits_of n (v % 2 ^ (j + n)) ≡ bits_of n v
unfolding bits_of
bits_of_mod zero j v = refl
bits_of_mod (suc n) j v =
    let turned : j + suc n ≡ suc j + n = omega arith in
    let first : v % 2 ^ (j + suc n) / 2 ^ n % 2 ≡ v / 2 ^ n % 2 =
    ap (λ (k : ℕ). v % 2 ^ k / 2 ^ n % 2) turned ∙ ap (λ (y : ℕ). y % 2) (field v (suc j) n)
    ∙ ap (λ (k : ℕ). v / 2 ^ n % 2 ^ k % 2) (sym (add-one j)) ∙ mod-mod-pow (v / 2 ^ n) j 1 in
    let rest : bits_of n (v % 2 ^ (j + suc n)) ≡ bits_of n v = ap (λ (k : ℕ). bits_of n (v % 2 ^ k)) turned ∙ bits_of_mod n (suc j) v in
    rw (first, rest)

-- the top bit after a turn, and the bits below it
next_top : (n q x : ℕ) → suc n + q ≡ 15 → 2 * (x % 0x8000) / 0x8000 ≡ x / 2 ^ q / 2 ^ n % 2
next_top n q x e =
    let turned : q + n ≡ 14 = omega arith in
    let whole : 2 ^ (q + n) ≡ 0x4000 = ap (λ (k : ℕ). 2 ^ k) turned in
    let there : x / 2 ^ q / 2 ^ n ≡ x / 0x4000 = shr-shr x q n ∙ ap (λ (y : ℕ). x / y) whole in
    omega arith

next_bits : (n q x : ℕ) → suc n + q ≡ 15 → bits_of n (2 * (x % 0x8000) / 2 ^ suc q) ≡ bits_of n (x / 2 ^ q)
next_bits n q x e =
    let rest : 2 * (x % 0x8000) / 2 ^ suc q ≡ x / 2 ^ q % 2 ^ suc n = rw (← add-zero (2 * (x % 0x8000)), rest_of (suc n) q x 0 e (omega arith)) in
    ap (bits_of n) rest ∙ ap (λ (k : ℕ). bits_of n (x / 2 ^ q % 2 ^ k)) (sym (one-add n)) ∙ bits_of_mod n 1 (x / 2 ^ q)

after_turn : (s : Coder) → settled_bits (settle_top s) ≡ (2 * (s.low % 0x8000) / 0x8000) ∷ []
unfolding settled_bits
after_turn s = refl

settled_zero : (s : Coder) → s ≡ settled_by zero s
unfolding settled_by
settled_zero s = refl

-- the bits of n turns, the first of which settles the pending ones too
bits_turns : (n q m : ℕ) (s : Coder) → suc n + q ≡ 16 → s.low / 2 ^ q ≡ s.high / 2 ^ q
    → top_bits (suc n + m) s ≡ settled_bits s ++ (bits_of n (s.low / 2 ^ q) ++ top_bits m (settled_by (suc n) s))
unfolding bits_of
bits_turns zero q m s e h =
    ap (λ (k : ℕ). top_bits k s) (one-add m)
    ∙ sym (bits_more m s (agree_top zero q s.low s.high (omega arith) h))
    ∙ ap (λ (t : Coder). settled_bits s ++ top_bits m t) (first_turn q s e)
  where
    first_turn : (q : ℕ) (s : Coder) → 1 + q ≡ 16 → settle_top s ≡ settled_by 1 s
    first_turn q s e = settled_zero (settle_top s) ∙ settle_step zero q s e
bits_turns (suc n) q m s e h =
    ap (λ (k : ℕ). top_bits k s) (suc-add (suc n) m)
    ∙ sym (bits_more (suc n + m) s (agree_top (suc n) q s.low s.high (omega arith) h))
    ∙ ap (λ (bits : List ℕ). settled_bits s ++ bits)
    (bits_turns n (suc q) m (settle_top s) (omega arith) (agree_rest (suc n) q s.low s.high (omega arith) h)
    ∙ rw (after_turn s, next_top n q s.low (omega arith), next_bits n q s.low (omega arith), settle_step (suc n) q s e))

apart_stops : (n p m : ℕ) (s : Coder) → suc n + suc p ≡ 16 → s.low / 2 ^ suc p ≡ s.high / 2 ^ suc p → (s.low / 2 ^ p ≡ s.high / 2 ^ p → ⊥)
    → [] ≡ top_bits m (settled_by (suc n) s)
unfolding settled_by
apart_stops n p m s e h d =
    bits_stop m (settled_by (suc n) s)
    (λ g. d (agree_next p s.low s.high h (sym (top_low (suc n) p s.low (omega arith)) ∙ g ∙ top_high (suc n) p s.high (omega arith))))

no_turns : (s : Coder) → [] ≡ top_bits zero s
unfolding top_bits
no_turns s = refl

-- The bits of all turns: the top one, the pending ones inverted, and the others that agree.
pub bits_together : (n : ℕ) (s : Coder) (g : Agreeing (suc n) s.low s.high) → top_bits 16 s ≡ settled_bits s ++ bits_of n (s.low / 2 ^ g.left)
bits_together n s g =
    ap (λ (k : ℕ). top_bits k s) (sym g.whole) ∙ bits_turns n g.left g.left s g.whole g.same
    ∙ rw (← go g.left g.whole g.same g.next, append-nil (bits_of n (s.low / 2 ^ g.left)))
  where
    go : (q : ℕ) → suc n + q ≡ 16 → s.low / 2 ^ q ≡ s.high / 2 ^ q → ((p : ℕ) → q ≡ suc p → s.low / 2 ^ p ≡ s.high / 2 ^ p → ⊥)
        → [] ≡ top_bits q (settled_by (suc n) s)
    go zero e h d = no_turns (settled_by (suc n) s)
    go (suc p) e h d = apart_stops n p (suc p) s e h (d p refl)

-- no bit where none agrees
pub bits_none : (s : Coder) → Agreeing 0 s.low s.high → top_bits 16 s ≡ []
bits_none s g =
    let all : g.left ≡ 16 = omega (arith, g.whole) in
    sym (bits_stop 16 s (g.next 15 all))

-- ---- into a byte

-- a byte with a bit more above those that it had, and then with the others
grown : (k v a r : ℕ) → (a % 2 ^ r + v % 2 * 2 ^ r) % 2 ^ suc r + v / 2 % 2 ^ suc k * 2 ^ suc r ≡ a % 2 ^ r + v % 2 ^ suc (suc k) * 2 ^ r
grown k v a r =
    let most = mod-lt a {m = 2 ^ r} (pow_pos r) in
    let bit : v % 2 ≤ 1 = omega arith in
    let most-bit : v % 2 * 2 ^ r ≤ 1 * 2 ^ r = mul-le-mul_right (2 ^ r) bit in
    let more : 2 ^ suc r ≡ 2 * 2 ^ r = rw (pow-suc 2 r, mul_comm (2 ^ r) 2) in
    let within : (a % 2 ^ r + v % 2 * 2 ^ r) % 2 ^ suc r ≡ a % 2 ^ r + v % 2 * 2 ^ r = mod-eq_of_lt (omega (arith, one-mul (2 ^ r))) in
    let whole : v ≡ 2 * (v / 2) + v % 2 = omega arith in
    let low : v % 2 ^ suc (suc k) ≡ 2 * (v / 2 % 2 ^ suc k) + v % 2 =
    ap (λ (x : ℕ). x % 2 ^ suc (suc k)) whole ∙ doubled (suc k) (v / 2) (v % 2) bit in
    let right : v % 2 ^ suc (suc k) * 2 ^ r ≡ 2 * (v / 2 % 2 ^ suc k * 2 ^ r) + v % 2 * 2 ^ r =
    ap (λ (x : ℕ). x * 2 ^ r) low ∙ add-mul (2 * (v / 2 % 2 ^ suc k)) (v % 2) (2 ^ r) ∙ rw (twice_in (v / 2 % 2 ^ suc k) r) in
    let left : v / 2 % 2 ^ suc k * 2 ^ suc r ≡ 2 * (v / 2 % 2 ^ suc k * 2 ^ r) = twice (v / 2 % 2 ^ suc k) r in
    omega arith

-- Bits that stay within one byte are stored at once.
pub put_part : (k v : ℕ) (l : List ℕ) (p : ℕ) → p / 8 < length l → p % 8 + suc k ≤ 8
    → put_bits l p (bits_up (suc k) v) ≡ set l (p / 8) (get_or l (p / 8) 0 % 2 ^ (p % 8) + v % 2 ^ suc k * 2 ^ (p % 8))
unfolding put_bits put_bit bits_up
put_part zero v l p h f = refl
put_part (suc k) v l p h f =
    let i : ℕ = p / 8 in
    let r : ℕ = p % 8 in
    let w : ℕ = get_or l i 0 % 2 ^ r + v % 2 * 2 ^ r in
    let same_byte : suc p / 8 ≡ p / 8 = omega arith in
    let next_place : suc p % 8 ≡ suc (p % 8) = omega arith in
    let long : length (set l i w) ≡ length l = length-set l i w in
    let inside : suc p / 8 < length (set l i w) = omega arith in
    put_part k (v / 2) (set l i w) (suc p) inside (omega arith)
    ∙ rw (same_byte, next_place, get_or-set_same l i w 0 h, set-set l i w (w % 2 ^ suc r + v / 2 % 2 ^ suc k * 2 ^ suc r), grown k v (get_or l i 0) r)

-- ---- runs and words as such numbers

-- equal bits
pub run_up : (n b : ℕ) → b ≤ 1 → replicate n b ≡ bits_up n (b * (2 ^ n - 1))
unfolding bits_up
run_up zero b h = refl
run_up (suc n) zero h =
    let none : (k : ℕ) → 0 * k ≡ 0 = λ k. zero-mul k in
    rw (none (2 ^ suc n - 1), run_up n 0 h, none (2 ^ n - 1))
run_up (suc n) (suc zero) h =
    let some : 1 ≤ 2 ^ n = pow_pos n in
    let more : 2 ^ suc n ≡ 2 * 2 ^ n = rw (pow-suc 2 n, mul_comm (2 ^ n) 2) in
    let first : (2 ^ suc n - 1) % 2 ≡ 1 = omega arith in
    let rest : (2 ^ suc n - 1) / 2 ≡ 2 ^ n - 1 = omega arith in
    rw (one-mul (2 ^ suc n - 1), first, rest, run_up n 1 h, one-mul (2 ^ n - 1))
run_up (suc n) (suc (suc b)) h = absurd (omega arith)

-- a number's bits reversed, from the other end
reversed_last : (n v : ℕ) → reversed (suc n) v ≡ 2 * reversed n v + v / 2 ^ n % 2
unfolding reversed
reversed_last zero v = omega arith
reversed_last (suc n) v =
    let ih : v / 2 % 2 * 2 ^ n + reversed n (v / 2 / 2) ≡ 2 * reversed n (v / 2) + v / 2 / 2 ^ n % 2 = reversed_last n (v / 2) in
    let cut : v / 2 ^ suc n ≡ v / 2 / 2 ^ n = rw (pow-suc 2 n, mul_comm (2 ^ n) 2, div-div-eq-div-mul v 2 (2 ^ n)) in
    let dbl : v % 2 * 2 ^ suc n ≡ 2 * (v % 2 * 2 ^ n) = twice (v % 2) n in
    rw cut (omega arith)

-- the last n bits of a number, the highest first
pub word_up : (n v : ℕ) → bits_of n v ≡ bits_up n (reversed n v)
unfolding bits_of bits_up
word_up zero v = refl
word_up (suc n) v =
    let last : reversed (suc n) v ≡ 2 * reversed n v + v / 2 ^ n % 2 = reversed_last n v in
    let first : reversed (suc n) v % 2 ≡ v / 2 ^ n % 2 = omega arith in
    let rest : reversed (suc n) v / 2 ≡ reversed n v = omega arith in
    rw (first, rest, word_up n v)

-- ---- as the machine computes them

-- a byte's low bits and the bits above them stay below 256
pub parts_below : (p c v a : ℕ) → p + c ≤ 8 → v < 2 ^ c → a % 2 ^ p + v * 2 ^ p < 256
parts_below p c v a f h =
    let most = mod-lt a {m = 2 ^ p} (pow_pos p) in
    let room : suc v ≤ 2 ^ c = h in
    let wide : suc v * 2 ^ p ≤ 2 ^ c * 2 ^ p = mul-le-mul_right (2 ^ p) room in
    let left : suc v * 2 ^ p ≡ v * 2 ^ p + 2 ^ p = suc-mul v (2 ^ p) in
    let right : 2 ^ c * 2 ^ p ≡ 2 ^ (c + p) = sym (pow-add 2 c p) in
    let turned : c + p ≤ 8 = omega arith in
    let byte : 2 ^ (c + p) ≤ 2 ^ 8 = pow_mono turned in
    omega arith

pub bits_small : (c v : ℕ) → c ≤ 8 → v < 2 ^ c → v ≤ 0xFFFF
bits_small c v f h = let byte : 2 ^ c ≤ 2 ^ 8 = pow_mono f in omega arith

pub with_bits_at : (p c v a : ℕ) → p + c ≤ 8 → v < 2 ^ c
    → bit_and a (1 * 2 ^ p % 0x100000000 - 1) + v * 2 ^ p % 0x100000000 ≡ a % 2 ^ p + v * 2 ^ p
with_bits_at p c v a f h =
    let one : 1 * 2 ^ p % 0x100000000 ≡ 2 ^ p = shl_small p 1 (omega arith) (omega arith) ∙ one-mul (2 ^ p) in
    rw (one, and_mask a p, shl_small p v (omega arith) (bits_small c v (omega arith) h))

-- bits that stay within a byte, at a count that is not 0
pub put_part_at : (c v : ℕ) (l : List ℕ) (p : ℕ) → p / 8 < length l → 1 ≤ c → p % 8 + c ≤ 8 → v < 2 ^ c
    → set l (p / 8) (get_or l (p / 8) 0 % 2 ^ (p % 8) + v * 2 ^ (p % 8)) ≡ put_bits l p (bits_up c v)
put_part_at zero v l p h s f b = absurd (omega arith)
put_part_at (suc k) v l p h s f b = rw (put_part k v l p h f, mod-eq_of_lt b)

-- equal bits
pub equal_at : (b c : ℕ) → c < 32 → b ≤ 1 → (1 ≤ 1 * 2 ^ c % 0x100000000) × (b * (1 * 2 ^ c % 0x100000000 - 1) ≡ b * (2 ^ c - 1)) × (b * (2 ^ c - 1) < 2 ^ c)
equal_at b c f h =
    let fits : 2 ^ c ≤ 2 ^ 31 = pow_mono (let most : c ≤ 31 = omega arith in most) in
    let one : 1 * 2 ^ c % 0x100000000 ≡ 2 ^ c = rw one-mul (mod-eq_of_lt (omega arith)) in
    let some : 1 ≤ 2 ^ c = pow_pos c in
    let most : b * (2 ^ c - 1) ≤ 1 * (2 ^ c - 1) = mul-le-mul_right (2 ^ c - 1) h in
    (omega arith, rw one, omega (arith, one-mul (2 ^ c - 1)))

-- a run put in two parts
pub run_parts : (a b x : ℕ) (l : List ℕ) (p : ℕ) → put_bits (put_bits l p (replicate a x)) (p + a) (replicate b x) ≡ put_bits l p (replicate (a + b) x)
run_parts a b x l p =
    let place : p + length (replicate a x) ≡ p + a = ap (λ (k : ℕ). p + k) (length-replicate a x) in
    rw (← replicate-append-replicate a b x, put_bits_append (replicate a x) (replicate b x) l p, place)

-- a turn of the loop over a run
pub run_turn : (n left x : ℕ) (l : List ℕ) (p : ℕ) → n ≤ left → x ≤ 1
    → put_bits (put_bits l p (bits_up n (x * (2 ^ n - 1)))) (p + n) (replicate (left - n) x) ≡ put_bits l p (replicate left x)
run_turn n left x l p h b =
    let whole : n + (left - n) ≡ left = omega arith in
    rw (← run_up n x b) (run_parts n (left - n) x l p ∙ ap (λ (k : ℕ). put_bits l p (replicate k x)) whole)

-- a whole byte of equal bits, and a turn of the loop that fills bytes with them
fill_one : (l : List ℕ) (i b : ℕ) → i < length l → b ≤ 1 → set l i (b * (2 ^ 8 - 1)) ≡ put_bits l (8 * i) (bits_up 8 (b * (2 ^ 8 - 1)))
fill_one l i b h s =
    let byte : 8 * i / 8 ≡ i = omega arith in
    let place : 8 * i % 8 ≡ 0 = omega arith in
    let whole : get_or l i 0 % 2 ^ 0 + b * (2 ^ 8 - 1) * 2 ^ 0 ≡ b * (2 ^ 8 - 1) = omega arith in
    rw (byte, place, whole) at (put_part_at 8 (b * (2 ^ 8 - 1)) l (8 * i) (rw byte h) (omega arith) (omega arith) (omega arith))

pub fill_turn : (l : List ℕ) (i end b : ℕ) → i < end → end ≤ length l → b ≤ 1
    → put_bits (set l i (b * (2 ^ 8 - 1))) (8 * (i + 1)) (replicate (8 * (end - (i + 1))) b) ≡ put_bits l (8 * i) (replicate (8 * (end - i)) b)
fill_turn l i end b h f s =
    let place : 8 * (i + 1) ≡ 8 * i + 8 = omega arith in
    let less : 8 * (end - (i + 1)) ≡ 8 * (end - i) - 8 = omega arith in
    rw (fill_one l i b (omega arith) s, place, less) (run_turn 8 (8 * (end - i)) b l (8 * i) (omega arith) s)

pub fill_none : (l : List ℕ) (i end b : ℕ) → end ≤ i → l ≡ put_bits l (8 * i) (replicate (8 * (end - i)) b)
fill_none l i end b h = run_none (8 * (end - i)) l (8 * i) b (omega arith)

-- whole bytes that are equal, put between those before and those after them
pub filled : (n a b : ℕ) (l : List ℕ) → a + n ≤ length l → b ≤ 1
    → put_mid a n l (replicate n (b * (2 ^ 8 - 1))) ≡ put_bits l (8 * a) (replicate (8 * n) b)
unfolding put_bits
filled zero a b l h s = take-append-drop a l
filled (suc n) a b l h s =
    let v : ℕ = b * (2 ^ 8 - 1) in
    let m : List ℕ = set l a v in
    let small : a < length l = omega arith in
    let less : a < suc a = omega arith in
    let end : a + suc n - (a + 1) ≡ n = omega arith in
    let whole : a + suc n - a ≡ suc n = omega arith in
    let ih : put_mid (a + 1) n m (replicate n v) ≡ put_bits m (8 * (a + 1)) (replicate (8 * n) b) = filled n (a + 1) b m (omega (arith, length-set l a v)) s in
    let turn : put_bits m (8 * (a + 1)) (replicate (8 * n) b) ≡ put_bits l (8 * a) (replicate (8 * suc n) b) =
    rw (end, whole) at (fill_turn l a (a + suc n) b (omega arith) h s) in
    let same : put_mid a (suc n) l (replicate (suc n) v) ≡ put_mid (a + 1) n m (replicate n v) =
    rw (add-one, take-suc-set l a v small, drop-set-lt (suc a) l a v less, append_snoc, drop-cons l a 0 small) in
    same ∙ ih ∙ turn

-- a long run: the rest of its first byte, whole bytes, and what the last one has
pub run_long : (from count b : ℕ) (l : List ℕ) → 8 ≤ count
    → let head = 8 - from % 8 in
    let first = (from + head) / 8 in
    let end = (from + count) / 8 in
    put_bits (put_bits (put_bits l from (replicate head b)) (8 * first) (replicate (8 * (end - first)) b)) (8 * end) (replicate ((from + count) % 8) b)
    ≡ put_bits l from (replicate count b)
run_long from count b l h =
    let head : ℕ = 8 - from % 8 in
    let first : ℕ = (from + head) / 8 in
    let end : ℕ = (from + count) / 8 in
    let middle : ℕ = 8 * (end - first) in
    let tail : ℕ = (from + count) % 8 in
    let at_first : 8 * first ≡ from + head = omega arith in
    let at-end : 8 * end ≡ from + (head + middle) = omega arith in
    let whole : head + middle + tail ≡ count = omega arith in
    rw (at_first, run_parts head middle b l from, at-end)
    (run_parts (head + middle) tail b l from ∙ ap (λ (n : ℕ). put_bits l from (replicate n b)) whole)

-- a number's bits in two parts
up_parts : (a b v : ℕ) → bits_up (a + b) v ≡ bits_up a (v % 2 ^ a) ++ bits_up b (v / 2 ^ a)
unfolding bits_up
up_parts zero b v = let one : v / 2 ^ 0 ≡ v = omega arith in rw (zero-add b, one)
up_parts (suc a) b v =
    let whole : v ≡ 2 * (v / 2) + v % 2 = omega arith in
    let bit : v % 2 ≤ 1 = omega arith in
    let low : v % 2 ^ suc a ≡ 2 * (v / 2 % 2 ^ a) + v % 2 = ap (λ (x : ℕ). x % 2 ^ suc a) whole ∙ doubled a (v / 2) (v % 2) bit in
    let first : v % 2 ^ suc a % 2 ≡ v % 2 = omega arith in
    let half : v % 2 ^ suc a / 2 ≡ v / 2 % 2 ^ a = omega arith in
    let cut : v / 2 ^ suc a ≡ v / 2 / 2 ^ a = rw (pow-suc 2 a, mul_comm (2 ^ a) 2, div-div-eq-div-mul v 2 (2 ^ a)) in
    rw (suc-add a b, first, half, cut, up_parts a b (v / 2))

length_up : (n v : ℕ) → length (bits_up n v) ≡ n
unfolding bits_up
length_up zero v = refl
length_up (suc n) v = ap suc (length_up n (v / 2))

-- a turn of the loop over a number's bits
pub up_turn : (n left v : ℕ) (l : List ℕ) (p : ℕ) → n ≤ left
    → put_bits (put_bits l p (bits_up n (v % 2 ^ n))) (p + n) (bits_up (left - n) (v / 2 ^ n)) ≡ put_bits l p (bits_up left v)
up_turn n left v l p h =
    let whole : n + (left - n) ≡ left = omega arith in
    let place : p + length (bits_up n (v % 2 ^ n)) ≡ p + n = ap (λ (k : ℕ). p + k) (length_up n (v % 2 ^ n)) in
    let both : put_bits l p (bits_up n (v % 2 ^ n) ++ bits_up (left - n) (v / 2 ^ n)) ≡ put_bits l p (bits_up left v) =
    ap (put_bits l p) (sym (up_parts n (left - n) v)) ∙ ap (λ (k : ℕ). put_bits l p (bits_up k v)) whole in
    rw place at (sym (put_bits_append (bits_up n (v % 2 ^ n)) (bits_up (left - n) (v / 2 ^ n)) l p) ∙ both)

pub up_none : (n v : ℕ) (l : List ℕ) (p : ℕ) → n ≤ 0 → l ≡ put_bits l p (bits_up n v)
unfolding put_bits bits_up
up_none zero v l p h = refl
up_none (suc n) v l p h = absurd (omega arith)

-- a number's low bits, masked
pub masked : (n v : ℕ) → n ≤ 8 → (1 ≤ 1 * 2 ^ n % 0x100000000) × (bit_and v (1 * 2 ^ n % 0x100000000 - 1) ≡ v % 2 ^ n) × (v % 2 ^ n < 2 ^ n)
masked n v h =
    let one : 1 * 2 ^ n % 0x100000000 ≡ 2 ^ n = shl_small n 1 (omega arith) (omega arith) ∙ one-mul (2 ^ n) in
    (rw one (pow_pos n), rw one (and_mask v n), mod-lt v (pow_pos n))

none_up : (v : ℕ) → bits_up 0 v ≡ []
unfolding bits_up
none_up v = refl

up_mod : (k w : ℕ) → bits_up k (w % 2 ^ k) ≡ bits_up k w
up_mod k w =
    let parts = up_parts k 0 w in
    sym (append-nil (bits_up k (w % 2 ^ k))) ∙ ap (λ (t : List ℕ). bits_up k (w % 2 ^ k) ++ t) (sym (none_up (w / 2 ^ k))) ∙ sym parts
    ∙ ap (λ (n : ℕ). bits_up n w) (add-zero k)

-- what is reversed without the places below are the low bits of the whole reversed
reversed_part : (j k v : ℕ) → reversed (j + k) v % 2 ^ k ≡ reversed k (v / 2 ^ j)
unfolding reversed
reversed_part zero k v =
    let one : v / 2 ^ 0 ≡ v = omega arith in
    rw (zero-add k, one) (mod-eq_of_lt (reversed_below k v))
reversed_part (suc j) k v =
    let cut : v / 2 ^ suc j ≡ v / 2 / 2 ^ j = rw (pow-suc 2 j, mul_comm (2 ^ j) 2, div-div-eq-div-mul v 2 (2 ^ j)) in
    let multiple : v % 2 * 2 ^ (j + k) ≡ v % 2 * 2 ^ j * 2 ^ k = ap (λ (x : ℕ). v % 2 * x) (pow-add 2 j k) ∙ sym (mul_assoc (v % 2) (2 ^ j) (2 ^ k)) in
    rw (suc-add j k, cut, multiple, mul-add-mod_self_right (v % 2 * 2 ^ j) (2 ^ k) (reversed (j + k) (v / 2))) (reversed_part j k (v / 2))

-- The bits after the top one, as they are stored: those of the limit reversed.
pub word_window : (k left v : ℕ) → left + k ≡ 15 → bits_of k (v / 2 ^ left) ≡ bits_up k (reversed 15 v)
word_window k left v e =
    word_up k (v / 2 ^ left) ∙ ap (bits_up k) (sym (reversed_part left k v)) ∙ ap (λ (n : ℕ). bits_up k (reversed n v % 2 ^ k)) e ∙ up_mod k (reversed 15 v)

put_first : (l : List ℕ) (p b : ℕ) (t : List ℕ) → put_bits l p (b ∷ t) ≡ put_bits (put_bit l p b) (p + 1) t
unfolding put_bits
put_first l p b t = ap (λ (k : ℕ). put_bits (put_bit l p b) k t) (sym (add-one p))

pub up_one : (l : List ℕ) (p b : ℕ) → b ≤ 1 → put_bits l p (bits_up 1 b) ≡ put_bit l p b
unfolding put_bits bits_up
up_one l p b h = let bit : b % 2 ≡ b = omega arith in rw bit

settled_parts : (s : Coder) (t : List ℕ) → settled_bits s ++ t ≡ (s.low / 0x8000) ∷ (replicate s.pending (1 - s.low / 0x8000) ++ t)
unfolding settled_bits
settled_parts s t = refl

-- the top bits of low in three parts
pub lead_put : (n : ℕ) (s : Coder) (l : List ℕ) (mirror : ℕ) → 0 < n → n ≤ 16 → s.low ≤ 0xFFFF → mirror ≡ reversed 15 s.low
    → put_bits (put_bits (put_bits l s.settled (bits_up 1 (s.low / 0x8000))) (s.settled + 1) (replicate s.pending (1 - s.low / 0x8000)))
    (s.settled + 1 + s.pending) (bits_up (n - 1) mirror) ≡ put_bits l s.settled (lead_bits n s)
unfolding lead_bits
lead_put zero s l mirror h m f e = absurd (omega arith)
lead_put (suc k) s l mirror h m f e =
    let p : ℕ = s.settled in
    let top : ℕ = s.low / 0x8000 in
    let run : List ℕ = replicate s.pending (1 - top) in
    let less : suc k - 1 ≡ k = omega arith in
    let turned : 15 - k + k ≡ 15 = omega arith in
    let word : bits_of k (s.low / 2 ^ (15 - k)) ≡ bits_up k mirror = word_window k (15 - k) s.low turned ∙ ap (bits_up k) (sym e) in
    let place : p + 1 + length run ≡ p + 1 + s.pending = ap (λ (m : ℕ). p + 1 + m) (length-replicate s.pending (1 - top)) in
    let there : put_bits l p (settled_bits s ++ bits_up k mirror) ≡ put_bits (put_bits (put_bit l p top) (p + 1) run) (p + 1 + s.pending) (bits_up k mirror) =
    ap (put_bits l p) (settled_parts s (bits_up k mirror)) ∙ put_first l p top (run ++ bits_up k mirror)
    ∙ put_bits_append run (bits_up k mirror) (put_bit l p top) (p + 1)
    ∙ ap (λ (m : ℕ). put_bits (put_bits (put_bit l p top) (p + 1) run) m (bits_up k mirror)) place in
    rw (less, up_one l p top (omega arith), word) (sym there)

pub lead_none : (n : ℕ) (s : Coder) (l : List ℕ) → n ≡ 0 → l ≡ put_bits l s.settled (lead_bits n s)
unfolding put_bits lead_bits
lead_none zero s l e = refl
lead_none (suc n) s l e = absurd (omega arith)

-- The bits of all turns are as many top bits of low as agree.
pub lead_tops : (n : ℕ) (s : Coder) → Agreeing n s.low s.high → lead_bits n s ≡ top_bits 16 s
unfolding lead_bits
lead_tops zero s g = sym (bits_none s g)
lead_tops (suc k) s g =
    let left : g.left ≡ 15 - k = omega (arith, g.whole) in
    sym (bits_together k s g ∙ ap (λ (m : ℕ). settled_bits s ++ bits_of k (s.low / 2 ^ m)) left)

-- 01's bits of low are all its sixteen
pub lead_low : (s : Coder) → lead_bits 16 s ≡ low_bits s
unfolding lead_bits low_bits
lead_low s = let one : s.low / 2 ^ 0 ≡ s.low = omega arith in rw one

-- the sixteen bits reversed, without the top one, which comes first
pub mirror_of : (v : ℕ) → reversed 16 v / 2 ≡ reversed 15 v
mirror_of v = omega (arith, reversed_last 15 v)

-- what holds the state after the turns has room for their bits
pub tops_fit : (n : ℕ) (s : Coder) (l : List ℕ) → Agreeing n s.low s.high → Holds l (settle_tops 16 s) → s.settled + n + s.pending ≤ 8 * length l
unfolding settled_by
tops_fit zero s l g w =
    let w' : Holds l (settled_by zero s) = rw (settle_together zero s g) at w in
    omega (arith, w'.within)
tops_fit (suc k) s l g w =
    let w' : Holds l (settled_by (suc k) s) = rw (settle_together (suc k) s g) at w in
    rw add-zero at w'.within
