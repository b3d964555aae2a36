-- A plain U32 of 0 always makes a reader find its number, whatever follows it: each zero byte shifts low up by seven bits or more, so that
-- low is 0 before the last of the four.
use Rattle.std.proofs.Common.{◌≡◌, ℕ, zero, suc, ◌+◌, ◌-◌, ◌*◌, ◌/◌, ◌%◌, ◌^◌, ◌<◌, ◌≤◌, true, false, List, [], ◌∷◌, ◌++◌, get_or, sym, refl, ap, ◌∙◌, append-nil, add-zero, add-suc, mul-le-mul_right, mul_assoc, mul-le-mul, suc-add, pow-suc, arith, pow_mono, pow-add, eq-eqb, eqb-true}
use Rattle.coder.proofs.Backward.{all_back, settled_first}
use Rattle.coder.proofs.Carrying.{carries_append}
use Rattle.coder.proofs.Judgements.{finds_hold, finds_true}
use Rattle.coder.proofs.Limits.{after_wellformed, postpone_cases, settle_cases}
use Rattle.coder.proofs.Sequence.{byte_codable, symbol_count}
use Rattle.coder.proofs.SettledBits.{AllBits, all_bits}
use Rattle.coder.proofs.Spans.{plain_codable}
use Rattle.coder.proofs.Streams.{word_below}
use Rattle.coder.specs.Ending.{end_bits, end_state, flush_bits, flush_found, flush_state, low_bits, low_state, placed}
use Rattle.coder.specs.Interval.{Agrees, Coder, WellFormed, after_symbol, code, narrow, postpone, postpones, range, settle_top, settle_tops, settled_bits, symbol_bits, top_bits}
use Rattle.coder.specs.Stream.{Binary, Carries, Stream, word}
use Rattle.coder.specs.Symbols.{after_symbols, byte_span, plain_spans, reversed, symbols_bits}
use mathlib.Core.Bool.{not-eq-not}
use native.Mathlib.Decide.{dec_lt}

-- ---- the low limit

-- f bits further up, the low limit is a multiple of 0x8000
abbrev Gone : ℕ → Coder → Type 0
Gone f s = s.low * 2 ^ f % 0x8000 ≡ 0

-- so it is as far up as takes the range above b
abbrev GoneBeyond : ℕ → Coder → Type 0
GoneBeyond b s = (f : ℕ) → b < range s * 2 ^ f → Gone f s

doubled : (x f : ℕ) → x * 2 ^ suc f ≡ 2 * x * 2 ^ f
doubled x f = ap (λ (k : ℕ). x * k) (pow-suc 2 f) ∙ omega arith

-- a turn doubles the range, and the low limit but for multiples of 0x8000
turn_beyond : (b : ℕ) (s t : Coder) (q : ℕ) → range t ≡ 2 * range s → 2 * s.low ≡ t.low + q * 0x8000 → GoneBeyond b s → GoneBeyond b t
turn_beyond b s t q wide shifted h f far =
    let w : range s * 2 ^ suc f ≡ range t * 2 ^ f = doubled (range s) f ∙ ap (λ (k : ℕ). k * 2 ^ f) (sym wide) in
    let l : s.low * 2 ^ suc f ≡ (t.low + q * 0x8000) * 2 ^ f = doubled s.low f ∙ ap (λ (k : ℕ). k * 2 ^ f) shifted in
    let d : (t.low + q * 0x8000) * 2 ^ f ≡ t.low * 2 ^ f + q * 2 ^ f * 0x8000 = omega arith in
    omega (arith, h (suc f) (omega arith))

settle_beyond : (b n : ℕ) (s : Coder) → GoneBeyond b s → GoneBeyond b (settle_tops n s)
unfolding settle_tops
settle_beyond b zero s h = h
settle_beyond b (suc n) s h =
    settle_cases (GoneBeyond b) n s
    (λ e.
    let top : s.low / 0x8000 ≡ s.high / 0x8000 = eqb-true _ _ e in
    settle_beyond b n (settle_top s) (turn_beyond b s (settle_top s) (2 * (s.low / 0x8000)) (omega arith) (omega arith) h))
    (λ e. h)

postpone_beyond : (b n : ℕ) (s : Coder) → GoneBeyond b s → GoneBeyond b (postpones n s)
unfolding postpones
postpone_beyond b zero s h = h
postpone_beyond b (suc n) s h =
    postpone_cases (GoneBeyond b) n s
    (λ e d.
    let low-next : s.low / 0x4000 ≡ 1 = eqb-true _ _ e in
    let high-next : s.high / 0x4000 ≡ 2 = eqb-true _ _ d in
    postpone_beyond b n (postpone s) (turn_beyond b s (postpone s) 1 (omega arith) (omega arith) h))
    (λ e. h)
    (λ e. h)

-- a multiple stays one further up
gone_more : (l f g r : ℕ) → r ≤ 256 → l * 2 ^ suc f % 0x8000 ≡ 0 → 256 * 2 ^ f < r * 2 ^ g → l * 2 ^ g % 0x8000 ≡ 0
gone_more l f g r small gone far = go (dec_lt f g)
  where
    go : Dec (f < g) → l * 2 ^ g % 0x8000 ≡ 0
    go (yes k) =
        let m : ℕ = l * 2 ^ suc f / 0x8000 in
        let n : ℕ = 2 ^ (g - suc f) in
        let p : 2 ^ g ≡ 2 ^ suc f * n = ap (λ (j : ℕ). 2 ^ j) (omega arith) ∙ pow-add 2 (suc f) (g - suc f) in
        let e : l * 2 ^ suc f ≡ m * 0x8000 = omega arith in
        let q : l * 2 ^ g ≡ m * 0x8000 * n = ap (λ (j : ℕ). l * j) p ∙ sym (mul_assoc l (2 ^ suc f) n) ∙ ap (λ (j : ℕ). j * n) e in
        omega arith
    go (no k) = let m : r * 2 ^ g ≤ 256 * 2 ^ f = mul-le-mul small (pow_mono (omega arith)) in absurd (omega arith)

-- ---- a zero byte

abbrev narrowed : Coder → Coder
narrowed s = narrow s (byte_span 0)

abbrev next : Coder → Coder
next s = after_symbol s (byte_span 0)

next_wellformed : (s : Coder) → WellFormed s → WellFormed (next s)
next_wellformed s w = after_wellformed s (byte_span 0) w (byte_codable 0)

byte_narrows : (s : Coder) → WellFormed s → ((narrowed s).low ≡ s.low) × ((narrowed s).high ≤ s.low + 255)
unfolding narrow reversed
byte_narrows s w = (omega arith, omega arith)

-- the range is at most 256, and at least 0x4002 after the turns
byte_gone : (f g : ℕ) (s : Coder) → 256 * 2 ^ f < 0x4002 * 2 ^ g → WellFormed s → Gone (suc f) s → Gone g (next s)
unfolding after_symbol
byte_gone f g s far w gone =
    let v = next_wellformed s w in
    let n = byte_narrows s w in
    let wide : 0x4002 ≤ range (next s) = omega arith in
    let m : 0x4002 * 2 ^ g ≤ range (next s) * 2 ^ g = mul-le-mul_right (2 ^ g) wide in
    let b : GoneBeyond (256 * 2 ^ f) (narrowed s) = λ k. gone_more (narrowed s).low f k (range (narrowed s)) (omega arith) (rw n.0 gone) in
    postpone_beyond _ 16 (settle_tops 16 (narrowed s)) (settle_beyond _ 16 (narrowed s) b) g (omega arith)

-- after three zero bytes low is 0
flush_low : (s : Coder) → WellFormed s → (next (next (next s))).low ≡ 0
flush_low s w =
    let w1 = next_wellformed s w in
    let w2 = next_wellformed (next s) w1 in
    let w3 = next_wellformed (next (next s)) w2 in
    let g1 : Gone 8 (next s) = byte_gone 14 8 s (omega arith) w (omega arith) in
    let g2 : Gone 1 (next (next s)) = byte_gone 7 1 (next s) (omega arith) w1 g1 in
    let g3 : Gone 0 (next (next (next s))) = byte_gone 0 0 (next (next s)) (omega arith) w2 g2 in
    omega arith

-- ---- whatever follows

-- where low is 0 the first bit of a zero byte is 0, and the number below high
zero_agrees : (s : Coder) (x : Stream) → Binary x → WellFormed s → s.low ≡ 0 → Carries x s.settled (symbol_bits s (byte_span 0)) → Agrees s x
unfolding symbol_bits top_bits code narrow
zero_agrees s x two w z c =
    let n = byte_narrows s w in
    let top : (narrowed s).low / 0x8000 ≡ (narrowed s).high / 0x8000 = omega arith in
    let bits : Carries x s.settled (settled_bits (narrowed s) ++ top_bits 15 (settle_top (narrowed s))) = rw (eq-eqb _ _ top, top_bits) at c in
    let first = carries_append x (settled_bits (narrowed s)) _ s.settled bits in
    let b = settled_first (narrowed s) x first.0 in
    let zero : x s.settled ≡ 0 = omega (arith, b.0) in
    let small = word_below x (s.settled + 1 + s.pending) 15 two in
    record { inverted = b.1; from_low = omega arith; to_high = omega arith }

-- a reader that agrees after a zero byte agrees before it
byte_back : (s : Coder) (x : Stream) (rest : List ℕ) → Binary x → WellFormed s → Carries x s.settled (symbol_bits s (byte_span 0) ++ rest)
    → (Carries x (next s).settled rest → Agrees (next s) x) → Agrees s x
unfolding after_symbols symbols_bits
byte_back s x rest two w c f =
    let parts = carries_append x (symbol_bits s (byte_span 0)) rest s.settled c in
    let own : Carries x s.settled (symbol_bits s (byte_span 0) ++ []) = rw (append-nil (symbol_bits s (byte_span 0))) parts.0 in
    (all_back (byte_span 0 ∷ []) s x two w (byte_codable 0, tt) own (f (rw (← symbol_count s (byte_span 0)) at parts.1))).1

-- A reader at the state before a plain U32 of 0 agrees with every stream that has it there.
pub flush_agrees : (s : Coder) (x : Stream) → Binary x → WellFormed s → Carries x s.settled (symbols_bits s (plain_spans 4 0)) → Agrees s x
unfolding symbols_bits plain_spans
flush_agrees s x two w c =
    let w1 = next_wellformed s w in
    let w2 = next_wellformed (next s) w1 in
    let w3 = next_wellformed (next (next s)) w2 in
    byte_back s x _ two w c λ c1.
    byte_back (next s) x _ two w1 c1 λ c2.
    byte_back (next (next s)) x _ two w2 c2 λ c3.
    zero_agrees (next (next (next s))) x two w3 (flush_low s w) (rw (append-nil (symbol_bits (next (next (next s))) (byte_span 0))) at c3)

-- ---- what a reader finds

zeros_word : (x : Stream) (p n : ℕ) → ((i : ℕ) → p ≤ i → x i ≡ 0) → word x p n ≡ 0
unfolding word
zeros_word x p zero z = refl
zeros_word x p (suc n) z = omega (arith, zeros_word x p n z, z (p + n) (omega arith))

zeros_code : (s : Coder) (x : Stream) → ((i : ℕ) → s.settled ≤ i → x i ≡ 0) → code s x ≡ 0
unfolding code
zeros_code s x z = omega (arith, z s.settled (omega arith), zeros_word x (s.settled + 1 + s.pending) 15 (λ i h. z i (omega arith)))

-- bits stand where they are placed
carries_placed : (x : Stream) (l : List ℕ) (p : ℕ) → ((i : ℕ) → x (p + i) ≡ get_or l i 0) → Carries x p l
unfolding Carries
carries_placed x [] p e = tt
carries_placed x (b ∷ l) p e =
    (ap x (sym (add-zero p)) ∙ e 0, carries_placed x l (suc p) (λ i. ap x (suc-add p i ∙ sym (add-suc p i)) ∙ e (suc i)))

bits_at : (l : List ℕ) (i : ℕ) → AllBits l → get_or l i 0 ≤ 1
bits_at [] i b = omega arith
bits_at (v ∷ l) zero b = b.0
bits_at (v ∷ l) (suc i) b = bits_at l i b.1

-- A reader at the state before a plain U32 of 0 finds its number.
pub flush_found_lem : (s : Coder) → WellFormed s → flush_found true s ≡ true
unfolding flush_bits placed
flush_found_lem s w =
    let bits : List ℕ = symbols_bits s (plain_spans 4 0) in
    let y : Stream = placed s.settled bits in
    let two : Binary y = λ i. bits_at bits (i - s.settled) (all_bits (plain_spans 4 0) s w (plain_codable 4 0)) in
    let c : Carries y s.settled bits = carries_placed y bits s.settled (λ i. ap (λ (k : ℕ). get_or bits k 0) (omega arith)) in
    finds_hold s y (flush_agrees s y two w c)

-- ---- without a compressed value: zeros only

zeros_placed : (s : Coder) (i : ℕ) → placed s.settled (flush_bits false s) i ≡ 0
unfolding flush_bits placed
zeros_placed s i = refl

-- They are low where low is 0 and no bits are pending.
pub zeros_found : (s : Coder) → WellFormed s → s.low ≡ 0 → s.pending ≡ 0 → flush_found false s ≡ true
zeros_found s w l p =
    let e = zeros_code s (placed s.settled (flush_bits false s)) (λ i h. zeros_placed s i) in
    finds_hold s _ (record { inverted = λ i h. absurd (omega arith); from_low = omega arith; to_high = omega arith })

-- They are below low where it is not 0.
pub zeros_low : (s : Coder) → (s.low ≡ 0 → ⊥) → flush_found false s ≡ false
zeros_low s some =
    not-eq-not.0 (λ e.
    let a = finds_true s (placed s.settled (flush_bits false s)) e in
    some (omega (arith, a.from_low, zeros_code s _ (λ i h. zeros_placed s i))))

-- Pending bits would have to be ones.
pub zeros_pending : (s : Coder) → (s.pending ≡ 0 → ⊥) → flush_found false s ≡ false
zeros_pending s some =
    not-eq-not.0 (λ e.
    let a = finds_true s (placed s.settled (flush_bits false s)) e in
    omega (arith, a.inverted 0 (omega arith), zeros_placed s s.settled, zeros_placed s (s.settled + 1 + 0)))

-- ---- the end

-- After compressed values it is always a plain U32 of 0.
pub end_flush : (s : Coder) → WellFormed s → (end_state true s ≡ after_symbols s (plain_spans 4 0)) × (end_bits true s ≡ symbols_bits s (plain_spans 4 0))
unfolding end_state end_bits flush_state flush_bits
end_flush s w = (rw (flush_found_lem s w, end_state), rw (flush_found_lem s w, end_bits))

-- Without them it is nothing where zeros are low already, and low itself elsewhere.
pub end_none : (s : Coder) → WellFormed s → s.low ≡ 0 → s.pending ≡ 0 → (end_state false s ≡ s) × (end_bits false s ≡ [])
unfolding end_state end_bits flush_state flush_bits
end_none s w l p = (rw (zeros_found s w l p, end_state), rw (zeros_found s w l p, end_bits))

pub end_low : (s : Coder) → flush_found false s ≡ false → (end_state false s ≡ low_state s) × (end_bits false s ≡ low_bits s)
unfolding end_state end_bits
end_low s none = (rw (none, end_state), rw (none, end_bits))
