-- Whatever the end writes, a reader at the state before it agrees with the stream, whatever follows: the end's bits are a plain U32 of 0, or low
-- itself.
use Prim.Native.Nat.{ℕ, zero, suc, ◌+◌, ◌*◌, ◌/◌, ◌%◌, ◌^◌, ◌≤◌}
use Rattle.coder.proofs.Backward.{settled_first}
use Rattle.coder.proofs.Carrying.{carries_append}
use Rattle.coder.proofs.Flushing.{end_flush, end_low, flush_agrees, zeros_low, zeros_pending}
use Rattle.coder.proofs.Sequence.{all_count}
use Rattle.coder.proofs.SettledBits.{AllBits, all_bits, bits_append, settled_bits_lem}
use Rattle.coder.proofs.Spans.{plain_codable}
use Rattle.coder.proofs.Streams.{word_first}
use Rattle.coder.proofs.Turns.{settled_length}
use Rattle.coder.specs.Ending.{bits_of, end_bits, end_state, flush_bits, flush_found, flush_state, low_bits, low_state}
use Rattle.coder.specs.Interval.{Agrees, WellFormed, code, settled_bits}
use Rattle.coder.specs.declared.interval.Coder.{Coder}
use Rattle.coder.specs.Stream.{Binary, Carries, Stream, word}
use Rattle.coder.specs.Symbols.{plain_spans}
use lib.Arith.{mod-mul}
use lib.ListN.{length, length-append}
use lib.Pow.{pow_pos}
use mathlib.Core.Bool.{Bool, true, false}
use mathlib.Core.List.{List}
use mathlib.Core.Path.{◌≡◌, ◌∙◌, ap, refl, sym}
use native.Mathlib.Decide.{ℕ_discrete}
use native.Mathlib.Nat.{mod-one, pow-succ'}
use native.Mathlib.Omega.{arith}

-- the two ways that it can end: the bits, and the state after them
pub end_cases : (P : List ℕ → Coder → Type 0) (compressed : Bool) (s : Coder)
    → (flush_found compressed s ≡ true → P (flush_bits compressed s) (flush_state compressed s)) → P (low_bits s) (low_state s)
    → P (end_bits compressed s) (end_state compressed s)
unfolding end_bits end_state
end_cases P compressed s flush low = go (flush_found compressed s) refl
  where
    go : (t : Bool) → flush_found compressed s ≡ t
        → P (elim t [ true ↦ flush_bits compressed s | false ↦ low_bits s ]) (elim t [ true ↦ flush_state compressed s | false ↦ low_state s ])
    go true e = flush e
    go false e = low

-- ---- low itself

bits_word : (x : Stream) (n v p : ℕ) → Carries x p (bits_of n v) → word x p n ≡ v % 2 ^ n
unfolding word Carries bits_of
bits_word x zero v p c = sym (mod-one v)
bits_word x (suc n) v p c =
    let m : v % (2 * 2 ^ n) ≡ v / 2 ^ n % 2 * 2 ^ n + v % 2 ^ n = mod-mul v (omega arith) (pow_pos n) in
    word_first x p n ∙ rw (c.0, bits_word x n v (suc p) c.1, pow-succ' 2 n, m)

low_agrees : (s : Coder) (x : Stream) → WellFormed s → Carries x s.settled (low_bits s) → Agrees s x
unfolding low_bits code
low_agrees s x w c =
    let parts = carries_append x (settled_bits s) (bits_of 15 s.low) s.settled c in
    let b = settled_first s x parts.0 in
    let q : s.settled + length (settled_bits s) ≡ s.settled + 1 + s.pending = omega (arith, settled_length s) in
    let v : word x (s.settled + 1 + s.pending) 15 ≡ s.low % 0x8000 = bits_word x 15 s.low _ (rw q at parts.1) in
    record { inverted = b.1; from_low = omega (arith, b.0); to_high = omega (arith, b.0) }

-- ---- the end

-- A reader at the state before the end agrees with every stream that has its bits there. Where the end has none, the stream's number has to be
-- one of the state's.
pub end_agrees : (compressed : Bool) (s : Coder) (x : Stream) → Binary x → WellFormed s → Carries x s.settled (end_bits compressed s)
    → (compressed ≡ false → s.low ≡ 0 → s.pending ≡ 0 → code s x ≤ s.high) → Agrees s x
end_agrees true s x two w c number = flush_agrees s x two w (rw (end_flush s w).1 at c)
end_agrees false s x two w c number = go (ℕ_discrete s.low 0) (ℕ_discrete s.pending 0)
  where
    low_end : flush_found false s ≡ false → Agrees s x
    low_end none = low_agrees s x w (rw (end_low s none).1 at c)

    go : Dec (s.low ≡ 0) → Dec (s.pending ≡ 0) → Agrees s x
    go (yes l) (yes p) = record { inverted = λ i h. absurd (omega arith); from_low = omega arith; to_high = number refl l p }
    go (yes l) (no p) = low_end (zeros_pending s p)
    go (no l) p = low_end (zeros_low s l)

-- as many bits are settled as are put
flush_count : (compressed : Bool) (s : Coder) → (flush_state compressed s).settled ≡ s.settled + length (flush_bits compressed s)
unfolding flush_state flush_bits
flush_count true s = all_count (plain_spans 4 0) s
flush_count false s = omega arith

low_length : (n v : ℕ) → length (bits_of n v) ≡ n
unfolding bits_of
low_length zero v = refl
low_length (suc n) v = ap suc (low_length n v)

low_count : (s : Coder) → (low_state s).settled ≡ s.settled + length (low_bits s)
unfolding low_state low_bits
low_count s = omega (arith, length-append (settled_bits s) (bits_of 15 s.low), settled_length s, low_length 15 s.low)

pub end_count : (compressed : Bool) (s : Coder) → (end_state compressed s).settled ≡ s.settled + length (end_bits compressed s)
end_count compressed s =
    end_cases (λ (bits : List ℕ) (t : Coder). t.settled ≡ s.settled + length bits) compressed s (λ e. flush_count compressed s) (low_count s)

-- and they are bits
flush_bits_lem : (compressed : Bool) (s : Coder) → WellFormed s → AllBits (flush_bits compressed s)
unfolding flush_bits
flush_bits_lem true s w = all_bits (plain_spans 4 0) s w (plain_codable 4 0)
flush_bits_lem false s w = tt

bits_bits : (n v : ℕ) → AllBits (bits_of n v)
unfolding bits_of
bits_bits zero v = tt
bits_bits (suc n) v = (omega arith, bits_bits n v)

low_bits_lem : (s : Coder) → WellFormed s → AllBits (low_bits s)
unfolding low_bits
low_bits_lem s w = bits_append (settled_bits s) (bits_of 15 s.low) (settled_bits_lem s (omega arith)) (bits_bits 15 s.low)

pub end_bits_lem : (compressed : Bool) (s : Coder) → WellFormed s → AllBits (end_bits compressed s)
end_bits_lem compressed s w = end_cases (λ (bits : List ℕ) (t : Coder). AllBits bits) compressed s (λ e. flush_bits_lem compressed s w) (low_bits_lem s w)
