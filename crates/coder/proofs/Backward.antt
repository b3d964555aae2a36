-- Where a reader agrees after a turn, a symbol or several symbols whose bits stand in the stream, it agrees before, and is pointed to
-- each of them: a turn doubles the limits and the reader's number alike, and the two floor divisions undo one another.
use Rattle.std.proofs.Common.{◌≡◌, ℕ, zero, suc, ◌+◌, ◌-◌, ◌*◌, ◌/◌, ◌%◌, ◌<◌, ◌≤◌, List, [], ◌∷◌, length, sym, ap, ◌∙◌, arith, eqb-true}
use Rattle.coder.proofs.Carrying.{carries_append, carries_replicate}
use Rattle.coder.proofs.Limits.{after_wellformed, postpone_cases, settling_cases}
use Rattle.coder.proofs.Narrowing.{cut_back, cut_up, part_le, part_next}
use Rattle.coder.proofs.Sequence.{symbol_count}
use Rattle.coder.proofs.Spans.{AllCodable}
use Rattle.coder.proofs.Streams.{fifteen, sixteen}
use Rattle.coder.proofs.Turns.{settled_length}
use Rattle.coder.specs.Interval.{Agrees, Codable, Coder, Inverted, Span, WellFormed, after_symbol, code, narrow, postpone, postpones, range, settle_top, settle_tops, settled_bits, symbol_bits, target, top_bits}
use Rattle.coder.specs.Stream.{Binary, Carries, Stream, word}
use Rattle.coder.specs.Symbols.{after_symbols, symbols_bits}

-- ---- turns

-- the top bit, and the pending ones inverted
pub settled_first : (s : Coder) (x : Stream) → Carries x s.settled (settled_bits s) → (x s.settled ≡ s.low / 0x8000) × Inverted s x
unfolding settled_bits Carries
settled_first s x c =
    (c.0, λ i h. ap x (omega arith) ∙ carries_replicate x s.pending _ (suc s.settled) c.1 i h ∙ ap (λ (k : ℕ). 1 - k) (sym c.0))

settle_top_back : (s : Coder) (x : Stream) → Binary x → s.low / 0x8000 ≡ s.high / 0x8000 → Carries x s.settled (settled_bits s)
    → Agrees (settle_top s) x → Agrees s x
unfolding code
settle_top_back s x two top c a =
    let q : ℕ = s.settled + 1 + s.pending in
    let b = settled_first s x c in
    let e : x q * 0x8000 + word x (q + 1 + 0) 15 ≡ 2 * word x q 15 + x (q + 15) = sixteen x q in
    let lower : 2 * (s.low % 0x8000) ≤ x q * 0x8000 + word x (q + 1 + 0) 15 = a.from_low in
    let upper : x q * 0x8000 + word x (q + 1 + 0) 15 ≤ 2 * (s.high % 0x8000) + 1 = a.to_high in
    let last : x (q + 15) ≤ 1 = two (q + 15) in
    record { inverted = b.1; from_low = omega (arith, b.0); to_high = omega (arith, b.0) }

settle_back : (n : ℕ) (s : Coder) (x : Stream) → Binary x → Carries x s.settled (top_bits n s) → Agrees (settle_tops n s) x → Agrees s x
unfolding settle_tops
settle_back zero s x two = λ c a. a
settle_back (suc n) s x two =
    settling_cases (λ (bits : List ℕ) (t : Coder). Carries x s.settled bits → Agrees t x → Agrees s x) n s
    (λ e c a.
    let parts = carries_append x (settled_bits s) (top_bits n (settle_top s)) s.settled c in
    let place : s.settled + length (settled_bits s) ≡ s.settled + 1 + s.pending = omega (arith, settled_length s) in
    settle_top_back s x two (eqb-true _ _ e) parts.0 (settle_back n (settle_top s) x two (rw place at parts.1) a))
    (λ e c a. a)

postpone_back : (s : Coder) (x : Stream) → Binary x → s.low / 0x4000 ≡ 1 → s.high / 0x4000 ≡ 2 → Agrees (postpone s) x → Agrees s x
unfolding code
postpone_back s x two l u a =
    let q : ℕ = s.settled + 1 + s.pending in
    let b : ℕ = x s.settled in
    let hb : b ≤ 1 = two s.settled in
    let skip : x q ≡ 1 - b = a.inverted s.pending (omega arith) in
    let f = fifteen x q (1 - b) skip in
    let e : word x (s.settled + 1 + (s.pending + 1)) 15 ≡ word x (suc q) 15 = ap (λ (k : ℕ). word x k 15) (omega arith) in
    let lower : 2 * (s.low - 0x4000) ≤ b * 0x8000 + word x (s.settled + 1 + (s.pending + 1)) 15 = a.from_low in
    let upper : b * 0x8000 + word x (s.settled + 1 + (s.pending + 1)) 15 ≤ 2 * (s.high - 0x4000) + 1 = a.to_high in
    let last : x (suc q + 14) ≤ 1 = two (suc q + 14) in
    record { inverted = λ i h. a.inverted i (omega arith); from_low = omega arith; to_high = omega arith }

postpones_back : (n : ℕ) (s : Coder) (x : Stream) → Binary x → Agrees (postpones n s) x → Agrees s x
unfolding postpones
postpones_back zero s x two = λ a. a
postpones_back (suc n) s x two =
    postpone_cases (λ (t : Coder). Agrees t x → Agrees s x) n s
    (λ e d a. postpone_back s x two (eqb-true _ _ e) (eqb-true _ _ d) (postpones_back n (postpone s) x two a))
    (λ e a. a)
    (λ e a. a)

-- ---- a symbol

module _ (s : Coder) (a : Span) (x : Stream) (w : WellFormed s) (c : Codable a) (h : Agrees (narrow s a) x) where
  narrow_back : Agrees s x
  unfolding narrow code
  narrow_back =
      let p = part_le (range s) (a.start + a.weight) a.total c.within in
      record { inverted = h.inverted; from_low = omega arith; to_high = omega arith }

  -- the reader is pointed into the symbol's part
  narrow-target : (a.start ≤ target s x a.total) × (target s x a.total < a.start + a.weight)
  unfolding narrow target code
  narrow-target =
      let n : ℕ = x s.settled * 0x8000 + word x (s.settled + 1 + s.pending) 15 in
      let d : ℕ = n - s.low in
      let p = part_next (range s) a.start a.weight a.total (omega arith) (omega arith) c.some in
      let lower : s.low + range s * a.start / a.total ≤ n = h.from_low in
      let upper : n ≤ s.low + range s * (a.start + a.weight) / a.total - 1 = h.to_high in
      let e : n + 1 - s.low ≡ d + 1 = omega arith in
      let r_some : 0 < range s = omega arith in
      let t_some : 0 < a.total = omega arith in
      let from : a.start ≤ (a.total * (d + 1) - 1) / range s = cut_up (range s) a.total d r_some t_some a.start (omega arith) in
      let to = cut_back (range s) a.total d r_some t_some (a.start + a.weight) (omega arith) in
      rw e (from, to)

after_back : (s : Coder) (a : Span) (x : Stream) → Binary x → Carries x s.settled (symbol_bits s a)
    → Agrees (after_symbol s a) x → Agrees (narrow s a) x
unfolding after_symbol symbol_bits narrow
after_back s a x two k h = settle_back 16 (narrow s a) x two k (postpones_back 16 (settle_tops 16 (narrow s a)) x two h)

-- ---- several symbols

-- a reader at s is pointed to each symbol in turn
abbrev pub Pointed : Coder → Stream → List Span → Type 0
Pointed s x [] = Unit {0}
Pointed s x (a ∷ more) = (a.start ≤ target s x a.total) × (target s x a.total < a.start + a.weight) × Pointed (after_symbol s a) x more

-- A reader that agrees after several symbols agrees before them, and is pointed to each.
pub all_back : (symbols : List Span) (s : Coder) (x : Stream) → Binary x → WellFormed s → AllCodable symbols
    → Carries x s.settled (symbols_bits s symbols) → Agrees (after_symbols s symbols) x → Pointed s x symbols × Agrees s x
unfolding after_symbols symbols_bits
all_back [] s x two w c k h = (tt, h)
all_back (a ∷ more) s x two w c k h =
    let parts = carries_append x (symbol_bits s a) (symbols_bits (after_symbol s a) more) s.settled k in
    let rest = all_back more (after_symbol s a) x two (after_wellformed s a w c.0) c.1 (rw (← symbol_count s a) at parts.1) h in
    let n = after_back s a x two parts.0 rest.1 in
    let t = narrow-target s a x w c.0 n in
    ((t.0, t.1, rest.0), narrow_back s a x w c.0 n)
