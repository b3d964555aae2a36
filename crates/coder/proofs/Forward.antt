-- A reader's state stays well formed, on any stream of bits: where its number lies from low to high before a symbol to which it is
-- pointed, it does so after it, and the pending bits stay inverted.
use Rattle.std.proofs.Common.{◌≡◌, ℕ, zero, suc, ◌+◌, ◌-◌, ◌*◌, ◌/◌, ◌<◌, ◌≤◌, refl, ap, ◌∙◌, ⊎_elim, not-suc-le-zero, eq-or-lt_of_le, mul-div_cancel, arith, eqb-true}
use Rattle.coder.proofs.Limits.{Ordered, after_wellformed, narrow_ordered, postpone_cases, settle_cases}
use Rattle.coder.proofs.Narrowing.{cut_back, cut_high, cut_low}
use Rattle.coder.proofs.Streams.{fifteen, sixteen, word_below}
use Rattle.coder.specs.Inside.{Reading}
use Rattle.coder.specs.Interval.{Codable, Inverted, after_symbol, code, largest_range, narrow, postpone, postpones, range, settle_top, settle_tops, target}
use Rattle.coder.specs.Stream.{Binary, Stream, word}
use Rattle.coder.specs.Symbols.{static_span}
use Rattle.coder.specs.declared.interval.Coder.{Coder}
use Rattle.coder.specs.declared.interval.Span.{Span}

-- the number that a reader finds lies from low to high
record Within (s : Coder) (x : Stream) : Type 0 where
  from_low : s.low ≤ code s x
  to_high : code s x ≤ s.high

settle_top-within : (s : Coder) (x : Stream) → Binary x → Ordered s → s.low / 0x8000 ≡ s.high / 0x8000 → Within s x → Within (settle_top s) x
unfolding code
settle_top-within s x two o top a =
    let q : ℕ = s.settled + 1 + s.pending in
    let e : x q * 0x8000 + word x (q + 1 + 0) 15 ≡ 2 * word x q 15 + x (q + 15) = sixteen x q in
    let lower : s.low ≤ x s.settled * 0x8000 + word x q 15 = a.from_low in
    let upper : x s.settled * 0x8000 + word x q 15 ≤ s.high = a.to_high in
    let w : word x q 15 < 0x8000 = word_below x q 15 two in
    let last : x (q + 15) ≤ 1 = two (q + 15) in
    record { from_low = omega arith; to_high = omega arith }

module _ (s : Coder) (x : Stream) (two : Binary x) (l : s.low / 0x4000 ≡ 1) (u : s.high / 0x4000 ≡ 2) (a : Within s x) where
  abbrev q : ℕ
  q = s.settled + 1 + s.pending

  -- the bit that is passed over
  skipped : x q ≡ 1 - x s.settled
  unfolding code
  skipped =
      let b : ℕ = x s.settled in
      let hb : b ≤ 1 = two s.settled in
      let hq : x q ≤ 1 = two q in
      let f : word x q 15 ≡ x q * 0x4000 + word x (suc q) 14 = (fifteen x q (x q) refl).0 in
      let w : word x (suc q) 14 < 0x4000 = word_below x (suc q) 14 two in
      let lower : s.low ≤ b * 0x8000 + word x q 15 = a.from_low in
      let upper : b * 0x8000 + word x q 15 ≤ s.high = a.to_high in
      omega arith

  postpone-within : Within (postpone s) x
  unfolding code
  postpone-within =
      let b : ℕ = x s.settled in
      let f = fifteen x q (x q) refl in
      let e : word x (s.settled + 1 + (s.pending + 1)) 15 ≡ word x (suc q) 15 = ap (λ (k : ℕ). word x k 15) (omega arith) in
      let w : word x (suc q) 14 < 0x4000 = word_below x (suc q) 14 two in
      let lower : s.low ≤ b * 0x8000 + word x q 15 = a.from_low in
      let upper : b * 0x8000 + word x q 15 ≤ s.high = a.to_high in
      let hb : b ≤ 1 = two s.settled in
      let last : x (suc q + 14) ≤ 1 = two (suc q + 14) in
      let skip : x q ≡ 1 - b = skipped in
      record { from_low = omega arith; to_high = omega arith }

  postpone_inverted : Inverted s x → Inverted (postpone s) x
  postpone_inverted v = λ i h.
      ⊎_elim (λ (k : i ≡ s.pending). ap (λ (j : ℕ). x (s.settled + 1 + j)) k ∙ skipped) (λ (k : i < s.pending). v i k)
      (eq-or-lt_of_le (let m : i ≤ s.pending = omega arith in m))

settle_within : (n : ℕ) (s : Coder) (x : Stream) → Binary x → Ordered s → Within s x → Within (settle_tops n s) x
unfolding settle_tops
settle_within zero s x two o a = a
settle_within (suc n) s x two o a =
    settle_cases (λ (t : Coder). Within t x) n s
    (λ e.
    let top : s.low / 0x8000 ≡ s.high / 0x8000 = eqb-true _ _ e in
    settle_within n (settle_top s) x two (omega arith) (settle_top-within s x two o top a))
    (λ e. a)

postpones-within : (n : ℕ) (s : Coder) (x : Stream) → Binary x → Within s x → Within (postpones n s) x
unfolding postpones
postpones-within zero s x two a = a
postpones-within (suc n) s x two a =
    postpone_cases (λ (t : Coder). Within t x) n s
    (λ e d. postpones-within n (postpone s) x two (postpone-within s x two (eqb-true _ _ e) (eqb-true _ _ d) a))
    (λ e. a)
    (λ e. a)

settle_inverted : (n : ℕ) (s : Coder) (x : Stream) → Inverted s x → Inverted (settle_tops n s) x
unfolding settle_tops
settle_inverted zero s x v = v
settle_inverted (suc n) s x v =
    settle_cases (λ (t : Coder). Inverted t x) n s (λ e. settle_inverted n (settle_top s) x (λ i h. absurd (not-suc-le-zero h))) (λ e. v)

postpones_inverted : (n : ℕ) (s : Coder) (x : Stream) → Binary x → Within s x → Inverted s x → Inverted (postpones n s) x
unfolding postpones
postpones_inverted zero s x two a v = v
postpones_inverted (suc n) s x two a v =
    postpone_cases (λ (t : Coder). Inverted t x) n s
    (λ e d.
    postpones_inverted n (postpone s) x two (postpone-within s x two (eqb-true _ _ e) (eqb-true _ _ d) a)
    (postpone_inverted s x two (eqb-true _ _ e) (eqb-true _ _ d) a v))
    (λ e. v)
    (λ e. v)

-- a reader is pointed to a place below the total
pub target_below : (s : Coder) (x : Stream) (t : ℕ) → Reading s x → 0 < t → target s x t < t
unfolding target
target_below s x t r some =
    let n : ℕ = code s x in
    let d : ℕ = n - s.low in
    let e : n + 1 - s.low ≡ d + 1 = omega arith in
    let m : range s * t / t ≡ range s = mul-div_cancel (range s) some in
    rw e (cut_back (range s) t d (omega arith) some t (omega arith))

module _ (s : Coder) (a : Span) (x : Stream) (two : Binary x) (r : Reading s x) (c : Codable a)
    (l : a.start ≤ target s x a.total) (u : target s x a.total < a.start + a.weight) where
  narrow_within : Within (narrow s a) x
  unfolding narrow target code
  narrow_within =
      let n : ℕ = x s.settled * 0x8000 + word x (s.settled + 1 + s.pending) 15 in
      let d : ℕ = n - s.low in
      let lower : s.low ≤ n = r.from_low in
      let upper : n ≤ s.high = r.to_high in
      let e : n + 1 - s.low ≡ d + 1 = omega arith in
      let r_some : 0 < range s = omega arith in
      let t_some : 0 < a.total = omega arith in
      let p : range s * a.start / a.total ≤ d = cut_low (range s) a.total d r_some t_some a.start (rw e at l) in
      let q : d < range s * (a.start + a.weight) / a.total = cut_high (range s) a.total d r_some t_some (a.start + a.weight) (rw e at u) in
      record { from_low = omega arith; to_high = omega arith }

  settled_within : Within (settle_tops 16 (narrow s a)) x
  settled_within = settle_within 16 (narrow s a) x two (narrow_ordered s a r.limits c) narrow_within

  -- The number that a reader finds lies from low to high after the symbol, too.
  pub reading_next : Reading (after_symbol s a) x
  unfolding after_symbol
  reading_next =
      let w : Within (postpones 16 (settle_tops 16 (narrow s a))) x = postpones-within 16 _ x two settled_within in
      record { limits = after_wellformed s a r.limits c; from_low = w.from_low; to_high = w.to_high }

  -- The pending bits are inverted after it, too.
  pub inverted_next : Inverted s x → Inverted (after_symbol s a) x
  unfolding after_symbol narrow
  inverted_next v = postpones_inverted 16 _ x two settled_within (settle_inverted 16 (narrow s a) x v)

-- the symbol of a static range that a reader is pointed to, and the state after it
pub static_codable : (s : Coder) (t : ℕ) (x : Stream) → Reading s x → 0 < t → t ≤ largest_range → Codable (static_span t (target s x t))
static_codable s t x r some small =
    let b : target s x t < t = target_below s x t r some in
    record { some = omega arith; within = omega arith; small = small }

pub reading_static : (s : Coder) (t : ℕ) (x : Stream) → Binary x → Reading s x → 0 < t → t ≤ largest_range
    → Reading (after_symbol s (static_span t (target s x t))) x
reading_static s t x two r some small =
    let b : target s x t < t = target_below s x t r some in
    reading_next s (static_span t (target s x t)) x two r (static_codable s t x r some small) (omega arith) (omega arith)
