-- A symbol settles or postpones at most 16 bits: each turn doubles the interval, which is not empty at first and never larger than the whole.
use Prim.Native.Nat.{ℕ, zero, suc, ◌+◌, ◌*◌, ◌-◌, ◌/◌, ◌^◌, ◌≤◌, ◌<◌}
use Rattle.coder.proofs.Limits.{Ordered, Parted, after_wellformed, double, narrow_grown, narrow_ordered, postpone_cases, settle_cases, tops_parted, wide16}
use Rattle.coder.proofs.Spans.{AllCodable}
use Rattle.coder.specs.Interval.{Codable, WellFormed, after_symbol, narrow, postpone, postpones, settle_top, settle_tops}
use Rattle.coder.specs.Symbols.{after_symbols}
use Rattle.coder.specs.declared.interval.Coder.{Coder}
use Rattle.coder.specs.declared.interval.Span.{Span}
use borrow.Author.Tests.{eqb-true}
use lib.ListN.{length}
use mathlib.Core.List.{List, [], ◌∷◌}
use mathlib.Core.Path.{◌≡◌}
use native.Mathlib.Nat.{mul-one}
use native.Mathlib.Omega.{arith}

-- the settled and the pending bits
abbrev pub bits : Coder → ℕ
bits s = s.settled + s.pending

-- so many turns would make the interval the whole, and there is room for their bits
record Left (most : ℕ) (s : Coder) : Type 0 where
  turns : ℕ
  wide : 0x10000 ≤ (s.high + 1 - s.low) * 2 ^ turns
  room : bits s + turns ≤ most

-- a turn is one of them: the whole interval has none
turned : (most : ℕ) (s t : Coder) → s.high + 1 - s.low < 0x10000 → t.high + 1 - t.low ≡ 2 * (s.high + 1 - s.low) → bits t ≡ bits s + 1
    → Left most s → Left most t
turned most s t part twice one l = go l.turns l.wide l.room
  where
    go : (k : ℕ) → 0x10000 ≤ (s.high + 1 - s.low) * 2 ^ k → bits s + k ≤ most → Left most t
    go zero wide room = let all : 0x10000 ≤ s.high + 1 - s.low = rw mul-one at wide in absurd (omega arith)
    go (suc k) wide room = record { turns = k; wide = double (s.high + 1 - s.low) _ k twice wide; room = omega arith }

settle_left : (most n : ℕ) (s : Coder) → Ordered s → Left most s → Left most (settle_tops n s)
unfolding settle_tops
settle_left most zero s o l = l
settle_left most (suc n) s o l =
    settle_cases (Left most) n s
    (λ e.
    let same : s.low / 0x8000 ≡ s.high / 0x8000 = eqb-true _ _ e in
    settle_left most n (settle_top s) (omega arith) (turned most s (settle_top s) (omega arith) (omega arith) (omega arith) l))
    (λ e. l)

postpone_left : (most n : ℕ) (s : Coder) → Parted s → Left most s → Left most (postpones n s)
unfolding postpones
postpone_left most zero s p l = l
postpone_left most (suc n) s p l =
    postpone_cases (Left most) n s
    (λ e d.
    let low-next : s.low / 0x4000 ≡ 1 = eqb-true _ _ e in
    let high-next : s.high / 0x4000 ≡ 2 = eqb-true _ _ d in
    postpone_left most n (postpone s) (omega arith) (turned most s (postpone s) (omega arith) (omega arith) (omega arith) l))
    (λ e. l)
    (λ e. l)

pub symbol_few : (s : Coder) (a : Span) → WellFormed s → Codable a → bits (after_symbol s a) ≤ bits s + 16
unfolding after_symbol
symbol_few s a w g =
    let o : Ordered (narrow s a) = narrow_ordered s a w g in
    let start : Left (bits s + 16) (narrow s a) = record { turns = 16; wide = wide16 _ (omega arith); room = omega (arith, narrow_grown s a) } in
    let last = postpone_left (bits s + 16) 16 _ (tops_parted (narrow s a) o) (settle_left (bits s + 16) 16 (narrow s a) o start) in
    omega (arith, last.room)

-- Symbols that can be coded settle or postpone at most 16 bits each.
pub symbols_few : (spans : List Span) (s : Coder) → WellFormed s → AllCodable spans → bits (after_symbols s spans) ≤ bits s + 16 * length spans
unfolding after_symbols
symbols_few [] s w c = omega arith
symbols_few (a ∷ more) s w c =
    omega (arith, symbol_few s a w c.0, symbols_few more (after_symbol s a) (after_wellformed s a w c.0) c.1)
