-- Bits that are moved together are those that 01 settles one by one, "for any low up to high and any pending count that fits" (02, Ask 3):
-- no count is bounded here.
use Prim.Native.Nat.{◌≤◌, ◌<◌}
use Rattle.coder.proofs.Limits.{Ordered, Parted, narrow_ordered, tops_parted}
use Rattle.coder.proofs.Stored.{lead_tops}
use Rattle.coder.proofs.Together.{agreeing_of, postpone-all, settle_together, straddling_of}
use Rattle.coder.specs.Interval.{Codable, WellFormed, after_symbol, narrow, postpones, settle_tops, symbol_bits, top_bits}
use Rattle.coder.specs.Together.{Agreeing, lead_bits, postponed_by, settled_by}
use Rattle.coder.specs.declared.interval.Coder.{Coder}
use Rattle.coder.specs.declared.interval.Span.{Span}
use Rattle.coder_theorems.specs.Together.{agreeing, straddling}
use mathlib.Core.Path.{◌≡◌, ap, sym, ◌∙◌}
use native.Mathlib.Omega.{arith}

-- The turns that settle top bits, and the bits that they settle, are one step.
pub settled_at_once : (s : Coder) → s.low ≤ s.high → s.high ≤ 0xFFFF
    → let n = agreeing s.low s.high in (settle_tops 16 s ≡ settled_by n s) × (top_bits 16 s ≡ lead_bits n s)
settled_at_once s order fits =
    let n = agreeing s.low s.high in
    let found : Agreeing n s.low s.high = (agreeing_of s.low s.high (omega arith) fits).1 in
    (settle_together n s found, sym (lead_tops n s found))

-- The turns that postpone are one step.
pub postponed_at_once : (s : Coder) → s.low < 0x8000 → 0x8000 ≤ s.high → s.high ≤ 0xFFFF
    → postpones 16 s ≡ postponed_by (straddling s.low s.high) s
postponed_at_once s below above fits =
    let apart : Parted s = record { low_top = below; high_top = above; fits = fits } in
    postpone-all (straddling s.low s.high) s apart (straddling_of s.low s.high below above fits).1

-- A symbol that a well-formed state takes: the state after it and its bits, each found in one step.
pub symbol_at_once : (s : Coder) (a : Span) → WellFormed s → Codable a
    → let t = narrow s a in
    let n = agreeing t.low t.high in
    let u = settled_by n t in (after_symbol s a ≡ postponed_by (straddling u.low u.high) u) × (symbol_bits s a ≡ lead_bits n t)
unfolding after_symbol symbol_bits
symbol_at_once s a w c =
    let t : Coder = narrow s a in
    let o : Ordered t = narrow_ordered s a w c in
    let once = settled_at_once t o.order o.fits in
    let p : Parted (settle_tops 16 t) = tops_parted t o in (
      postponed_at_once (settle_tops 16 t) p.low_top p.high_top p.fits
          ∙ ap (λ (u : Coder). postponed_by (straddling u.low u.high) u) once.0,
      once.1,
    )
