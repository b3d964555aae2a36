-- The invariant, at an interval that a symbol narrowed: its bits and the bytes that are left lead to the same state and the same bytes.
use Rattle.std.proofs.Common.{◌≡◌, ℕ, ◌-◌, ◌/◌, ◌<◌, List, ◌∷◌, refl, ap, ◌∙◌, arith, rules}
use Rattle.coder.specs.declared.interval.Coder.{Coder}
use Rattle.coder.specs.declared.interval.Span.{Span}
use Rattle.coder.specs.Bytes.{put_bits}
use Rattle.coder.specs.Interval.{WellFormed, after_symbol, narrow, top_bits}
use Rattle.coder.specs.Inside.{Holds}
use Rattle.coder.specs.Symbols.{byte_span, plain_spans}
use Rattle.coder.specs.Together.{renormalized}
use Rattle.coder.proofs.Led.{led_bits, led_state}
use Rattle.coder.proofs.Limits.{after_wellformed, holds_put, narrow_ordered}
use Rattle.coder.proofs.Putting.{length_put_bits}
use Rattle.coder.proofs.Sequence.{after_plain_none, all_least, byte_codable, plain_more, put_plain_none}
use Rattle.coder.proofs.interval.Coder.put_led.Invariants.{leads, Left}
use Rattle.coder.proofs.interval.Coder.put_led.Goals as goal

left_less : {t₀ : Coder} {v₀ count : ℕ} {buf₀ : List ℕ} {t : Coder} {rest left : ℕ} {buf : List ℕ} (u t' : Coder) (buf' : List ℕ)
    → Left t₀ v₀ count buf₀ t rest left buf → 0 < left → u ≡ renormalized t → buf' ≡ put_bits buf t.settled (top_bits 16 t) → t' ≡ narrow u (byte_span rest)
    → Left t₀ v₀ count buf₀ t' (rest / 256) (left - 1) buf'
unfolding after_symbol
left_less {t} {rest} {left} {buf} u t' buf' h pos turned put next =
    let b : Span = byte_span rest in
    let more : List Span = plain_spans (left - 1) (rest / 256) in
    let bytes : List ℕ = put_bits buf t.settled (top_bits 16 t) in
    let formed : WellFormed u = rw turned h.formed in
    let spans : b ∷ more ≡ plain_spans left rest = plain_more left rest pos in
    rw (next, put) record {
      state = led_state u (narrow u b) b more refl ∙ rw (spans, turned) h.state;
      same = led_bits u (narrow u b) b more bytes refl ∙ rw (spans, turned) h.same;
      ordered = narrow_ordered u b formed (byte_codable rest);
      formed = after_wellformed u b formed (byte_codable rest);
      holds = holds_put (top_bits 16 t) buf t.settled h.holds;
      long = length_put_bits (top_bits 16 t) buf t.settled ∙ h.long;
    }

pub loop-left-init : goal.loop-left-init
unfolding after_symbol
loop-left-init c =
    let a = c.args in
    let e = c.narrowed-s.ensures in
    record {
      state = refl;
      same = refl;
      ordered = rw e (narrow_ordered a.self a.span (search rules) (search rules));
      formed = rw e (after_wellformed a.self a.span (search rules) (search rules));
      holds = rw (led_state a.self c.narrowed-s.result a.span (plain_spans a.count a.value) e) (search rules);
      long = refl;
    }

pub put_renormalized-s-requires : goal.put_renormalized-s-requires
put_renormalized-s-requires c =
    let l = c.loop-left in
    let h : Holds l.buf (leads l.s l.left l.rest) = rw l.invariant.state l.invariant.holds in
    record { low_le_high = (l.invariant.ordered.order, l.invariant.ordered.fits); holds = omega (arith, h, all_least (plain_spans l.left l.rest) (renormalized l.s)) }

pub returns-then-left-eq0 : goal.returns-then-left-eq0
returns-then-left-eq0 c =
    let l = c.loop-left in
    let a = c.args in
    let more = plain_spans a.count a.value in
    let put = c.put_renormalized-s.ensures in record {
      value = put.value ∙ after_plain_none l.left l.rest _ (search rules) ∙ l.invariant.state ∙ led_state a.self _ a.span more c.narrowed-s.ensures;
      buf_after = put.buf_after ∙ put_plain_none l.left l.rest (renormalized l.s) _ (search rules) ∙ l.invariant.same
          ∙ led_bits a.self _ a.span more a.buf.now c.narrowed-s.ensures;
    }

pub narrowed-s-requires-in-loop-left : goal.narrowed-s-requires-in-loop-left
narrowed-s-requires-in-loop-left c = record { well_formed = rw c.put_renormalized-s.ensures.value c.loop-left.invariant.formed; codable = rw c.byte_span.ensures (byte_codable _) }

pub loop-left-preserved : goal.loop-left-preserved
loop-left-preserved c =
    left_less c.put_renormalized-s.result _ _ c.loop-left.invariant (search rules) c.put_renormalized-s.ensures.value c.put_renormalized-s.ensures.buf_after
    (c.narrowed-s-in-loop-left.ensures ∙ ap (narrow c.put_renormalized-s.result) c.byte_span.ensures)
