-- The invariant: the bytes that are left lead to the same state.
use Rattle.std.proofs.Common.{◌≡◌, ℕ, ◌+◌, ◌-◌, ◌/◌, ◌<◌, ◌∙◌, arith, rules}
use Rattle.coder.specs.declared.interval.Coder.{Coder}
use Rattle.coder.specs.declared.interval.Span.{Span}
use Rattle.coder.specs.Interval.{after_symbol}
use Rattle.coder.specs.Symbols.{after_symbols, byte_span}
use Rattle.coder.proofs.Limits.{after_wellformed, after_grown}
use Rattle.coder.proofs.Sequence.{byte_codable, after_plain_none, plain_next}
use Rattle.coder.proofs.interval.Coder.after_plain.Invariants.{Left}
use Rattle.coder.proofs.interval.Coder.after_plain.Goals as goal

left_less : {t s : Coder} {rest count k : ℕ} (a : Span) (s' : Coder) → Left t s rest (count - k) → k < count → a ≡ byte_span rest → s' ≡ after_symbol s a
    → Left t s' (rest / 256) (count - (k + 1))
unfolding after_symbols
left_less {t} {s} {rest} {count} {k} a s' h pos e turned =
    let b : Span = byte_span rest in
    rw (turned, e) record {
      same = (rw (← plain_next count k rest pos) at h.same);
      formed = after_wellformed s b h.formed (byte_codable rest);
      room = omega (arith, h.room, after_grown s b);
    }

pub after-s-requires : goal.after-s-requires
after-s-requires c =
    let l = c.loop in
    rw c.byte_span.ensures record { well_formed = l.invariant.formed; room = omega (arith, l.invariant.room); codable = byte_codable _ }

pub loop-preserved : goal.loop-preserved
loop-preserved c =
    let l = c.loop in
    left_less _ _ l.invariant (search rules) c.byte_span.ensures c.after-s.ensures

pub returns : goal.returns
returns c = let l = c.loop in after_plain_none (c.args.count - l.counter) l.rest l.s (omega arith) ∙ l.invariant.same
