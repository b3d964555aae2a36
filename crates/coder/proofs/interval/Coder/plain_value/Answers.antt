-- The invariant: what is read so far and the bytes that are left make the whole value.
use Rattle.std.proofs.Common.{◌≡◌, ℕ, ◌+◌, ◌-◌, ◌*◌, ◌/◌, ◌^◌, ◌<◌, ◌≤◌, List, length, sym, ap, ◌∙◌, one-mul, arith}
use Rattle.coder.specs.Bytes.{bit_at}
use Rattle.coder.specs.Inside.{Reading}
use Rattle.coder.specs.Interval.{Coder, after_symbol, code, target}
use Rattle.coder.specs.Stream.{Binary, Stream}
use Rattle.coder.specs.Symbols.{reversed, static_span}
use Rattle.coder.specs.Values.{read_plain}
use Rattle.coder.proofs.Forward.{static_codable, target_below}
use Rattle.coder.proofs.Limits.{after_grown}
use Rattle.coder.proofs.Reversal.{table_length}
use Rattle.coder.proofs.Stepping.{Turned, whole_last, whole_more, whole_none, plain_turned, symbol_stepped}
use Rattle.coder.proofs.Streams.{bit_binary}
use native.Mathlib.Nat.{pow-le-pow_right}
use Rattle.coder.proofs.interval.Coder.plain_value.Invariants.{Left}
use Rattle.coder.proofs.interval.Coder.plain_value.Goals as goal
use Rattle.coder.proofs.interval.Coder.plain_value.Goals.{After-after-s, After-reversed, After-target-symbol}

-- no byte is read yet
left_first : (x : Stream) (count : ℕ) (s : Coder) (number : ℕ) → Reading s x → number ≡ code s x → 1 ≤ count → count ≤ 4
    → s.settled + s.pending < 2 ^ 33 + 32 → Left x count s s number 0 1 count
left_first x count s number r e some few near =
    let most : 256 ^ count ≤ 256 ^ 4 = pow-le-pow_right (omega arith) few in
    record {
      same = whole_none (read_plain count x s);
      reading = r;
      pointed = e;
      some = some;
      below = omega arith;
      small = omega (arith, one-mul (256 ^ count), most);
      near = omega arith;
    }

module _ {x : Stream} {count : ℕ} {s₀ s : Coder} {number value place left : ℕ} (h : Left x count s₀ s number value place left) where
  -- the byte that is next
  byte_at : (q : ℕ) → q ≡ (256 * (number + 1 - s.low) - 1) / (s.high + 1 - s.low) → q ≡ target s x 256
  unfolding target
  byte_at q e = e ∙ rw h.pointed

  byte_below : (q : ℕ) → q ≡ target s x 256 → q < 256
  byte_below q e = omega (arith, e, target_below s x 256 h.reading (omega arith))

  -- the value with it
  turned : (r : ℕ) → r < 256 → Turned value place r left
  turned r byte = plain_turned value place r left h.some h.below byte h.small

  -- it is read, and others are left
  left_less : Binary x → (q r n : ℕ) (t : Coder) → q ≡ target s x 256 → r ≡ reversed 8 q → r < 256 → t ≡ after_symbol s (static_span 256 q)
      → n ≡ code t x → (left - 1 ≡ 0 → ⊥) → Left x count s₀ t n (value + place * r) (place * 256) (left - 1)
  left_less two q r n t e f byte next pointed more =
      let step = symbol_stepped 256 x s two h.reading (omega arith) (omega arith) in
      let where_to : t ≡ after_symbol s (static_span 256 (target s x 256)) = rw (← e) next in
      let turn = turned r byte in
      record {
        same = rw f (whole_more x s left value place q t h.some e next) ∙ h.same;
        reading = rw where_to step.reading;
        pointed = pointed;
        some = omega arith;
        below = turn.value_below;
        small = turn.left_small;
        near = rw where_to (omega (arith, step.near, h.near));
      }

-- the symbol that is found
byte_of : (c : After-target-symbol) → c.target-symbol.result ≡ target c.loop-left.s (bit_at c.args.bytes.now) 256
byte_of c = byte_at c.loop-left.invariant c.target-symbol.result c.target-symbol.ensures

-- the value with its byte
turn-of : (c : After-reversed) → (let l = c.loop-left in Turned l.value l.place c.reversed.result l.left)
turn-of c = turned c.loop-left.invariant c.reversed.result c.reversed.ensures.upper_bound

-- the state after it
next_of : (c : After-after-s)
    → c.after-s.result ≡ after_symbol c.loop-left.s (static_span 256 c.target-symbol.result)
next_of c = c.after-s.ensures ∙ rw c.static_span.ensures

pub loop-left-init : goal.loop-left-init
loop-left-init c =
    let a = c.args in
    let p = c.requires in
    left_first (bit_at a.bytes.now) a.count a.self a.first p.pointed.reading p.pointed.same p.pending_bound.1 p.pending_bound.2 p.pending_bound.0

pub target-symbol-requires : goal.target-symbol-requires
target-symbol-requires c =
    let h = c.loop-left.invariant in
    record { well_formed = (h.reading.limits, rw h.pointed h.reading.from_low, rw h.pointed h.reading.to_high); le_total = (omega arith, omega arith) }

pub slice_bounds-reversed-end : goal.slice_bounds-reversed-end
slice_bounds-reversed-end c = sym (ap (λ (l : List ℕ). length l) c.reversed_bytes-table.ensures ∙ table_length)

pub reversed-requires : goal.reversed-requires
reversed-requires c = (c.reversed_bytes-table.ensures, byte_below c.loop-left.invariant c.target-symbol.result (byte_of (goal.at.reversed-requires c).After-target-symbol))

pub overflow_mul-value : goal.overflow_mul-value
overflow_mul-value c = rw c.from.ensures (omega (arith, turn-of (goal.at.overflow_mul-value c).After-reversed))

pub overflow_add-value : goal.overflow_add-value
overflow_add-value c = rw c.from.ensures (omega (arith, turn-of (goal.at.overflow_add-value c).After-reversed))

pub after-s-requires : goal.after-s-requires
after-s-requires c =
    let l = c.loop-left in
    let codable = static_codable l.s 256 (bit_at c.args.bytes.now) l.invariant.reading (omega arith) (omega arith) in
    record { well_formed = l.invariant.reading.limits; room = record { room = omega (arith, l.invariant.near) }; codable = rw (c.static_span.ensures, byte_of (goal.at.after-s-requires c).After-target-symbol) codable }

pub overflow_sub-left : goal.overflow_sub-left
overflow_sub-left c = c.loop-left.invariant.some

pub overflow_cast-result : goal.overflow_cast-result
overflow_cast-result c = rw c.from.ensures (omega (arith, turn-of (goal.at.overflow_cast-result c).After-reversed))

pub returns-then-left-eq0 : goal.returns-then-left-eq0
returns-then-left-eq0 c =
    let l = c.loop-left in
    let x = bit_at c.args.bytes.now in
    let byte = byte_of (goal.at.returns-then-left-eq0 c).After-target-symbol in
    let last = whole_last x l.s l.left l.value l.place _ _ l.invariant.some byte (next_of (goal.at.returns-then-left-eq0 c).After-after-s) c.if-left-eq0.true in
    rw (c.from.ensures, c.reversed.ensures.value) last ∙ l.invariant.same

pub overflow_mul-place : goal.overflow_mul-place
overflow_mul-place c = omega (arith, turn-of (goal.at.overflow_mul-place c).After-reversed)

pub code-number-requires : goal.code-number-requires
code-number-requires c =
    let l = c.loop-left in
    rw c.after-s.ensures (omega (arith, after_grown l.s c.static_span.result, l.invariant.near, l.invariant.some))

pub loop-left-smaller : goal.loop-left-smaller
loop-left-smaller c = omega (arith, c.loop-left.invariant.some)

pub loop-left-preserved : goal.loop-left-preserved
loop-left-preserved c =
    let r = c.reversed in
    let two = bit_binary c.args.bytes.now in
    rw c.from.ensures
    (left_less c.loop-left.invariant two _ r.result _ _ (byte_of (goal.at.loop-left-preserved c).After-target-symbol)
    r.ensures.value r.ensures.upper_bound (next_of (goal.at.loop-left-preserved c).After-after-s) c.code-number.ensures c.if-left-eq0.false)
