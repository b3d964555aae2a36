-- A writer that took plain values only, from a fresh state on, has fresh limits: a byte is one of 256 equal parts of the whole interval, and
-- such a part settles to the whole again.
use Prim.Native.Nat.{ℕ, zero, suc, ◌+◌, ◌*◌, ◌-◌, ◌/◌, ◌%◌, ◌^◌, ◌≤◌, ◌<◌}
use Rattle.coder.proofs.Stored.{lead_tops}
use Rattle.coder.proofs.Streams.{word_below}
use Rattle.coder.proofs.Together.{settle_together}
use Rattle.coder.proofs.Turns.{postpone_low}
use Rattle.coder.specs.Ending.{bits_of}
use Rattle.coder.specs.Interval.{after_symbol, code, narrow, postpones, settle_tops, settled_bits, symbol_bits, top_bits}
use Rattle.coder.specs.Stream.{Binary, Stream}
use Rattle.coder.specs.Symbols.{after_symbols, byte_span, plain_spans, reversed, static_span}
use Rattle.coder.specs.Together.{Agreeing, lead_bits, settled_by}
use Rattle.coder.specs.Writing.{write, write_dynamic, write_plain, write_static}
use Rattle.coder.specs.declared.interval.Coder.{Coder}
use Rattle.coder.specs.declared.interval.Span.{Span}
use Rattle.coder.specs.declared.write.Writer.{Writer}
use Rattle.coder_theorems.proofs.Calls.{end_refused}
use Rattle.coder_theorems.specs.Runs.{AllKeep, Context, Held, Histograms, Step, after_step, after_steps, call_escape, call_write, dynamic, escape, finish, lend, plain, put, static}
use mathlib.Core.Bool.{Bool, true, false, ◌||◌, true≢false}
use mathlib.Core.List.{List, [], ◌∷◌}
use mathlib.Core.Path.{◌≡◌, ◌∙◌, ap, refl, subst, sym}
use native.Mathlib.Omega.{arith}

-- ---- the whole interval

pub record Whole (s : Coder) : Type 0 where
  pub low : s.low ≡ 0
  pub high : s.high ≡ 0xFFFF
  pub pending : s.pending ≡ 0

-- with so many settled bits
abbrev pub whole_at : ℕ → Coder
whole_at n = record { low = 0; high = 0xFFFF; pending = 0; settled = n }

-- the part q of 256 equal ones: its limits agree in eight top bits, and in no more
abbrev part : ℕ → ℕ → Coder
part n q = record { low = 256 * q; high = 256 * q + 255; pending = 0; settled = n }

to_part : (n q : ℕ) → narrow (whole_at n) (static_span 256 q) ≡ part n q
unfolding narrow
to_part n q =
    let low : 0 + 0x10000 * q / 256 ≡ 256 * q = omega arith in
    let high : 0 + 0x10000 * (q + 1) / 256 - 1 ≡ 256 * q + 255 = omega arith in
    λ i. record { low = low i; high = high i; pending = 0; settled = n }

eight_agree : (q : ℕ) → Agreeing 8 (256 * q) (256 * q + 255)
eight_agree q =
    record {
      left = 8;
      whole = refl;
      same = omega arith;
      next = λ k e h.
          let seven : k ≡ 7 = omega arith in
          let there : 256 * q / 2 ^ 7 ≡ (256 * q + 255) / 2 ^ 7 = rw seven at h in
          omega arith;
    }

part_settled : (n q : ℕ) → settled_by 8 (part n q) ≡ whole_at (n + 8)
unfolding settled_by
part_settled n q =
    let low : 256 * q * 2 ^ 8 % 0x10000 ≡ 0 = omega arith in
    let high : (256 * q + 255) * 2 ^ 8 % 0x10000 + (2 ^ 8 - 1) ≡ 0xFFFF = omega arith in
    let count : n + 8 + 0 ≡ n + 8 = omega arith in
    λ i. record { low = low i; high = high i; pending = 0; settled = count i }

-- Such a part settles eight bits, and is the whole again.
pub part_after : (n q : ℕ) → after_symbol (whole_at n) (static_span 256 q) ≡ whole_at (n + 8)
unfolding after_symbol
part_after n q =
    ap (λ (t : Coder). postpones 16 (settle_tops 16 t)) (to_part n q)
    ∙ ap (postpones 16) (settle_together 8 (part n q) (eight_agree q) ∙ part_settled n q)
    ∙ sym (postpone_low 16 (whole_at (n + 8)) (λ e. omega arith))

-- They are those of its number, the highest first.
pub part_bits : (n q : ℕ) → q < 256 → symbol_bits (whole_at n) (static_span 256 q) ≡ bits_of 8 q
unfolding symbol_bits lead_bits settled_bits bits_of
part_bits n q h =
    let top : 256 * q / 0x8000 ≡ q / 2 ^ 7 % 2 = omega arith in
    let rest : 256 * q / 2 ^ 8 ≡ q = omega arith in
    ap (top_bits 16) (to_part n q) ∙ sym (lead_tops 8 (part n q) (eight_agree q)) ∙ rw (top, rest)

byte_whole : (s : Coder) (v : ℕ) → Whole s → Whole (after_symbol s (byte_span v))
byte_whole s v h =
    let same : s ≡ whole_at s.settled = λ i. record { low = h.low i; high = h.high i; pending = h.pending i; settled = s.settled } in
    let next : after_symbol s (byte_span v) ≡ whole_at (s.settled + 8) =
    ap (λ (t : Coder). after_symbol t (byte_span v)) same ∙ part_after s.settled (reversed 8 (v % 256)) in
    subst Whole (sym next) (record { low = refl; high = refl; pending = refl })

plain_whole : (n v : ℕ) (s : Coder) → Whole s → Whole (after_symbols s (plain_spans n v))
unfolding after_symbols plain_spans
plain_whole zero v s h = h
plain_whole (suc n) v s h = plain_whole n (v / 256) (after_symbol s (byte_span v)) (byte_whole s v h)

-- every number is one of it
pub whole_number : (s : Coder) (x : Stream) → Binary x → Whole s → code s x ≤ s.high
unfolding code
whole_number s x two h = omega (arith, two s.settled, word_below x (s.settled + 1 + s.pending) 15 two)

-- ---- a writer without a compressed value

abbrev pub Opened : Writer → Type 0
Opened w = w.compressed ≡ false → Whole w.coder

write_opened : (n : ℕ) (l : List ℕ) (w : Writer) (compresses : Bool) (spans : List Span)
    → (compresses ≡ false → Whole w.coder → Whole (after_symbols w.coder spans)) → Opened w
    → Opened (write n l w compresses spans).writer
unfolding write
write_opened zero l w compresses spans on h = λ e. go w.compressed compresses h on e
  where
    go : (a b : Bool) → (a ≡ false → Whole w.coder) → (b ≡ false → Whole w.coder → Whole (after_symbols w.coder spans))
        → (a || b) ≡ false → Whole (after_symbols w.coder spans)
    go false false g f e = f refl (g refl)
    go false true g f e = absurd (true≢false e)
    go true b g f e = absurd (true≢false e)
write_opened (suc n) l w compresses spans on h = h

compressing : {A : Type 0} → true ≡ false → A
compressing e = absurd (true≢false e)

call_opened : (l : List ℕ) (w : Writer) (hs : Histograms) (c : Context) (v : ℕ) → Opened w → Opened (call_write l w hs c v).result.writer
unfolding call_write write_plain write_static write_dynamic
call_opened l w hs (plain n) v h = write_opened _ l w false _ (λ e. plain_whole n v w.coder) h
call_opened l w hs (static range) v h = write_opened _ l w true _ compressing h
call_opened l w hs (dynamic k) v h = write_opened _ l w true _ compressing h

escape_opened : (l : List ℕ) (w : Writer) (hs : Histograms) (k v : ℕ) → Opened w → Opened (call_escape l w hs k v).result.writer
unfolding call_escape
escape_opened l w hs k v h = write_opened _ l w true _ compressing h

-- From a fresh state on, a writer that is not at its fresh limits has taken a compressed value.
pub steps_opened : (steps : List Step) (h : Held) → AllKeep h steps → Opened h.writer → Opened (after_steps h steps).writer
unfolding AllKeep after_steps after_step
steps_opened [] h keep o = o
steps_opened (put n ∷ steps) h keep o =
    steps_opened steps (after_step h (put n)) keep.1 (call_opened h.buffer h.writer h.histograms n.context n.value o)
steps_opened (escape k v ∷ steps) h keep o =
    steps_opened steps (after_step h (escape k v)) keep.1 (escape_opened h.buffer h.writer h.histograms k v o)
steps_opened (lend buffer ∷ steps) h keep o = steps_opened steps (after_step h (lend buffer)) keep.1 o
steps_opened (finish ∷ steps) h keep o =
    steps_opened steps (after_step h finish) keep.1 (subst Opened (sym (end_refused h.buffer h.writer keep.0).1) o)
