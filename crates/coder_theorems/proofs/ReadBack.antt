-- A reader that is pointed to a value's symbols finds the value: a symbol's part of the total is its own, and a byte reversed twice is
-- the byte.
use Prim.Native.Nat.{ℕ, zero, suc, ◌+◌, ◌*◌, ◌/◌, ◌%◌, ◌^◌, ◌<◌}
use Rattle.coder.proofs.Backward.{Pointed}
use Rattle.coder.proofs.Reversal.{reversed_twice}
use Rattle.coder.proofs.Spans.{dynamic_cases}
use Rattle.coder.proofs.Weights.{symbol_part}
use Rattle.coder.specs.Histogram.{Histogram, span_of, sum}
use Rattle.coder.specs.Interval.{after_symbol, largest_range, target}
use Rattle.coder.specs.declared.interval.Coder.{Coder}
use Rattle.coder.specs.declared.interval.Span.{Span}
use Rattle.coder.specs.Stream.{Stream}
use Rattle.coder.specs.Symbols.{after_symbols, dynamic_after, dynamic_spans, plain_spans, reversed, static_span, static_spans}
use Rattle.coder.specs.Values.{next_symbol, read_after, read_dynamic, read_plain, read_static, read_symbol, symbol_after, symbol_value}
use Rattle.coder.specs.declared.read.Found.{Found}
use Rattle.coder_theorems.specs.Runs.{escape_after, escape_spans}
use lib.Dec.{leb}
use mathlib.Core.Bool.{Bool, true, false}
use mathlib.Core.List.{List, [], ◌∷◌}
use mathlib.Core.Path.{◌≡◌}
use native.Mathlib.Nat.{div-lt_iff_lt-mul, pow-suc}
use native.Mathlib.Omega.{arith}

-- a value that was found, and the state after its symbols
abbrev pub finding : ℕ → Coder → List Span → Found
finding v s symbols = record { value = v; state = after_symbols s symbols }

-- ---- plain bytes

-- The bytes' symbols give back the number.
pub plain_found : (n v : ℕ) (x : Stream) (s : Coder) → v < 256 ^ n → Pointed s x (plain_spans n v) → read_plain n x s ≡ finding v s (plain_spans n v)
unfolding read_plain plain_spans after_symbols
plain_found zero v x s h p = λ i. record { value = (let e : 0 ≡ v = omega arith in e) i; state = s }
plain_found (suc n) v x s h p =
    let b : ℕ = v % 256 in
    let q : target s x 256 ≡ reversed 8 b = omega (arith, p.0, p.1) in
    let small : v / 256 < 256 ^ n = (div-lt_iff_lt-mul {k = 256} (omega arith)).1 (rw pow-suc at h) in
    let rest = plain_found n (v / 256) x (after_symbol s (static_span 256 (reversed 8 b))) small p.2 in
    let whole : b + 256 * (v / 256) ≡ v = omega arith in
    rw (q, rest, reversed_twice b (omega arith), whole)

-- ---- a static range

-- So do those of a static range.
pub static_found : (range v : ℕ) (x : Stream) (s : Coder) → v < 256 ^ 4 → Pointed s x (static_spans range v)
    → read_static range x s ≡ finding v s (static_spans range v)
unfolding static_spans read_static after_symbols
static_found range v x s h p = go (leb range largest_range) p
  where
    go : (t : Bool) → Pointed s x (elim t [ true ↦ static_span range v ∷ [] | false ↦ plain_spans 4 v ])
        → ◌≡◌ {A = Found} (elim t [ true ↦ symbol_value range x s | false ↦ read_plain 4 x s ])
        (finding v s (elim t [ true ↦ static_span range v ∷ [] | false ↦ plain_spans 4 v ]))
    go true p = let q : target s x range ≡ v = omega (arith, p.0, p.1) in rw q
    go false p = plain_found 4 v x s h p

-- ---- a dynamic context

-- the symbol that a reader is pointed to is the next
symbol_found : (h : Histogram) (k : ℕ) (x : Stream) (s : Coder) → Pointed s x (span_of h k ∷ []) → next_symbol h x s ≡ k
unfolding span_of
symbol_found h k x s p = symbol_part h k (target s x (sum h)) p.0 p.1

-- So do those of an escaped value, seen or not, and the histogram after them is the one that the writer left.
pub escape_found : (h : Histogram) (v : ℕ) (x : Stream) (s : Coder) → v < 256 ^ 4 → Pointed s x (escape_spans h v)
    → (read_dynamic h x s ≡ finding v s (escape_spans h v)) × (read_after h x s ≡ escape_after h v)
unfolding read_dynamic read_after read_symbol symbol_after after_symbols
escape_found h v x s b p =
    let k = symbol_found h 0 x s (p.0, p.1, tt) in
    let e = plain_found 4 v x (after_symbol s (span_of h 0)) b p.2 in
    (rw (k, read_symbol) e, rw (k, symbol_after, read_symbol, e))

-- So do those of a dynamic context.
pub dynamic_found : (h : Histogram) (v : ℕ) (x : Stream) (s : Coder) → v < 256 ^ 4 → Pointed s x (dynamic_spans h v)
    → (read_dynamic h x s ≡ finding v s (dynamic_spans h v)) × (read_after h x s ≡ dynamic_after h v)
unfolding read_dynamic read_after read_symbol symbol_after after_symbols
dynamic_found h v x s b =
    dynamic_cases (λ (symbols : List Span) (after : Histogram).
    Pointed s x symbols → (read_dynamic h x s ≡ finding v s symbols) × (read_after h x s ≡ after)) h v
    (escape_found h v x s b)
    (λ some p. let k = symbol_found h (suc v) x s p in (rw (k, read_symbol), rw (k, symbol_after)))
