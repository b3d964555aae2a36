-- A histogram whose weight is raised is well formed again: a total at its most is halved first, and escape keeps a weight.
use Rattle.std.proofs.Common.{◌≡◌, ℕ, zero, suc, ◌+◌, ◌<◌, ◌≤◌, Bool, true, false, cond, leb, List, [], ◌∷◌, map, get_or, refl, add-one, arith, leb-false}
use Rattle.coder.proofs.Spans.{dynamic_cases}
use Rattle.coder.proofs.Weights.{added, halved_half}
use Rattle.coder.specs.Histogram.{Histogram, WellFormedHistogram, add_at, halve, largest_total, raised, sum, thinned}
use Rattle.coder.specs.Interval.{Coder, Span}
use Rattle.coder.specs.Stream.{Stream}
use Rattle.coder.specs.Symbols.{dynamic_after}
use Rattle.coder.specs.Values.{read_after, symbol_after}

-- an added weight leaves escape's or raises it
escape_added : (h : Histogram) (k : ℕ) → get_or h 0 0 ≤ get_or (add_at h k) 0 0
escape_added [] k = omega arith
escape_added (w ∷ h) zero = omega arith
escape_added (w ∷ h) (suc k) = omega arith

-- escape's own
escape_some : (h : Histogram) → 1 ≤ get_or h 0 0 → 1 ≤ get_or (add_at (map halve h) 0) 0 0
escape_some [] e = e
escape_some (w ∷ h) e = omega arith

-- a histogram with room for one more
pub record Roomy (h : Histogram) : Type 0 where
  pub escape : 1 ≤ get_or h 0 0
  pub below : sum h < largest_total

pub thinned_roomy : (h : Histogram) → WellFormedHistogram h → Roomy (thinned h)
unfolding thinned
thinned_roomy h w = go (leb largest_total (sum h)) refl
  where
    go : (t : Bool) → leb largest_total (sum h) ≡ t → Roomy (cond t (add_at (map halve h) 0) h)
    go true e = record { escape = escape_some h w.escape; below = omega (arith, added (map halve h) 0, halved_half h) }
    go false e = record { escape = w.escape; below = leb-false _ _ e }

-- A well-formed histogram stays so when a weight is raised.
pub raised_formed : (h : Histogram) (k : ℕ) → WellFormedHistogram h → WellFormedHistogram (raised h k)
unfolding raised
raised_formed h k w = omega (arith, thinned_roomy h w, escape_added (thinned h) k, added (thinned h) k)

-- after a value written, and after one read
pub written-raised : (h : Histogram) (v : ℕ) → WellFormedHistogram h → WellFormedHistogram (dynamic_after h v)
written-raised h v w =
    dynamic_cases (λ (symbols : List Span) (after : Histogram). WellFormedHistogram after) h v
    (raised_formed (raised h 0) (suc v) (raised_formed h 0 w))
    (λ some. raised_formed h (suc v) w)

symbol_raised : (h : Histogram) (k v : ℕ) → WellFormedHistogram h → WellFormedHistogram (symbol_after h k v)
unfolding symbol_after
symbol_raised h zero v w = raised_formed (raised h 0) (suc v) (raised_formed h 0 w)
symbol_raised h (suc k) v w = raised_formed h (suc k) w

pub read_raised : (h : Histogram) (x : Stream) (s : Coder) → WellFormedHistogram h → WellFormedHistogram (read_after h x s)
unfolding read_after
read_raised h x s w = symbol_raised h _ _ w

-- after a symbol: an escape and the value that follows it rise, or the symbol alone
pub escape_after : (h : Histogram) (k v : ℕ) → k ≡ 0 → raised (raised h k) (v + 1) ≡ symbol_after h k v
unfolding symbol_after
escape_after h k v e = rw (e, add-one)

pub value_after : (h : Histogram) (k v : ℕ) → (k ≡ 0 → ⊥) → raised h k ≡ symbol_after h k v
unfolding symbol_after
value_after h zero v e = absurd (e refl)
value_after h (suc k) v e = refl
