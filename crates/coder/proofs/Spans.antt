-- The symbols that a number is written as are codable, so that the limits after them are well formed.
use Rattle.std.proofs.Common.{◌≡◌, ℕ, zero, suc, ◌/◌, ◌<◌, ◌≤◌, Bool, true, false, eqb, leb, List, [], ◌∷◌, get_or, refl, arith, leb-true}
use Rattle.coder.proofs.Limits.{after_wellformed}
use Rattle.coder.proofs.Sequence.{byte_codable}
use Rattle.coder.proofs.Weights.{span_codable, weight_inside}
use Rattle.coder.specs.Histogram.{Histogram, WellFormedHistogram, raised, span_of}
use Rattle.coder.specs.Interval.{Codable, Coder, Span, WellFormed, after_symbol, largest_range}
use Rattle.coder.specs.Symbols.{after_symbols, dynamic_after, dynamic_spans, plain_spans, static_span, static_spans}
use borrow.Author.Tests.{eqb-false}

-- every symbol of a list can be coded
abbrev pub AllCodable : List Span → Type 0
AllCodable [] = Unit {0}
AllCodable (a ∷ more) = Codable a × AllCodable more

-- The limits after symbols that can be coded are well formed.
pub all_wellformed : (spans : List Span) (s : Coder) → WellFormed s → AllCodable spans → WellFormed (after_symbols s spans)
unfolding after_symbols
all_wellformed [] s w c = w
all_wellformed (a ∷ more) s w c = all_wellformed more (after_symbol s a) (after_wellformed s a w c.0) c.1

-- Plain bytes can be coded.
pub plain_codable : (n v : ℕ) → AllCodable (plain_spans n v)
unfolding plain_spans
plain_codable zero v = tt
plain_codable (suc n) v = (byte_codable v, plain_codable n (v / 256))

-- So can a value below its range.
pub range_codable : (range v : ℕ) → v < range → AllCodable (static_spans range v)
unfolding static_spans
range_codable range v h = go (leb range largest_range) refl
  where
    go : (t : Bool) → leb range largest_range ≡ t → AllCodable (elim t [ true ↦ static_span range v ∷ [] | false ↦ plain_spans 4 v ])
    go true e = (record { some = omega arith; within = omega arith; small = leb-true _ _ e }, tt)
    go false e = plain_codable 4 v

-- the two ways that a value can be written in a dynamic context: its symbols, and the histogram after it
pub dynamic_cases : (P : List Span → Histogram → Type 0) (h : Histogram) (v : ℕ) → P (span_of h 0 ∷ plain_spans 4 v) (raised (raised h 0) (suc v))
    → ((get_or h (suc v) 0 ≡ 0 → ⊥) → P (span_of h (suc v) ∷ []) (raised h (suc v))) → P (dynamic_spans h v) (dynamic_after h v)
unfolding dynamic_spans dynamic_after
dynamic_cases P h v escape known = go (eqb (get_or h (suc v) 0) 0) refl
  where
    go : (t : Bool) → eqb (get_or h (suc v) 0) 0 ≡ t
        → P (elim t [ true ↦ span_of h 0 ∷ plain_spans 4 v | false ↦ span_of h (suc v) ∷ [] ])
        (elim t [ true ↦ raised (raised h 0) (suc v) | false ↦ raised h (suc v) ])
    go true e = escape
    go false e = known (eqb-false _ _ e)

symbol_codable : (h : Histogram) (k : ℕ) → WellFormedHistogram h → 1 ≤ get_or h k 0 → Codable (span_of h k)
symbol_codable h k f some = span_codable h k f (weight_inside h k some) some

-- So can any value in a well-formed histogram.
pub dynamic_codable : (h : Histogram) (v : ℕ) → WellFormedHistogram h → AllCodable (dynamic_spans h v)
dynamic_codable h v f =
    dynamic_cases (λ (symbols : List Span) (after : Histogram). AllCodable symbols) h v
    (symbol_codable h 0 f f.escape, plain_codable 4 v)
    (λ some. (symbol_codable h (suc v) f (omega arith), tt))
