-- The frequencies of a dynamic context are as many after a call as before it.
use Prim.Native.Nat.{ℕ, zero, suc}
use mathlib.Core.Bool.{Bool, true, false, cond}
use mathlib.Core.Path.{◌≡◌, ◌∙◌, refl}
use mathlib.Core.List.{List, map}
use lib.Dec.{leb}
use lib.ListN.{length, length-map, length-set}
use Rattle.coder.proofs.Spans.{dynamic_cases}
use Rattle.coder.specs.Bytes.{bit_at}
use Rattle.coder.specs.Histogram.{Histogram, add_at, halve, histogram_formed, largest_total, raised, sum, thinned}
use Rattle.coder.specs.Reading.{take_number, taken_histogram}
use Rattle.coder.specs.Symbols.{dynamic_after}
use Rattle.coder.specs.Values.{next_symbol, read_after, read_dynamic, symbol_after}
use Rattle.coder.specs.Writing.{dynamic_number, kept, written_histogram}
use Rattle.coder.specs.declared.interval.Coder.{Coder}
use Rattle.coder.specs.declared.interval.Span.{Span}
use Rattle.coder.specs.declared.write.Writer.{Writer}

raised_length : (h : Histogram) (k : ℕ) → length (raised h k) ≡ length h
unfolding raised thinned
raised_length h k = length-set (thinned h) k _ ∙ go (leb largest_total (sum h))
  where
    go : (b : Bool) → length (cond b (add_at (map halve h) 0) h) ≡ length h
    go true = length-set (map halve h) 0 _ ∙ length-map h halve
    go false = refl

kept_length : (n : ℕ) (later h : Histogram) → length later ≡ length h → length (kept n later h) ≡ length h
kept_length zero later h e = e
kept_length (suc n) later h e = refl

pub written_length : (h : Histogram) (l : List ℕ) (w : Writer) (v : ℕ) → length (written_histogram h l w v) ≡ length h
unfolding written_histogram
written_length h l w v =
    kept_length (dynamic_number h l w v) (dynamic_after h v) h
    (dynamic_cases (λ (spans : List Span) (after : Histogram). length after ≡ length h) h v
    (raised_length (raised h 0) (suc v) ∙ raised_length h 0) (λ some. raised_length h (suc v)))

pub taken_length : (h : Histogram) (d : List ℕ) (s : Coder) → length (taken_histogram h d s) ≡ length h
unfolding taken_histogram read_after symbol_after
taken_length h d s =
    kept_length (take_number true (histogram_formed h) d s (read_dynamic h (bit_at d) s)) (read_after h (bit_at d) s) h (go (next_symbol h (bit_at d) s))
  where
    go : (k : ℕ) → length (symbol_after h k (read_dynamic h (bit_at d) s).value) ≡ length h
    go zero = raised_length (raised h 0) _ ∙ raised_length h 0
    go (suc k) = raised_length h (suc k)
