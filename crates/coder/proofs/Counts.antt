-- The reader for runs of numbers, at no fault and at one; and with a total that is the frequencies' sum, where it answers as the judged
-- reader does but for the pending bits: a part found quickly is the one that the sum leads to.
use Rattle.std.proofs.Common.{◌≡◌, ℕ, zero, suc, ◌+◌, ◌-◌, ◌*◌, ◌<◌, ◌≤◌, ◌⊎◌, inl, inr, Bool, true, false, cond, ◌&&◌, eqb, ltb, leb, List, length, get_or, take, sym, refl, ap, ◌∙◌, arith, ltb-true, le-ltb, lt-ltb, eq-eqb, ne_eqb, le-leb, leb-true}
use Rattle.coder.proofs.Found.{LeadsOn, leads_symbol, symbol_at_found}
use Rattle.coder.proofs.Raising.{read_raised}
use Rattle.coder.proofs.Starting.{read_fault_lem}
use Rattle.coder.proofs.Streams.{bit_binary}
use Rattle.coder.proofs.Tests.{and_both}
use Rattle.coder.proofs.Weights.{added_one}
use Rattle.coder.specs.Bytes.{bit_at}
use Rattle.coder.specs.Forms.{unless}
use Rattle.coder.specs.Histogram.{Histogram, WellFormedHistogram, add_at, below_full, histogram_formed, largest_total, part_fits, raised, span_in, span_of, sum, symbol_at, thinned, values}
use Rattle.coder.specs.Inside.{Quick, context_number, found_as, quick_counted, summed_counted}
use Rattle.coder.specs.Interval.{Codable, Coder, after_symbol, target}
use Rattle.coder.specs.Reading.{Taken, read_fault, read_number, take_number, taken}
use Rattle.coder.specs.Stream.{Stream}
use Rattle.coder.specs.Totals.{Counted, counted_as, quick_symbol, take_by, take_counted, take_quick, take_summed}
use Rattle.coder.specs.Values.{Found, next_symbol, read_after, read_dynamic, read_symbol, symbol_after}
use Rattle.coder.specs.Writing.{kept}
use Rattle.fields.specs.Numbers.{bad_state, truncated}
use borrow.Author.Tests.{lt-leb}
use mathlib.Core.Bool.{false≢true}

-- ---- a call at a fault, and at none

-- a refusal leaves what was lent
abbrev refused_with : ℕ → Coder → Histogram → ℕ → Counted
refused_with n s h total = record { result = record { number = n; done = false; value = 0; state = s }; histogram = h; total = total }

pub counted_refused : {n m : ℕ} {s : Coder} (found : Found) (later h : Histogram) (after total : ℕ) → (n ≡ 0 → ⊥) → n ≡ m
    → refused_with n s h total ≡ counted_as m found s later h after total
unfolding counted_as taken
counted_refused {n} {m} {s} found later h after total some same = go n some ∙ ap (λ (k : ℕ). counted_as k found s later h after total) same
  where
    go : (k : ℕ) → (k ≡ 0 → ⊥)
        → refused_with k s h total ≡ counted_as k found s later h after total
    go zero other = absurd (other refl)
    go (suc k) other = refl

module _ (total : ℕ) (h : Histogram) (d : List ℕ) (s : Coder) (fault : ℕ) (judged : fault ≡ read_fault false d s) where
  pub counted_fault : (fault ≡ 0 → ⊥)
      → refused_with fault s h total ≡ take_counted total h d s
  unfolding take_counted take_by take_summed take_quick take_number
  counted_fault some = go (quick_symbol total h (bit_at d) s)
    where
      go : (k : ℕ) → refused_with fault s h total ≡ take_by k total h d s
      go zero = counted_refused _ _ h _ total some (read_fault_lem false d s _ true _ _ fault judged some)
      go (suc v) = counted_refused _ _ h _ total some (read_fault_lem false d s true true _ _ fault judged some)

  module _ (none : fault ≡ 0) where
    number_left : (context_good : Bool) (found : Found)
        → unless context_good bad_state (context_number (length d) found) ≡ take_number false context_good d s found
    unfolding take_number read_number
    number_left context_good found = rw (sym judged ∙ none)

    pub counted_summed : quick_symbol total h (bit_at d) s ≡ 0 → summed_counted d s h total ≡ take_counted total h d s
    unfolding take_counted take_by take_summed
    counted_summed e = rw (e, number_left (eqb (sum h) total && histogram_formed h) (read_dynamic h (bit_at d) s))

    pub counted_quick : (k : ℕ) → k ≡ quick_symbol total h (bit_at d) s → (k ≡ 0 → ⊥) → quick_counted (length d) s h total k ≡ take_counted total h d s
    unfolding take_counted take_by take_quick
    counted_quick zero e some = absurd (some refl)
    counted_quick (suc v) e some =
        let less : suc v - 1 ≡ v = omega arith in
        rw (← e, less, take_by, ← number_left true (found_as v (after_symbol s (span_in total h (suc v)))))

-- ---- the symbol found quickly

-- a total of 0, and one that is full
pub not_below : (total : ℕ) → (total < 1) ⊎ ((1 ≤ total) × (largest_total ≤ total)) → below_full total ≡ false
unfolding below_full
not_below total (inl none) = rw (lt-leb 1 total none)
not_below total (inr (some, full)) = rw (le-leb 1 total some, le-ltb total largest_total full)

-- its tests
pub record Fit (total : ℕ) (h : Histogram) (k : ℕ) : Type 0 where
  pub escape : 1 ≤ get_or h 0 0
  pub below : total < largest_total
  pub value : 0 < k
  pub inside : k < length h
  pub within : sum (take k h) + get_or h k 0 ≤ total

below_true : (total : ℕ) → below_full total ≡ true → (1 ≤ total) × (total < largest_total)
unfolding below_full
below_true total e = let a = and_both (leb 1 total) _ e in (leb-true _ _ a.0, ltb-true _ _ a.1)

fit : (total : ℕ) (h : Histogram) (k : ℕ) → below_full total ≡ true → part_fits total h k ≡ true → Fit total h k
unfolding part_fits
fit total h k e p =
    let a = and_both (leb 1 (get_or h 0 0)) _ p in
    let b = and_both (ltb 0 k) _ a.1 in
    let f = and_both (ltb k (length h)) _ b.1 in
    record {
      escape = leb-true _ _ a.0;
      below = (below_true total e).1;
      value = ltb-true _ _ b.0;
      inside = ltb-true _ _ f.0;
      within = leb-true _ _ f.1;
    }

-- a symbol that is quick is the one that the total leads to
pub quick_fit : (total : ℕ) (h : Histogram) (d : List ℕ) (s : Coder) (v : ℕ) → quick_symbol total h (bit_at d) s ≡ suc v
    → (symbol_at h (target s (bit_at d) total) ≡ suc v) × Fit total h (suc v)
unfolding quick_symbol
quick_fit total h d s v e = go (below_full total && part_fits total h k) refl e
  where
    k : ℕ
    k = symbol_at h (target s (bit_at d) total)

    go : (t : Bool) → (below_full total && part_fits total h k) ≡ t → cond t k 0 ≡ suc v → (k ≡ suc v) × Fit total h (suc v)
    go true f g = let both = and_both (below_full total) _ f in (g, rw g at (fit total h k both.0 both.1))
    go false f g = absurd (omega (arith, g))

module _ (total : ℕ) (h : Histogram) (x : Stream) (s : Coder) where
  pub none_quick : below_full total ≡ false → 0 ≡ quick_symbol total h x s
  unfolding quick_symbol
  none_quick e = rw e

  module _ (place k : ℕ) (at : place ≡ target s x total) (found : k ≡ symbol_at h place) (some : 1 ≤ total) (few : total < largest_total) where
    below : below_full total ≡ true
    unfolding below_full
    below = rw (le-leb 1 total some, lt-ltb total largest_total few)

    led : k ≡ symbol_at h (target s x total)
    led = found ∙ ap (symbol_at h) at

    pub unfit_quick : part_fits total h k ≡ false → 0 ≡ quick_symbol total h x s
    unfolding quick_symbol
    unfit_quick p = rw (← led, below, p)

    pub fit_quick : (start : ℕ) → start ≡ sum (take k h) → part_fits total h k ≡ true → Quick total h x s k start
    unfolding quick_symbol
    fit_quick start sums p =
        let f = fit total h k below p in
        let part = rw (← found) at (symbol_at_found h place (rw (← found) f.inside)) in
        record {
          same = rw (← led, below, p);
          before_it = sums;
          some = f.value;
          inside = f.inside;
          below = f.below;
          codable = record { some = omega (arith, part.from_start, part.to_end); within = f.within; small = omega (arith, f.below) };
        }

-- it leads the reader on
pub quick_on : (total : ℕ) (h : Histogram) (d : List ℕ) (s : Coder) (v : ℕ) → quick_symbol total h (bit_at d) s ≡ suc v
    → LeadsOn d s true true (found_as v (after_symbol s (span_in total h (suc v))))
quick_on total h d s v e c g r =
    let q = quick_fit total h d s v e in
    let f = q.1 in
    let part = rw q.0 at (symbol_at_found h (target s (bit_at d) total) (rw q.0 f.inside)) in
    let codable : Codable (span_in total h (suc v))
    = record { some = omega (arith, part.from_start, part.to_end); within = f.within; small = omega (arith, f.below) } in
    leads_symbol (bit_at d) (bit_binary d) s (span_in total h (suc v)) r codable part.from_start part.to_end

-- its value: 1 where the settled bits pass the end, else done; only its frequency rises
module _ (len : ℕ) (s : Coder) (h : Histogram) (total k start : ℕ) (next : Coder) (sums : start ≡ sum (take k h))
    (after : next ≡ after_symbol s (record { start = start; weight = get_or h k 0; total = total })) where
  then_next : next ≡ after_symbol s (span_in total h k)
  then_next = after ∙ ap (λ (n : ℕ). after_symbol s (record { start = n; weight = get_or h k 0; total = total })) sums

  pub quick_cut : 8 * len < next.settled
      → refused_with truncated s h total ≡ quick_counted len s h total k
  unfolding counted_as taken
  quick_cut past = rw (← then_next, lt-leb next.settled (8 * len) past)

  pub quick_done : next.settled ≤ 8 * len → k - 1 < values
      → record { result = record { number = 0; done = true; value = k - 1; state = next }; histogram = add_at h k; total = total + 1 } ≡ quick_counted len s h total k
  unfolding counted_as taken
  quick_done within below = rw (← then_next, le-leb next.settled (8 * len) within, lt-ltb (k - 1) values below)

-- ---- the frequencies added up

-- an answer tells by itself whether it is done
module _ (found : Found) (s : Coder) (later h : Histogram) (total : ℕ) where
  left_refused : (n : ℕ) (t : Taken) (g : Histogram) → t ≡ taken n found s → g ≡ kept n later h → t.done ≡ false
      → record { result = t; histogram = g; total = total } ≡ counted_as n found s later h (sum later) total
  unfolding counted_as taken
  left_refused zero t g e f not_done = absurd (false≢true (sym not_done ∙ ap (λ (u : Taken). u.done) e))
  left_refused (suc n) t g e f not_done = rw (e, f)

  left_done : (n : ℕ) (t : Taken) (g : Histogram) → t ≡ taken n found s → g ≡ kept n later h → t.done ≡ true
      → record { result = t; histogram = g; total = sum g } ≡ counted_as n found s later h (sum later) total
  unfolding counted_as taken
  left_done zero t g e f done = rw (e, f)
  left_done (suc n) t g e f done = absurd (false≢true (sym (ap (λ (u : Taken). u.done) e) ∙ done))

module _ (d : List ℕ) (s : Coder) (h : Histogram) (total : ℕ) where
  pub summed_unlike : (sum h ≡ total → ⊥)
      → refused_with bad_state s h total ≡ summed_counted d s h total
  summed_unlike unlike = counted_refused _ _ h _ total (λ e. omega arith) (rw (ne_eqb (sum h) total unlike))

  module _ (same : sum h ≡ total) where
    pub summed_unformed : histogram_formed h ≡ false
        → refused_with bad_state s h total ≡ summed_counted d s h total
    summed_unformed bad = counted_refused _ _ h _ total (λ e. omega arith) (rw (eq-eqb (sum h) total same, bad))

    module _ (formed : histogram_formed h ≡ true) (t : Taken) (g : Histogram)
        (took : t ≡ taken (context_number (length d) (read_dynamic h (bit_at d) s)) (read_dynamic h (bit_at d) s) s)
        (rose : g ≡ kept (context_number (length d) (read_dynamic h (bit_at d) s)) (read_after h (bit_at d) s) h) where
      pub summed_refused : t.done ≡ false → record { result = t; histogram = g; total = total } ≡ summed_counted d s h total
      summed_refused e = rw (eq-eqb (sum h) total same, formed) (left_refused _ s _ h total _ t g took rose e)

      pub summed_done : t.done ≡ true → record { result = t; histogram = g; total = sum g } ≡ summed_counted d s h total
      summed_done e = rw (eq-eqb (sum h) total same, formed) (left_done _ s _ h total _ t g took rose e)

-- the new total is small
pub rose_small : (d : List ℕ) (s : Coder) (h g : Histogram) → WellFormedHistogram h
    → g ≡ kept (context_number (length d) (read_dynamic h (bit_at d) s)) (read_after h (bit_at d) s) h → sum g ≤ largest_total
rose_small d s h g w e = go (context_number (length d) (read_dynamic h (bit_at d) s)) e
  where
    go : (n : ℕ) → g ≡ kept n (read_after h (bit_at d) s) h → sum g ≤ largest_total
    go zero f = rw f (read_raised h (bit_at d) s w).bounded
    go (suc n) f = rw f w.bounded

-- ---- with the total that is the sum

kept-sum : (n : ℕ) (later h : Histogram) → kept n (sum later) (sum h) ≡ sum (kept n later h)
kept-sum zero later h = refl
kept-sum (suc n) later h = refl

-- what such an answer is
abbrev told : ℕ → Found → Coder → Histogram → Histogram → Counted
told n found s later h = record { result = taken n found s; histogram = kept n later h; total = sum (kept n later h) }

counted_told : (n : ℕ) (found : Found) (s : Coder) (later h : Histogram) → counted_as n found s later h (sum later) (sum h) ≡ told n found s later h
unfolding counted_as
counted_told n found s later h = rw (kept-sum n later h)

summed_same : (h : Histogram) (d : List ℕ) (s : Coder)
    → take_summed (sum h) h d s ≡ told (take_number false (histogram_formed h) d s (read_dynamic h (bit_at d) s)) (read_dynamic h (bit_at d) s) s (read_after h (bit_at d) s) h
unfolding take_summed
summed_same h d s = rw (eq-eqb (sum h) (sum h) refl) (counted_told _ _ s _ h)

-- the histogram is well formed, the value found is the symbol's, and only its frequency rises
quick_same : (h : Histogram) (d : List ℕ) (s : Coder) (v : ℕ) → (next_symbol h (bit_at d) s ≡ suc v) × Fit (sum h) h (suc v)
    → take_quick v (sum h) h d s ≡ told (take_number false (histogram_formed h) d s (read_dynamic h (bit_at d) s)) (read_dynamic h (bit_at d) s) s (read_after h (bit_at d) s) h
unfolding take_quick read_dynamic read_symbol read_after symbol_after raised thinned span_of histogram_formed
quick_same h d s v (e, f) =
    let formed : leb (sum h) largest_total ≡ true = le-leb (sum h) largest_total (omega (arith, f.below)) in
    let rest : leb largest_total (sum h) ≡ false = lt-leb _ _ f.below in
    rw (e, le-leb _ _ f.escape, formed, rest, ← added_one h (suc v) f.inside) (counted_told _ _ s _ h)

-- A total that is the sum leads to the judged reader's answer, but for the pending bits.
pub sum_counted : (h : Histogram) (d : List ℕ) (s : Coder)
    → take_counted (sum h) h d s ≡ told (take_number false (histogram_formed h) d s (read_dynamic h (bit_at d) s)) (read_dynamic h (bit_at d) s) s (read_after h (bit_at d) s) h
unfolding take_counted take_by
sum_counted h d s = go (quick_symbol (sum h) h (bit_at d) s) refl
  where
    go : (k : ℕ) → quick_symbol (sum h) h (bit_at d) s ≡ k
        → take_by k (sum h) h d s ≡ told (take_number false (histogram_formed h) d s (read_dynamic h (bit_at d) s)) (read_dynamic h (bit_at d) s) s (read_after h (bit_at d) s) h
    go zero e = summed_same h d s
    go (suc v) e = quick_same h d s v (quick_fit (sum h) h d s v e)
