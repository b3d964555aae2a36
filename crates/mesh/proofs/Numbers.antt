-- The coder's numbers of a face: from a state whose pending bits are inverted, the reader for runs answers as the judged one, and hands out
-- such a state again.
use Rattle.std.specs.Prelude.{Result, Ok, Err}
use Prim.Native.Nat.{ℕ, ◌≤◌, ◌<◌}
use mathlib.Core.Path.{◌≡◌, ◌∙◌, ap, subst, sym}
use mathlib.Core.Bool.{false}
use mathlib.Core.List.{List, [], ◌∷◌}
use borrow.Author.Tests.{le-leb, lt-leb}
use Rattle.fields.specs.Judged.{done, refused}
use Rattle.fields.specs.Numbers.{fault_number, out_of_range}
use Rattle.coder.specs.Bytes.{bit_at}
use Rattle.coder.specs.Histogram.{Histogram, sum}
use Rattle.coder.specs.Interval.{Inverted}
use Rattle.coder.specs.Reading.{Taken, read_given, take_dynamic, take_static, taken_histogram}
use Rattle.coder.specs.Totals.{Counted, counted_given, take_counted}
use Rattle.coder.specs.declared.interval.Coder.{Coder}
use Rattle.coder.specs.declared.read.Found.{Found}
use Rattle.fields.specs.declared.refusal.Fault.{Fault}
use Rattle.coder_theorems.specs.Runs.{Histograms, TakeCall, call_read, call_take, static}
use Rattle.coder_theorems.proofs.Inner.{call_inverted, call_same, counted_same}
use Rattle.mesh.specs.Corners.{shading_context}
use Rattle.mesh.specs.Faces.{coded_number, shading_from}
use Rattle.mesh.specs.Inside.{ReadInverted, found_given}

-- a state that is handed out with a value is good where the judged call's is
pub read_inverted : (d : List ℕ) (s : Coder) (r : Result Found Fault) (t : Taken) → read_given s r ≡ t → Inverted t.state (bit_at d) → ReadInverted d r
read_inverted d s (Ok found) t e h = subst (λ (x : Coder). Inverted x (bit_at d)) (sym (ap (λ (u : Taken). u.state) e)) h
read_inverted d s (Err fault) t e h = tt

-- what was found is the judged call's number
pub found_same : (s : Coder) (r : Result Found Fault) {t : Taken} → read_given s r ≡ t → found_given r ≡ coded_number t
found_same s (Ok found) e = ap coded_number e
found_same s (Err fault) e = ap coded_number e

module _ (d : List ℕ) (s : Coder) (inverted : Inverted s (bit_at d)) where
  -- in a static range
  pub static_judged : (range : ℕ) → take_static false range d s ≡ (call_read d s [] (static range)).result
  unfolding call_take call_read
  static_judged range = ap (λ (c : TakeCall). c.result) (call_same d s [] (static range) inverted)

  pub static_inverted : (range : ℕ) → Inverted (call_read d s [] (static range)).result.state (bit_at d)
  static_inverted range = call_inverted d s [] (static range) inverted

  -- in the dynamic context, with the total that is its sum
  module _ (h later : Histogram) (total after : ℕ) (r : Result Found Fault) (same : total ≡ sum h) (e : counted_given s r later after ≡ take_counted total h d s) where
    counted : counted_given s r later after ≡ record { result = take_dynamic h d s; histogram = taken_histogram h d s; total = sum (taken_histogram h d s) }
    counted = rw same at e ∙ counted_same h d s inverted

    pub dynamic_judged : read_given s r ≡ (call_read d s (h ∷ []) shading_context).result
    unfolding call_read
    dynamic_judged = ap (λ (c : Counted). c.result) counted

    pub dynamic_inverted : ReadInverted d r
    dynamic_inverted = read_inverted d s r _ dynamic_judged (call_inverted d s (h ∷ []) shading_context inverted)

    pub dynamic_after : (later ≡ taken_histogram h d s) × (after ≡ sum later)
    dynamic_after =
        let f : later ≡ taken_histogram h d s = ap (λ (c : Counted). c.histogram) counted in
        (f, ap (λ (c : Counted). c.total) counted ∙ ap sum (sym f))

-- a shading id
module _ (count : ℕ) (hs : Histograms) (d : List ℕ) (s : Coder) where
  pub shading_refused : (fault : Fault) → read_given s (Err fault) ≡ (call_read d s hs shading_context).result
      → refused (fault_number fault) 0 ≡ shading_from count hs d s
  unfolding shading_from
  shading_refused fault e = rw (← e)

  module _ (found : Found) (e : read_given s (Ok found) ≡ (call_read d s hs shading_context).result) where
    pub shading_above : count ≤ found.value → refused out_of_range 0 ≡ shading_from count hs d s
    unfolding shading_from
    shading_above h = rw (← e, le-leb _ _ h)

    pub shading_read : found.value < count → done (record { value = found.value; state = found.state }) ≡ shading_from count hs d s
    unfolding shading_from
    shading_read h = rw (← e, lt-leb _ _ h)
