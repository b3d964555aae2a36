-- The reader for runs of numbers answers as the judged one, from a fresh state on: no bits are pending there, and each call, done or
-- refused, hands out a state where they are inverted, and totals that are the histograms' sums.
use Prim.Native.Nat.{ℕ, zero, suc}
use Rattle.coder.proofs.Counts.{sum_counted}
use Rattle.coder.proofs.Found.{LeadsOn, dynamic_on, plain_on, range_on}
use Rattle.coder.proofs.Judgements.{inverted_hold, read_passed}
use Rattle.coder.specs.Bytes.{bit_at}
use Rattle.coder.specs.Histogram.{Histogram, histogram_formed, sum}
use Rattle.coder.specs.Interval.{Inverted, fresh}
use Rattle.coder.specs.declared.interval.Coder.{Coder}
use Rattle.coder.specs.Reading.{read_fault, read_number, take_dynamic, take_number, take_plain, take_static, taken, taken_histogram}
use Rattle.coder_theorems.specs.Runs.{Context, Histograms, ReadCall, call_read, call_take, dynamic, plain, read_calls, static, take_calls, with_totals}
use Rattle.coder.specs.Totals.{take_counted}
use Rattle.coder.specs.Values.{read_dynamic, read_plain, read_static}
use Rattle.coder.specs.declared.read.Found.{Found}
use lib.Dec.{ltb}
use lib.ListN.{get_or-map, get_or, set}
use mathlib.Core.Bool.{Bool, true, false}
use mathlib.Core.List.{List, [], ◌∷◌, map}
use mathlib.Core.Path.{◌≡◌, ap, refl}
use native.Mathlib.Nat.{not-suc-le-zero}

-- ---- a call keeps the pending bits inverted

module _ (d : List ℕ) (s : Coder) (context_good range_good : Bool) (found : Found) (value_good : Bool) where
  abbrev judged : ℕ
  judged = read_number true d s context_good range_good found.state.settled value_good

  -- a value handed out leads on, and a refusal hands out the state that was handed in
  taken_inverted : LeadsOn d s context_good range_good found → Inverted s (bit_at d) → Inverted (taken judged found s).state (bit_at d)
  unfolding taken
  taken_inverted on v = go judged refl
    where
      go : (n : ℕ) → judged ≡ n → Inverted (taken n found s).state (bit_at d)
      go zero e =
          let p = read_passed true d s context_good range_good found.state.settled value_good e in
          (on p.context p.range p.readable.reading).inverted v
      go (suc n) e = v

pub call_inverted : (d : List ℕ) (s : Coder) (hs : Histograms) (c : Context) → Inverted s (bit_at d) → Inverted (call_read d s hs c).result.state (bit_at d)
unfolding call_read take_plain take_static take_dynamic take_number
call_inverted d s hs (plain n) v = taken_inverted d s true true (read_plain n (bit_at d) s) true (plain_on n d s) v
call_inverted d s hs (static range) v = taken_inverted d s true (ltb 0 range) (read_static range (bit_at d) s) _ (range_on range d s) v
call_inverted d s hs (dynamic k) v =
    let h = get_or hs k [] in
    taken_inverted d s (histogram_formed h) true (read_dynamic h (bit_at d) s) _ (dynamic_on h d s) v

-- ---- where they are, both judge alike

pub fault_same : (d : List ℕ) (s : Coder) → Inverted s (bit_at d) → read_fault false d s ≡ read_fault true d s
unfolding read_fault
fault_same d s v = rw (inverted_hold s (bit_at d) v)

number_same : (context_good : Bool) (d : List ℕ) (s : Coder) (found : Found) → Inverted s (bit_at d)
    → take_number false context_good d s found ≡ take_number true context_good d s found
unfolding take_number read_number
number_same context_good d s found v = rw (fault_same d s v)

-- in a dynamic context, with the total that is the sum
pub counted_same : (h : Histogram) (d : List ℕ) (s : Coder) → Inverted s (bit_at d)
    → take_counted (sum h) h d s ≡ record { result = take_dynamic h d s; histogram = taken_histogram h d s; total = sum (taken_histogram h d s) }
unfolding take_dynamic taken_histogram
counted_same h d s v = rw (sum_counted h d s, number_same (histogram_formed h) d s (read_dynamic h (bit_at d) s) v)

sums_at : (hs : Histograms) (k : ℕ) → get_or (map sum hs) k 0 ≡ sum (get_or hs k [])
unfolding sum
sums_at hs k = get_or-map sum hs k []

pub map_set : {A B : Type 0} (f : A → B) (l : List A) (k : ℕ) (a : A) → set (map f l) k (f a) ≡ map f (set l k a)
map_set f [] k a = refl
map_set f (x ∷ l) zero a = refl
map_set {B = B} f (x ∷ l) (suc k) a = ap (λ (m : List B). f x ∷ m) (map_set f l k a)

pub call_same : (d : List ℕ) (s : Coder) (hs : Histograms) (c : Context) → Inverted s (bit_at d)
    → call_take d s hs (map sum hs) c ≡ with_totals (call_read d s hs c)
unfolding call_take call_read take_plain take_static read_number
call_same d s hs (plain n) v = rw (fault_same d s v)
call_same d s hs (static range) v = rw (fault_same d s v)
call_same d s hs (dynamic k) v =
    rw (sums_at hs k, counted_same (get_or hs k []) d s v, map_set sum hs k (taken_histogram (get_or hs k []) d s))

calls_same : (d : List ℕ) (s : Coder) (hs : Histograms) (cs : List Context) → Inverted s (bit_at d)
    → take_calls d s hs (map sum hs) cs ≡ map with_totals (read_calls d s hs cs)
unfolding take_calls read_calls
calls_same d s hs [] v = refl
calls_same d s hs (c ∷ cs) v =
    let r : ReadCall = call_read d s hs c in
    rw (call_same d s hs c v, calls_same d r.result.state r.histograms cs (call_inverted d s hs c v))

-- The calls of the reader for runs give what those of the judged one do, whatever the data, the histograms and the contexts are, refused
-- calls among them; and its totals stay the sums of the histograms.
pub inner_is_judged : (d : List ℕ) (hs : Histograms) (cs : List Context)
    → take_calls d fresh hs (map sum hs) cs ≡ map with_totals (read_calls d fresh hs cs)
inner_is_judged d hs cs = calls_same d fresh hs cs (λ i h. absurd (not-suc-le-zero h))
