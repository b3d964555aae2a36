-- A reader that begins fresh is refused with 1 or 10 only, never with 9 or 18, as long as its bits can be counted: each call leads from a
-- state that it takes to another, and from well-formed histograms to well-formed ones.
use Prim.Native.Nat.{ℕ, zero, suc, ◌+◌, ◌*◌, ◌^◌, ◌≤◌, ◌<◌}
use Rattle.coder.proofs.Found.{LeadsOn, dynamic_on, plain_on, range_on}
use Rattle.coder.proofs.Judgements.{histogram_hold, histogram_true, looked_hold, read_passed, readable_hold}
use Rattle.coder.proofs.Limits.{after_grown}
use Rattle.coder.proofs.Raising.{read_raised}
use Rattle.coder.proofs.Streams.{bit_binary, word_below}
use Rattle.coder.specs.Bytes.{bit_at}
use Rattle.coder.specs.Forms.{unless}
use Rattle.coder.specs.Histogram.{Histogram, histogram_formed, span_of}
use Rattle.coder.specs.Inside.{Reading}
use Rattle.coder.specs.Interval.{Inverted, after_symbol, code, fresh, largest_range, target}
use Rattle.coder.specs.Reading.{Taken, read_fault, read_number, take_dynamic, take_number, take_plain, take_static, taken, taken_histogram}
use Rattle.coder.specs.Stream.{Stream}
use Rattle.coder.specs.Symbols.{static_span}
use Rattle.coder.specs.Values.{next_symbol, read_after, read_dynamic, read_plain, read_static, read_symbol, symbol_value}
use Rattle.coder.specs.Writing.{kept}
use Rattle.coder.specs.declared.interval.Coder.{Coder}
use Rattle.coder.specs.declared.read.Found.{Found}
use Rattle.coder_theorems.proofs.Doubling.{bits}
use Rattle.coder_theorems.specs.Runs.{Context, Histograms, ReadCall, call_read, dynamic, plain, read_calls, static}
use Rattle.coder_theorems.specs.Faults.{AllFormed, AllPresent, NoFault, NoneAtFault, Present, all_bits, most_bits}
use Rattle.fields.specs.Limits.{largest_file}
use Rattle.fields.specs.Numbers.{out_of_range, truncated}
use lib.Dec.{leb, ltb}
use lib.ListN.{get_or, length, length-set, set}
use mathlib.Core.Bool.{Bool, true, false}
use mathlib.Core.List.{List, [], ◌∷◌}
use mathlib.Core.Path.{◌≡◌, refl, ◌∙◌}
use native.Mathlib.Nat.{not-suc-le-zero}
use native.Mathlib.Omega.{arith}

-- ---- how far a value leads

plain_grown : (n : ℕ) (x : Stream) (s : Coder) → bits (read_plain n x s).state ≤ bits s + 32 * n
unfolding read_plain
plain_grown zero x s = omega arith
plain_grown (suc n) x s =
    let t : Coder = after_symbol s (static_span 256 (target s x 256)) in
    omega (arith, after_grown s (static_span 256 (target s x 256)), plain_grown n x t)

static_grown : (range : ℕ) (x : Stream) (s : Coder) → bits (read_static range x s).state ≤ bits s + 128
unfolding read_static
static_grown range x s = go (leb range largest_range)
  where
    go : (t : Bool) → bits (elim t as (λ _. Found) [ true ↦ symbol_value range x s | false ↦ read_plain 4 x s ]).state ≤ bits s + 128
    go true = omega (arith, after_grown s (static_span range (target s x range)))
    go false = omega (arith, plain_grown 4 x s)

dynamic_grown : (h : Histogram) (x : Stream) (s : Coder) → bits (read_dynamic h x s).state ≤ bits s + 160
unfolding read_dynamic read_symbol
dynamic_grown h x s = go (next_symbol h x s)
  where
    go : (k : ℕ) → bits (read_symbol h x s k).state ≤ bits s + 160
    go zero = omega (arith, after_grown s (span_of h 0), plain_grown 4 x (after_symbol s (span_of h 0)))
    go (suc v) = omega (arith, after_grown s (span_of h (suc v)))

-- ---- a call

-- a state that the reader takes, of so many bits
pub record Steady (d : List ℕ) (s : Coder) (used : ℕ) : Type 0 where
  pub small : length d ≤ largest_file
  pub reading : Reading s (bit_at d)
  pub inverted : Inverted s (bit_at d)
  pub few : bits s ≤ used

abbrev pub Sound : Taken → Type 0
Sound t = NoFault t.done t.number

left_sound : (a b c : Bool) (found : Found) (s : Coder) → Sound (taken (unless a out_of_range (unless b truncated (unless c out_of_range 0))) found s)
unfolding taken
left_sound false b c found s = refl
left_sound true false c found s = refl
left_sound true true false found s = refl
left_sound true true true found s = refl

module _ (d : List ℕ) (s : Coder) (used : ℕ) (st : Steady d s used) (countable : used < 2 ^ 32) (context_good range_good : Bool) (found : Found)
    (value_good : Bool) (good : context_good ≡ true) where
  abbrev number : ℕ
  number = read_number true d s context_good range_good found.state.settled value_good

  no_fault : read_fault true d s ≡ 0
  no_fault =
      readable_hold true d s
      (record {
        small = st.small;
        reading = st.reading;
        settled_small = omega (arith, st.few);
        pending_small = omega (arith, st.few);
        looked = looked_hold true s (bit_at d) st.inverted;
      })

  number_sound : Sound (taken number found s)
  unfolding read_number
  number_sound = rw (no_fault, good) (left_sound range_good (leb found.state.settled _) value_good found s)

  taken_steady : (more : ℕ) → LeadsOn d s context_good range_good found → bits found.state ≤ bits s + more
      → Steady d (taken number found s).state (used + more)
  unfolding taken
  taken_steady more on grown = go number refl
    where
      go : (n : ℕ) → number ≡ n → Steady d (taken n found s).state (used + more)
      go zero e =
          let p = read_passed true d s context_good range_good found.state.settled value_good e in
          let t = on good p.range st.reading in
          record { small = st.small; reading = t.reading; inverted = t.inverted st.inverted; few = omega (arith, st.few) }
      go (suc n) e = record { small = st.small; reading = st.reading; inverted = st.inverted; few = omega (arith, st.few) }

-- ---- histograms

pub formed_at : (hs : Histograms) (k : ℕ) → AllFormed hs → k < length hs → histogram_formed (get_or hs k []) ≡ true
unfolding AllFormed
formed_at [] k a h = absurd (omega arith)
formed_at (g ∷ hs) zero a h = a.0
formed_at (g ∷ hs) (suc k) a h = formed_at hs k a.1 (omega arith)

pub formed_set : (hs : Histograms) (k : ℕ) (g : Histogram) → AllFormed hs → histogram_formed g ≡ true → AllFormed (set hs k g)
unfolding AllFormed
formed_set [] k g a e = tt
formed_set (h ∷ hs) zero g a e = (e, a.1)
formed_set (h ∷ hs) (suc k) g a e = (a.0, formed_set hs k g a.1 e)

taken_formed : (h : Histogram) (d : List ℕ) (s : Coder) → histogram_formed h ≡ true → histogram_formed (taken_histogram h d s) ≡ true
unfolding taken_histogram
taken_formed h d s e = go (take_number true (histogram_formed h) d s (read_dynamic h (bit_at d) s))
  where
    go : (n : ℕ) → histogram_formed (kept n (read_after h (bit_at d) s) h) ≡ true
    go zero = histogram_hold _ (read_raised h (bit_at d) s (histogram_true h e))
    go (suc n) = e

-- ---- calls

pub record Went (d : List ℕ) (count used : ℕ) (r : ReadCall) : Type 0 where
  pub sound : Sound r.result
  pub steady : Steady d r.result.state used
  pub formed : AllFormed r.histograms
  pub same : length r.histograms ≡ count

pub went : (d : List ℕ) (s : Coder) (hs : Histograms) (c : Context) (used : ℕ) → Steady d s used → AllFormed hs → Present (length hs) c
    → used < 2 ^ 32 → Went d (length hs) (used + most_bits c) (call_read d s hs c)
unfolding call_read take_plain take_static take_dynamic take_number
went d s hs (plain n) used st a p few =
    record {
      sound = number_sound d s used st few true true (read_plain n (bit_at d) s) true refl;
      steady = taken_steady d s used st few true true (read_plain n (bit_at d) s) true refl (32 * n) (plain_on n d s) (plain_grown n (bit_at d) s);
      formed = a;
      same = refl;
    }
went d s hs (static range) used st a p few =
    record {
      sound = number_sound d s used st few true (ltb 0 range) (read_static range (bit_at d) s) _ refl;
      steady = taken_steady d s used st few true (ltb 0 range) (read_static range (bit_at d) s) _ refl 128 (range_on range d s) (static_grown range (bit_at d) s);
      formed = a;
      same = refl;
    }
went d s hs (dynamic k) used st a p few =
    let h : Histogram = get_or hs k [] in
    let e = formed_at hs k a p in
    record {
      sound = number_sound d s used st few (histogram_formed h) true (read_dynamic h (bit_at d) s) _ e;
      steady = taken_steady d s used st few (histogram_formed h) true (read_dynamic h (bit_at d) s) _ e 160 (dynamic_on h d s) (dynamic_grown h (bit_at d) s);
      formed = formed_set hs k _ a (taken_formed h d s e);
      same = simp length-set;
    }

none_at_fault : (d : List ℕ) (cs : List Context) (s : Coder) (hs : Histograms) (count used : ℕ) → Steady d s used → AllFormed hs
    → length hs ≡ count → AllPresent count cs → used + all_bits cs < 2 ^ 32 → NoneAtFault (read_calls d s hs cs)
unfolding read_calls AllPresent NoneAtFault
none_at_fault d [] s hs count used st a same p few = tt
none_at_fault d (c ∷ cs) s hs count used st a same p few =
    let w = went d s hs c used st a (rw same p.0) (omega arith) in
    let rest = none_at_fault d cs _ _ count (used + most_bits c) w.steady w.formed (w.same ∙ same) p.1 (omega arith) in
    (w.sound, rest)

pub fresh_steady : (d : List ℕ) → length d ≤ largest_file → Steady d fresh 0
unfolding code
fresh_steady d small =
    let x = bit_at d in
    let two = bit_binary d 0 in
    record {
      small = small;
      reading = record { limits = omega arith; from_low = omega arith; to_high = omega (arith, two, word_below x 1 15 (bit_binary d)) };
      inverted = λ i h. absurd (not-suc-le-zero h);
      few = omega arith;
    }

-- Whatever the data are, up to 16 MiB, the calls of a reader that begins fresh, in well-formed histograms, are done or refused with 1 or 10,
-- as long as they settle and postpone fewer than 2^32 bits.
pub never_at_fault : (d : List ℕ) (hs : Histograms) (cs : List Context) → length d ≤ largest_file → AllFormed hs → AllPresent (length hs) cs
    → all_bits cs < 2 ^ 32 → NoneAtFault (read_calls d fresh hs cs)
never_at_fault d hs cs small a p few = none_at_fault d cs fresh hs (length hs) 0 (fresh_steady d small) a refl p (omega arith)
