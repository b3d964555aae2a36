-- A value that a reader finds leads to a state from which it can read on, whatever the bits are: each symbol found is codable and holds
-- the place that the reader is pointed to, and such a symbol keeps a reading state.
use Rattle.std.proofs.Common.{◌≡◌, ℕ, zero, suc, ◌+◌, ◌-◌, ◌<◌, ◌≤◌, Bool, true, false, ltb, leb, List, [], ◌∷◌, length, get_or, take, refl, ap, not-suc-le-zero, arith, ltb-false, ltb-true, le-ltb, leb-true}
use Rattle.coder.proofs.Forward.{inverted_next, reading_next, static_codable, target_below}
use Rattle.coder.proofs.Judgements.{histogram_true}
use Rattle.coder.proofs.Streams.{bit_binary}
use Rattle.coder.proofs.Weights.{span_codable, weight_le}
use Rattle.coder.specs.Bytes.{bit_at}
use Rattle.coder.specs.Histogram.{Histogram, WellFormedHistogram, histogram_formed, span_of, sum, symbol_at}
use Rattle.coder.specs.Inside.{Reading}
use Rattle.coder.specs.Interval.{Codable, Coder, Inverted, Span, after_symbol, largest_range, target}
use Rattle.coder.specs.Stream.{Binary, Stream}
use Rattle.coder.specs.Symbols.{static_span}
use Rattle.coder.specs.Values.{Found, next_symbol, read_dynamic, read_plain, read_static, read_symbol, symbol_value}

-- ---- the symbol found

-- the symbol k is one of the histogram's, and its part of the total holds the place q
pub record Part (h : Histogram) (k q : ℕ) : Type 0 where
  pub inside : k < length h
  pub from_start : sum (take k h) ≤ q
  pub to_end : q < sum (take k h) + get_or h k 0

-- a place below the total is in the part of the symbol found there
pub symbol_at_holds : (h : List ℕ) (q : ℕ) → q < sum h → Part h (symbol_at h q) q
unfolding sum symbol_at
symbol_at_holds [] q b = absurd (not-suc-le-zero b)
symbol_at_holds (w ∷ h) q b = go (ltb q w) refl (λ c. symbol_at_holds h (q - w) c)
  where
    go : (t : Bool) → ltb q w ≡ t → (q - w < sum h → Part h (symbol_at h (q - w)) (q - w))
        → Part (w ∷ h) (elim t as (λ _. ℕ) [ true ↦ 0 | false ↦ suc (symbol_at h (q - w)) ]) q
    go true e ih = let k : q < w = ltb-true _ _ e in omega arith
    go false e ih =
        let k : w ≤ q = ltb-false _ _ e in
        let p = ih (omega arith) in
        omega arith

-- a place past the total is in no symbol's
symbol_at_past : (h : List ℕ) (q : ℕ) → sum h ≤ q → symbol_at h q ≡ length h
unfolding sum symbol_at
symbol_at_past [] q b = refl
symbol_at_past (w ∷ h) q b =
    let past : w ≤ q = omega arith in
    rw (le-ltb q w past, symbol_at) (ap suc (symbol_at_past h (q - w) (omega arith)))

-- a symbol that is found holds the place
pub symbol_at_found : (h : List ℕ) (q : ℕ) → symbol_at h q < length h → Part h (symbol_at h q) q
symbol_at_found h q inside = go (ltb q (sum h)) refl
  where
    go : (t : Bool) → ltb q (sum h) ≡ t → Part h (symbol_at h q) q
    go true e = symbol_at_holds h q (ltb-true _ _ e)
    go false e = absurd (omega (arith, symbol_at_past h q (ltb-false _ _ e)))

-- ---- the state after it

-- from s the reader comes to t, where it can read on; pending bits that were inverted are so again
pub record Leads (x : Stream) (s t : Coder) : Type 0 where
  pub reading : Reading t x
  pub inverted : Inverted s x → Inverted t x

leads_then : {x : Stream} {s t u : Coder} → Leads x s t → Leads x t u → Leads x s u
leads_then p q = record { reading = q.reading; inverted = λ v. q.inverted (p.inverted v) }

module _ (x : Stream) (two : Binary x) where
  leads_none : (s : Coder) → Reading s x → Leads x s s
  leads_none s r = record { reading = r; inverted = λ v. v }

  pub leads_symbol : (s : Coder) (a : Span) → Reading s x → Codable a → a.start ≤ target s x a.total → target s x a.total < a.start + a.weight
      → Leads x s (after_symbol s a)
  leads_symbol s a r c l u = record { reading = reading_next s a x two r c l u; inverted = inverted_next s a x two r c l u }

  leads_one : (t : ℕ) (s : Coder) → Reading s x → 0 < t → t ≤ largest_range → Leads x s (after_symbol s (static_span t (target s x t)))
  leads_one t s r some small = leads_symbol s (static_span t (target s x t)) r (static_codable s t x r some small) (omega arith) (omega arith)

  pub leads_plain : (n : ℕ) (s : Coder) → Reading s x → Leads x s (read_plain n x s).state
  unfolding read_plain
  leads_plain zero s r = leads_none s r
  leads_plain (suc n) s r =
      let one = leads_one 256 s r (omega arith) (omega arith) in
      leads_then one (leads_plain n (after_symbol s (static_span 256 (target s x 256))) one.reading)

  pub leads_range : (range : ℕ) (s : Coder) → Reading s x → 0 < range → Leads x s (read_static range x s).state
  unfolding read_static
  leads_range range s r some = go (leb range largest_range) refl
    where
      go : (t : Bool) → leb range largest_range ≡ t
          → Leads x s (elim t as (λ _. Found) [ true ↦ symbol_value range x s | false ↦ read_plain 4 x s ]).state
      go true e = leads_one range s r some (leb-true _ _ e)
      go false e = leads_plain 4 s r

  -- a symbol of a histogram, and what follows an escape
  leads_part : (h : Histogram) (k : ℕ) (s : Coder) → Reading s x → WellFormedHistogram h → Part h k (target s x (sum h))
      → Leads x s (after_symbol s (span_of h k))
  unfolding span_of
  leads_part h k s r w p = leads_symbol s (span_of h k) r (span_codable h k w p.inside (omega arith)) p.from_start p.to_end

  leads_found : (h : Histogram) (k : ℕ) (s : Coder) → Reading s x → WellFormedHistogram h → Part h k (target s x (sum h))
      → Leads x s (read_symbol h x s k).state
  unfolding read_symbol
  leads_found h zero s r w p =
      let one = leads_part h 0 s r w p in
      leads_then one (leads_plain 4 (after_symbol s (span_of h 0)) one.reading)
  leads_found h (suc v) s r w p = leads_part h (suc v) s r w p

  pub leads_dynamic : (h : Histogram) (s : Coder) → Reading s x → WellFormedHistogram h → Leads x s (read_dynamic h x s).state
  unfolding read_dynamic
  leads_dynamic h s r w =
      let some : 0 < sum h = omega (arith, weight_le h 0) in
      leads_found h (next_symbol h x s) s r w (symbol_at_holds h (target s x (sum h)) (target_below s x (sum h) r some))

-- ---- each part of it alone

-- A found value leaves limits that are well formed and a number from low to high.
pub reading_plain : (n : ℕ) (s : Coder) (x : Stream) → Binary x → Reading s x → Reading (read_plain n x s).state x
reading_plain n s x two r = (leads_plain x two n s r).reading

pub reading_range : (range : ℕ) (s : Coder) (x : Stream) → Binary x → Reading s x → 0 < range → Reading (read_static range x s).state x
reading_range range s x two r some = (leads_range x two range s r some).reading

pub reading_dynamic : (h : Histogram) (s : Coder) (x : Stream) → Binary x → Reading s x → WellFormedHistogram h
    → Reading (read_dynamic h x s).state x
reading_dynamic h s x two r w = (leads_dynamic x two h s r w).reading

-- ---- as the answers are judged

-- a value found leads on where the tests of its context and its range are passed
abbrev pub LeadsOn : List ℕ → Coder → Bool → Bool → Found → Type 0
LeadsOn d s context_good range_good found = context_good ≡ true → range_good ≡ true → Reading s (bit_at d) → Leads (bit_at d) s found.state

-- the three kinds of values
pub plain_on : (n : ℕ) (d : List ℕ) (s : Coder) → LeadsOn d s true true (read_plain n (bit_at d) s)
plain_on n d s c g r = leads_plain (bit_at d) (bit_binary d) n s r

pub range_on : (range : ℕ) (d : List ℕ) (s : Coder) → LeadsOn d s true (ltb 0 range) (read_static range (bit_at d) s)
range_on range d s c g r = leads_range (bit_at d) (bit_binary d) range s r (ltb-true _ _ g)

pub dynamic_on : (h : Histogram) (d : List ℕ) (s : Coder) → LeadsOn d s (histogram_formed h) true (read_dynamic h (bit_at d) s)
dynamic_on h d s c g r = leads_dynamic (bit_at d) (bit_binary d) h s r (histogram_true h c)
