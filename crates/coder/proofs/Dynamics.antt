-- A value in a dynamic context is one symbol, its own or escape, and the plain bytes after it; a reader finds that symbol in the
-- histogram and then the value.
use Rattle.std.proofs.Common.{◌≡◌, ℕ, zero, suc, ◌+◌, ◌-◌, ◌*◌, ◌<◌, Bool, true, false, ◌&&◌, eqb, ltb, leb, List, [], ◌∷◌, length, get_or, take, sym, refl, ap, ◌∙◌, add-one, arith, ltb-true, eq-eqb, ne_eqb}
use Rattle.coder.proofs.Tests.{and_both}
use Rattle.coder.proofs.Forward.{reading_next, target_below}
use Rattle.coder.proofs.Led.{write_told}
use Rattle.coder.proofs.Found.{symbol_at_holds}
use Rattle.coder.proofs.Streams.{bit_binary}
use Rattle.coder.proofs.Weights.{span_codable, weight_le}
use Rattle.coder.specs.Bytes.{bit_at}
use Rattle.coder.specs.Histogram.{Histogram, WellFormedHistogram, raised, span_of, sum, symbol_at, values}
use Rattle.coder.specs.Inside.{Next, Reading, bytes_after_lead, context_number, found_as, lead_of, room_number}
use Rattle.coder.specs.Interval.{Codable, Coder, Span, after_symbol, target}
use Rattle.coder.specs.Forms.{fits, unless}
use Rattle.coder.specs.Reading.{Taken, taken}
use Rattle.coder.specs.Stream.{Stream}
use Rattle.coder.specs.Symbols.{after_symbols, dynamic_after, dynamic_spans, plain_spans}
use Rattle.coder.specs.Values.{Found, next_symbol, read_after, read_dynamic, read_plain, read_symbol, symbol_after}
use Rattle.coder.specs.Writing.{Write, Writer, kept, write}
use Rattle.fields.specs.Numbers.{no_room, out_of_range, truncated}
use borrow.Author.Tests.{eqb-false}
use mathlib.Core.Bool.{false≢true}

-- ---- writing

pub no_bytes : (k : ℕ) → (k ≡ 0 → ⊥) → 0 ≡ bytes_after_lead k
no_bytes zero some = absurd (some refl)
no_bytes (suc k) some = refl

pub lead_escape : (h : Histogram) (v : ℕ) → get_or h (v + 1) 0 ≡ 0 → 0 ≡ lead_of h v
unfolding lead_of
lead_escape h v e = let g : get_or h (suc v) 0 ≡ 0 = rw add-one at e in rw (eq-eqb _ _ g, lead_of)

pub lead_value : (h : Histogram) (v : ℕ) → (get_or h (v + 1) 0 ≡ 0 → ⊥) → v + 1 ≡ lead_of h v
unfolding lead_of
lead_value h v e = let g : get_or h (suc v) 0 ≡ 0 → ⊥ = rw add-one at e in rw (ne_eqb _ _ g, lead_of, add-one)

-- the symbols of a value, its histogram after it, and the frequency of its first symbol
pub lead_spans : (h : Histogram) (v : ℕ) → span_of h (lead_of h v) ∷ plain_spans (bytes_after_lead (lead_of h v)) v ≡ dynamic_spans h v
unfolding lead_of dynamic_spans plain_spans
lead_spans h v = go (eqb (get_or h (suc v) 0) 0)
  where
    go : (t : Bool)
        → span_of h (elim t as (λ _. ℕ) [ true ↦ 0 | false ↦ suc v ]) ∷ plain_spans (bytes_after_lead (elim t as (λ _. ℕ) [ true ↦ 0 | false ↦ suc v ])) v
        ≡ elim t [ true ↦ span_of h 0 ∷ plain_spans 4 v | false ↦ span_of h (suc v) ∷ [] ]
    go true = refl
    go false = refl

pub lead_after : (h : Histogram) (v : ℕ) → symbol_after h (lead_of h v) v ≡ dynamic_after h v
unfolding lead_of dynamic_after symbol_after
lead_after h v = go (eqb (get_or h (suc v) 0) 0)
  where
    go : (t : Bool) → symbol_after h (elim t as (λ _. ℕ) [ true ↦ 0 | false ↦ suc v ]) v
        ≡ elim t [ true ↦ raised (raised h 0) (suc v) | false ↦ raised h (suc v) ]
    go true = refl
    go false = refl

-- the first symbol of a value is one of the histogram's, and has some frequency
pub lead_inside : (h : Histogram) (v n : ℕ) → v + 1 < n → lead_of h v < n
unfolding lead_of
lead_inside h v n inside = go (eqb (get_or h (suc v) 0) 0)
  where
    go : (t : Bool) → elim t as (λ _. ℕ) [ true ↦ 0 | false ↦ suc v ] < n
    go true = omega arith
    go false = omega arith

pub lead_codable : (h : Histogram) (v : ℕ) → WellFormedHistogram h → v + 1 < length h → Codable (span_of h (lead_of h v))
unfolding lead_of
lead_codable h v f inside = go (eqb (get_or h (suc v) 0) 0) refl
  where
    go : (t : Bool) → eqb (get_or h (suc v) 0) 0 ≡ t → Codable (span_of h (elim t as (λ _. ℕ) [ true ↦ 0 | false ↦ suc v ]))
    go true e = span_codable h 0 f (omega arith) f.escape
    go false e = let some : get_or h (suc v) 0 ≡ 0 → ⊥ = eqb-false _ _ e in span_codable h (suc v) f (omega arith) (omega arith)

-- the symbols as the code makes them
pub lead_led : (h : Histogram) (v k count : ℕ) (a : Span) → k ≡ lead_of h v → count ≡ bytes_after_lead k → a ≡ span_of h k
    → a ∷ plain_spans count v ≡ dynamic_spans h v
lead_led h v k count a e f g = rw (g, f, e) (lead_spans h v)

room_kept : (b : Bool) (later h : Histogram) → b ≡ true → later ≡ kept (unless b no_room 0) later h
room_kept b later h e = rw e

room_left : (b : Bool) (later h : Histogram) → b ≡ false → h ≡ kept (unless b no_room 0) later h
room_left b later h e = rw e

module _ (h : Histogram) (l : List ℕ) (w : Writer) (v : ℕ) (led : List Span) (same : led ≡ dynamic_spans h v) (t : Write)
    (answer : t ≡ write (room_number l (after_symbols w.coder led)) l w true led) where
  room_told : fits (after_symbols w.coder led) (length l) ≡ t.done
  room_told = sym (ap (λ (o : Write). o.done) answer ∙ write_told (fits (after_symbols w.coder led) (length l)) l w true led)

  pub written_answer : t ≡ write (room_number l (after_symbols w.coder (dynamic_spans h v))) l w true (dynamic_spans h v)
  written_answer = rw (← same) answer

  pub written_left : t.done ≡ false → h ≡ kept (room_number l (after_symbols w.coder (dynamic_spans h v))) (dynamic_after h v) h
  written_left e = rw (← same) (room_left (fits (after_symbols w.coder led) (length l)) (dynamic_after h v) h (room_told ∙ e))

  pub written-kept : (k : ℕ) (g : Histogram) → t.done ≡ true → k ≡ lead_of h v → g ≡ symbol_after h k v
      → g ≡ kept (room_number l (after_symbols w.coder (dynamic_spans h v))) (dynamic_after h v) h
  written-kept k g e lead raised =
      raised ∙ rw (lead, lead_after h v, ← same) (room_kept (fits (after_symbols w.coder led) (length l)) (dynamic_after h v) h (room_told ∙ e))

-- ---- reading

-- the place that the number points to is in the part of the next symbol, to which the reader is led
pub next_holds : (h : Histogram) (d : List ℕ) (s : Coder) (place index start : ℕ) → WellFormedHistogram h → Reading s (bit_at d)
    → place ≡ target s (bit_at d) (sum h) → index ≡ symbol_at h place → start ≡ sum (take index h) → Next h (bit_at d) s index start
unfolding span_of
next_holds h d s place index start w r at found sums =
    let some : 0 < sum h = omega (arith, weight_le h 0, w.escape) in
    let same : index ≡ next_symbol h (bit_at d) s = found ∙ ap (symbol_at h) at in
    let part = rw (← same) at (symbol_at_holds h (target s (bit_at d) (sum h)) (target_below s (bit_at d) (sum h) r some)) in
    let codable = span_codable h index w part.inside (omega (arith, part.from_start, part.to_end)) in
    record {
      same = same;
      before_it = sums;
      inside = part.inside;
      codable = codable;
      reading = reading_next s (span_of h index) (bit_at d) (bit_binary d) r codable part.from_start part.to_end;
    }

-- the value that the reader finds follows an escape, or is the symbol
pub read_escaped : (h : Histogram) (x : Stream) (s : Coder) (k : ℕ) (found : Found) → k ≡ next_symbol h x s → k ≡ 0
    → found ≡ read_plain 4 x (after_symbol s (span_of h k)) → found ≡ read_dynamic h x s
unfolding read_dynamic read_symbol
read_escaped h x s k found next e f = f ∙ rw (← next, e)

pub read_value : (h : Histogram) (x : Stream) (s : Coder) (k : ℕ) → k ≡ next_symbol h x s → (k ≡ 0 → ⊥)
    → found_as (k - 1) (after_symbol s (span_of h k)) ≡ read_dynamic h x s
unfolding read_dynamic read_symbol
read_value h x s zero next some = absurd (some refl)
read_value h x s (suc k) next some = let less : suc k - 1 ≡ k = omega arith in rw (← next, less)

-- what is left to judge of the value, by what the answer is
value_kept : (a b : Bool) (later h : Histogram) → (a && b) ≡ true → later ≡ kept (unless a truncated (unless b out_of_range 0)) later h
value_kept true true later h e = refl
value_kept true false later h e = absurd (false≢true e)
value_kept false b later h e = absurd (false≢true e)

value_left : (a b : Bool) (later h : Histogram) → (a && b) ≡ false → h ≡ kept (unless a truncated (unless b out_of_range 0)) later h
value_left true true later h e = absurd (false≢true (sym e))
value_left true false later h e = refl
value_left false b later h e = refl

-- an answer at no fault is done where both tests are passed
taken_told : (a b : Bool) (found : Found) (s : Coder) → (taken (unless a truncated (unless b out_of_range 0)) found s).done ≡ (a && b)
unfolding taken
taken_told true true found s = refl
taken_told true false found s = refl
taken_told false b found s = refl

module _ (len : ℕ) (s : Coder) (found : Found) (t : Taken) (answer : t ≡ taken (context_number len found) found s) where
  value_told_lem : (leb found.state.settled (8 * len) && ltb found.value values) ≡ t.done
  value_told_lem =
      sym (ap (λ (t : Taken). t.done) answer ∙ taken_told (leb found.state.settled (8 * len)) (ltb found.value values) found s)

  pub counted_left : (later h : Histogram) → t.done ≡ false → h ≡ kept (context_number len found) later h
  counted_left later h e =
      value_left (leb found.state.settled (8 * len)) (ltb found.value values) later h (value_told_lem ∙ e)

  pub counted_got : t.done ≡ true → found.value < values
  counted_got e = ltb-true _ _ (and_both (leb found.state.settled (8 * len)) _ (value_told_lem ∙ e)).1

  pub counted_kept : (h : Histogram) (k : ℕ) → t.done ≡ true → symbol_after h k found.value ≡ kept (context_number len found) (symbol_after h k found.value) h
  counted_kept h k e =
      value_kept (leb found.state.settled (8 * len)) (ltb found.value values) (symbol_after h k found.value) h (value_told_lem ∙ e)

-- what is found so, in the words of the definition
module _ (h : Histogram) (d : List ℕ) (s : Coder) (k : ℕ) (found : Found) (next : k ≡ next_symbol h (bit_at d) s) (same : found ≡ read_dynamic h (bit_at d) s) where
  pub dynamic_answer : (r : Taken) → r ≡ taken (context_number (length d) found) found s
      → r ≡ taken (context_number (length d) (read_dynamic h (bit_at d) s)) (read_dynamic h (bit_at d) s) s
  dynamic_answer r e = rw (← same) e

  pub dynamic_kept : (g : Histogram) → g ≡ kept (context_number (length d) found) (symbol_after h k found.value) h
      → g ≡ kept (context_number (length d) (read_dynamic h (bit_at d) s)) (read_after h (bit_at d) s) h
  unfolding read_after
  dynamic_kept g e = rw (← same, ← next) e
