-- Everything that is written is one symbol and then plain bytes: the state after both, the bits of both, and what the call answers.
use Rattle.std.proofs.Common.{◌≡◌, ℕ, zero, suc, ◌+◌, ◌*◌, ◌/◌, ◌<◌, ◌≤◌, Bool, true, false, ◌||◌, List, ◌∷◌, length, sym, refl, ap, ◌∙◌, add-one, arith, le-leb, leb-true}
use Rattle.coder.proofs.Sequence.{all_more, all_most, plain_length}
use Rattle.coder.proofs.Tests.{first_some}
use Rattle.coder.specs.Bytes.{padded, put_bits, store_bits}
use Rattle.coder.specs.Forms.{fits, unless}
use Rattle.coder.specs.Inside.{Holds, room_number}
use Rattle.coder.specs.Interval.{Coder, Span, after_symbol, largest_range, narrow, symbol_bits, top_bits}
use Rattle.coder.specs.Symbols.{after_symbols, byte_span, plain_spans, static_span, static_spans, symbols_bits}
use Rattle.coder.specs.Together.{renormalized}
use Rattle.coder.specs.Writing.{Write, Writer, write, write_fault, write_number}
use Rattle.fields.specs.Limits.{largest_file}
use Rattle.fields.specs.Numbers.{bad_state, no_room, out_of_range}
use borrow.Author.Tests.{lt-leb}

pub after_led : (s t u : Coder) (a : Span) (more : List Span) → t ≡ after_symbol s a → u ≡ after_symbols t more → u ≡ after_symbols s (a ∷ more)
unfolding after_symbols
after_led s t u a more e d = rw (d, e)

-- the same from the interval that the first symbol narrowed, and the bits put
pub led_state : (s t : Coder) (a : Span) (more : List Span) → t ≡ narrow s a → after_symbols (renormalized t) more ≡ after_symbols s (a ∷ more)
unfolding after_symbols after_symbol
led_state s t a more e = rw e

pub led_bits : (s t : Coder) (a : Span) (more : List Span) (l : List ℕ) → t ≡ narrow s a
    → put_bits (put_bits l t.settled (top_bits 16 t)) (renormalized t).settled (symbols_bits (renormalized t) more)
    ≡ put_bits l s.settled (symbols_bits s (a ∷ more))
unfolding after_symbol symbol_bits narrow
led_bits s t a more l e = rw e (all_more s a more l)

-- a symbol and the plain bytes after it add so many bits at most
pub led_most : (s : Coder) (a : Span) (n v : ℕ) → let t = after_symbols s (a ∷ plain_spans n v) in t.settled + t.pending ≤ s.settled + s.pending + 32 * (n + 1)
led_most s a n v = omega (arith, all_most (a ∷ plain_spans n v) s, plain_length n v)

pub holds : (s : Coder) (l : List ℕ) → length l ≤ largest_file → fits s (length l) ≡ true → Holds l s
holds s l small e = record { small = small; within = leb-true _ _ e }

module _ (w : Writer) (l : List ℕ) (compresses : Bool) (spans : List Span) where
  abbrev due : Write
  due = write (room_number l (after_symbols w.coder spans)) l w compresses spans

  pub led_refused : fits (after_symbols w.coder spans) (length l) ≡ false → record { number = no_room; done = false; writer = w; bytes = l } ≡ due
  unfolding write
  led_refused no_room = rw no_room

  pub led_done : (t : Coder) (flag : Bool) (l' l'' : List ℕ) → fits (after_symbols w.coder spans) (length l) ≡ true → l' ≡ padded l w.coder.settled
      → t ≡ after_symbols w.coder spans → l'' ≡ put_bits l' w.coder.settled (symbols_bits w.coder spans) → flag ≡ (w.compressed || compresses)
      → record { number = 0; done = true; writer = record { coder = t; compressed = flag }; bytes = l'' } ≡ due
  unfolding write store_bits
  led_done t flag l' l'' fit pad next put set = rw (put, pad, set, fit, next) refl

-- an answer at no fault is done where there is room
pub write_told : (room : Bool) (l : List ℕ) (w : Writer) (compresses : Bool) (spans : List Span) → (write (unless room no_room 0) l w compresses spans).done ≡ room
unfolding write
write_told true l w compresses spans = refl
write_told false l w compresses spans = refl

-- ---- a whole call

-- a call that is refused gives back the state that was handed in, and leaves the buffer
pub write_refused : {n m : ℕ} {l : List ℕ} {w : Writer} (compresses : Bool) (spans : List Span) → (n ≡ 0 → ⊥) → n ≡ m
    → record { number = n; done = false; writer = w; bytes = l } ≡ write m l w compresses spans
unfolding write
write_refused {n} {m} {l} {w} compresses spans some same = go n some ∙ ap (λ (k : ℕ). write k l w compresses spans) same
  where
    go : (k : ℕ) → (k ≡ 0 → ⊥) → record { number = k; done = false; writer = w; bytes = l } ≡ write k l w compresses spans
    go zero other = absurd (other refl)
    go (suc k) other = refl

module _ (l : List ℕ) (s : Coder) (context_good value_good : Bool) (next : Coder) (fault : ℕ) (judged : fault ≡ write_fault s (length l)) where
  pub number_fault : (fault ≡ 0 → ⊥) → fault ≡ write_number l s context_good value_good next
  unfolding write_number
  number_fault some = rw (← judged) (first_some fault _ some)

  module _ (none : fault ≡ 0) where
    sound : write_fault s (length l) ≡ 0
    sound = sym judged ∙ none

    pub number_context : context_good ≡ false → bad_state ≡ write_number l s context_good value_good next
    unfolding write_number
    number_context bad = rw (sound, bad)

    pub number_value : context_good ≡ true → value_good ≡ false → out_of_range ≡ write_number l s context_good value_good next
    unfolding write_number
    number_value good bad = rw (sound, good, bad)

    pub number_room : context_good ≡ true → value_good ≡ true → room_number l next ≡ write_number l s context_good value_good next
    unfolding write_number
    number_room good fine = rw (sound, good, fine)

-- a call at no fault is a symbol and plain bytes, whose room alone is judged
pub led_judged : (l : List ℕ) (w : Writer) (compresses context_good value_good : Bool) (led spans : List Span) (fault : ℕ) (r : Write)
    → fault ≡ write_fault w.coder (length l) → fault ≡ 0 → context_good ≡ true → value_good ≡ true → led ≡ spans
    → r ≡ write (room_number l (after_symbols w.coder led)) l w compresses led
    → r ≡ write (write_number l w.coder context_good value_good (after_symbols w.coder spans)) l w compresses spans
led_judged l w compresses context_good value_good led spans fault r judged none good fine same wrote =
    (rw same at wrote) ∙ ap (λ (n : ℕ). write n l w compresses spans) (number_room l w.coder context_good value_good _ fault judged none good fine)

-- ---- the symbols of a value, as one and the plain bytes after it

pub static_one : (range v : ℕ) → range ≤ largest_range → static_span range v ∷ plain_spans 0 0 ≡ static_spans range v
unfolding static_spans plain_spans
static_one range v h = rw (le-leb _ _ h, static_spans)

pub plain_led : (n v : ℕ) → byte_span v ∷ plain_spans n (v / 256) ≡ plain_spans (n + 1) v
unfolding plain_spans
plain_led n v = rw add-one

pub static_plain : (range v : ℕ) → largest_range < range → byte_span v ∷ plain_spans 3 (v / 256) ≡ static_spans range v
unfolding static_spans plain_spans
static_plain range v h = rw (lt-leb _ _ h, static_spans)
