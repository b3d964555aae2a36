-- The end of a coded run at no fault is judged by its room alone, and is a plain U32 of 0, low itself, or nothing.
use Rattle.std.proofs.Common.{◌≡◌, ℕ, zero, suc, ◌+◌, ◌*◌, ◌≤◌, ◌⊎◌, inl, inr, Bool, true, false, List, [], ◌∷◌, length, sym, refl, ap, ◌∙◌, arith, le-leb, leb-true}
use Rattle.coder.proofs.Flushing.{end_flush, end_low, end_none, zeros_low, zeros_pending}
use Rattle.coder.proofs.Judgements.{Writable, writable}
use Rattle.coder.proofs.Led.{write_told, holds, number_fault, number_room}
use Rattle.coder.proofs.Stored.{lead_low}
use Rattle.coder.specs.Bytes.{bytes_of, padded, put_bits, store_bits}
use Rattle.coder.specs.Ending.{end_bits, end_state, low_bits, low_state}
use Rattle.coder.specs.Forms.{fits}
use Rattle.coder.specs.Inside.{Holds, room_number}
use Rattle.coder.specs.Interval.{Coder, Span}
use Rattle.coder.specs.Symbols.{after_symbols, byte_span, plain_spans, symbols_bits}
use Rattle.coder.specs.Together.{lead_bits}
use Rattle.coder.specs.Writing.{End, Write, Writer, end, end_as, end_number, write, write_fault}
use Rattle.fields.specs.Numbers.{no_room}
use mathlib.Core.Bool.{or-false}

-- ---- an end by its room

module _ (l : List ℕ) (w : Writer) (next : Coder) (bits : List ℕ) where
  as_refused : fits next (length l) ≡ false → record { number = no_room; done = false; used = 0; writer = w; bytes = l } ≡ end_as (room_number l next) l w next bits
  unfolding end_as
  as_refused full = rw full

  as_done : (r : End) → fits next (length l) ≡ true → r ≡ end_as 0 l w next bits → r ≡ end_as (room_number l next) l w next bits
  as_done r room e = rw room e

-- ---- low itself

abbrev ends_low : List ℕ → Writer → End
ends_low l w = end_as (room_number l (low_state w.coder)) l w (low_state w.coder) (low_bits w.coder)

module _ (l : List ℕ) (w : Writer) (t : Coder) (next : t ≡ low_state w.coder) where
  pub low_refused : fits t (length l) ≡ false → record { number = no_room; done = false; used = 0; writer = w; bytes = l } ≡ ends_low l w
  low_refused full = as_refused l w _ _ (rw next at full)

  pub low_within : fits t (length l) ≡ true → w.coder.settled + 16 + w.coder.pending ≤ 8 * length l
  unfolding low_state
  low_within room =
      let h : (low_state w.coder).settled + 0 ≤ 8 * length l = leb-true _ _ (rw next at room) in
      omega arith

  pub low_done : (used : ℕ) (l₁ l₂ : List ℕ) → fits t (length l) ≡ true → used ≡ bytes_of t.settled → l₁ ≡ padded l w.coder.settled
      → l₂ ≡ put_bits l₁ w.coder.settled (lead_bits 16 w.coder)
      → record { number = 0; done = true; used = used; writer = record { coder = t; compressed = w.compressed }; bytes = l₂ } ≡ ends_low l w
  unfolding end_as store_bits
  low_done used l₁ l₂ room size pad put = as_done l w _ _ _ (rw next at room) (rw (size, next, put, pad, lead_low w.coder))

-- ---- a plain U32 of 0

abbrev ends_zero : List ℕ → Writer → End
ends_zero l w =
    let zeros = plain_spans 4 0 in
    end_as (room_number l (after_symbols w.coder zeros)) l w (after_symbols w.coder zeros) (symbols_bits w.coder zeros)

-- a write's answer as that of an end
abbrev pub as_end : ℕ → Write → End
as_end used a = record { number = a.number; done = a.done; used = used; writer = a.writer; bytes = a.bytes }

zero_led : byte_span 0 ∷ plain_spans 3 0 ≡ plain_spans 4 0
unfolding plain_spans
zero_led = refl

module _
    (l : List ℕ)
    (w : Writer)
    (a : Span)
    (t : Write)
    (lead : a ≡ byte_span 0)
    (wrote : t ≡ write (room_number l (after_symbols w.coder (a ∷ plain_spans 3 0))) l w false (a ∷ plain_spans 3 0))
  where
    zeros_wrote : t ≡ write (room_number l (after_symbols w.coder (plain_spans 4 0))) l w false (plain_spans 4 0)
    zeros_wrote = rw (lead, zero_led) at wrote

    zeros_told : fits (after_symbols w.coder (plain_spans 4 0)) (length l) ≡ t.done
    zeros_told = sym (ap (λ (o : Write). o.done) zeros_wrote ∙ write_told (fits (after_symbols w.coder (plain_spans 4 0)) (length l)) l w false (plain_spans 4 0))

    pub zero_refused : t.done ≡ false → as_end 0 t ≡ ends_zero l w
    unfolding write
    zero_refused told =
        let full : fits (after_symbols w.coder (plain_spans 4 0)) (length l) ≡ false = zeros_told ∙ told in
        ap (as_end 0) (rw full at zeros_wrote) ∙ as_refused l w _ _ full

    module _ (told : t.done ≡ true) where
      zeros_room : fits (after_symbols w.coder (plain_spans 4 0)) (length l) ≡ true
      zeros_room = zeros_told ∙ told

      zeros_done : t ≡ write 0 l w false (plain_spans 4 0)
      zeros_done = rw zeros_room at zeros_wrote

      zeros_after : t.writer.coder ≡ after_symbols w.coder (plain_spans 4 0)
      unfolding write
      zeros_after = ap (λ (a : Write). a.writer.coder) zeros_done

      pub zero_small : Holds l w.coder → t.writer.coder.settled ≤ 8 * 0x1000000
      zero_small h = let g : Holds l t.writer.coder = holds t.writer.coder l h.small (rw zeros_after zeros_room) in omega arith

      pub zero_done : (used : ℕ) → used ≡ bytes_of t.writer.coder.settled → as_end used t ≡ ends_zero l w
      unfolding write end_as
      zero_done used size = as_done l w _ _ _ zeros_room (ap (as_end used) zeros_done ∙ rw (size, zeros_after, or-false))

-- ---- the whole end

end_refuses : {n m : ℕ} (l : List ℕ) (w : Writer) (next : Coder) (bits : List ℕ) → (n ≡ 0 → ⊥) → n ≡ m
    → record { number = n; done = false; used = 0; writer = w; bytes = l } ≡ end_as m l w next bits
end_refuses {n} {m} l w next bits some same = go n some ∙ ap (λ (k : ℕ). end_as k l w next bits) same
  where
    go : (k : ℕ) → (k ≡ 0 → ⊥) → record { number = k; done = false; used = 0; writer = w; bytes = l } ≡ end_as k l w next bits
    go zero other = absurd (other refl)
    go (suc k) other = unfold end_as in refl

module _ (l : List ℕ) (w : Writer) (fault : ℕ) (judged : fault ≡ write_fault w.coder (length l)) where
  -- a fault is the answer
  pub end_refused : (fault ≡ 0 → ⊥) → record { number = fault; done = false; used = 0; writer = w; bytes = l } ≡ end l w
  unfolding end end_number
  end_refused some = end_refuses l w _ _ some (number_fault l w.coder true true _ fault judged some)

  module _ (none : fault ≡ 0) where
    pub end_writable : Writable w.coder (length l)
    end_writable = writable w.coder (length l) (sym judged ∙ none)

    -- without one the room is
    end_judged : (r : End) (compressed : Bool) (next : Coder) (bits : List ℕ) → w.compressed ≡ compressed
        → (end_state compressed w.coder ≡ next) × (end_bits compressed w.coder ≡ bits) → r ≡ end_as (room_number l next) l w next bits → r ≡ end l w
    unfolding end end_number
    end_judged r compressed next bits same e ends =
        let s : end_state w.compressed w.coder ≡ next = rw same e.0 in
        let b : end_bits w.compressed w.coder ≡ bits = rw same e.1 in
        let n : room_number l (end_state w.compressed w.coder) ≡ end_number l w = number_room l w.coder true true _ fault judged none refl refl in
        (rw (← s, ← b) at ends) ∙ ap (λ (n : ℕ). end_as n l w (end_state w.compressed w.coder) (end_bits w.compressed w.coder)) n

    pub finish_zero : (r : End) → w.compressed ≡ true → r ≡ ends_zero l w → r ≡ end l w
    finish_zero r same ends = end_judged r true _ _ same (end_flush w.coder end_writable.limits) ends

    pub finish_low : (r : End) → w.compressed ≡ false → (w.coder.low ≡ 0 → ⊥) ⊎ ((w.coder.low ≡ 0) × (w.coder.pending ≡ 0 → ⊥)) → r ≡ ends_low l w
        → r ≡ end l w
    finish_low r same (inl some) ends = end_judged r false _ _ same (end_low w.coder (zeros_low w.coder some)) ends
    finish_low r same (inr (none, some)) ends = end_judged r false _ _ same (end_low w.coder (zeros_pending w.coder some)) ends

    pub finish_none : (used : ℕ) (l' : List ℕ) → w.compressed ≡ false → w.coder.low ≡ 0 → w.coder.pending ≡ 0 → used ≡ bytes_of w.coder.settled
        → l' ≡ padded l w.coder.settled → record { number = 0; done = true; used = used; writer = w; bytes = l' } ≡ end l w
    unfolding end_as store_bits put_bits
    finish_none used l' same low pending size pad =
        end_judged _ false w.coder [] same (end_none w.coder end_writable.limits low pending)
        (as_done l w w.coder [] _ (le-leb _ _ end_writable.holds) (rw (size, pad)))
