-- Each test of what is well formed, as facts, both ways; and what a writer's and a reader's judgements show where they come to 0.
use Rattle.std.proofs.Common.{◌≡◌, ℕ, zero, suc, ◌+◌, ◌-◌, ◌*◌, ◌^◌, ◌<◌, ◌≤◌, Bool, true, not, ◌&&◌, ◌||◌, ltb, leb, List, length, get_or, refl, arith, ltb-true, lt-ltb, le-leb, leb-true}
use Rattle.coder.proofs.Streams.{all_run, run_all}
use Rattle.coder.proofs.Tests.{and_both, both_and, first-zero, unless-zero}
use Rattle.coder.specs.Bytes.{bit_at}
use Rattle.coder.specs.Forms.{bits_in, code_within, finds, fits, limits_formed, pending_inverted, reader_formed, writer_formed}
use Rattle.coder.specs.Histogram.{Histogram, WellFormedHistogram, histogram_formed}
use Rattle.coder.specs.Inside.{Reading}
use Rattle.coder.specs.Interval.{Agrees, Coder, Inverted, Span, WellFormed, code}
use Rattle.coder.specs.Reading.{read_fault, read_number, taken}
use Rattle.coder.specs.Stream.{Stream}
use Rattle.coder.specs.Values.{Found}
use Rattle.coder.specs.Writing.{Writer, end_as, write, write_fault, write_number}
use Rattle.fields.specs.Limits.{largest_file}
use Rattle.fields.specs.Numbers.{bad_state, no_room, out_of_range, over_limit, truncated}
use mathlib.Core.Bool.{or-true}

-- ---- limits

pub limits_true : (s : Coder) → limits_formed s ≡ true → WellFormed s
unfolding limits_formed
limits_true s e =
    let a = and_both (ltb s.low 0x8000) _ e in
    let b = and_both (leb 0x8000 s.high) _ a.1 in
    let c = and_both (leb s.high 0xFFFF) _ b.1 in
    record { low_top = ltb-true _ _ a.0; high_top = leb-true _ _ b.0; high_fits = leb-true _ _ c.0; apart = leb-true _ _ c.1 }

pub limits_hold : (s : Coder) → WellFormed s → limits_formed s ≡ true
unfolding limits_formed
limits_hold s w = rw (lt-ltb _ _ w.low_top, le-leb _ _ w.high_top, le-leb _ _ w.high_fits, le-leb _ _ w.apart)

-- ---- a histogram

pub histogram_true : (h : Histogram) → histogram_formed h ≡ true → WellFormedHistogram h
unfolding histogram_formed
histogram_true h e =
    let a = and_both (leb 1 (get_or h 0 0)) _ e in
    record { escape = leb-true _ _ a.0; bounded = leb-true _ _ a.1 }

pub histogram_hold : (h : Histogram) → WellFormedHistogram h → histogram_formed h ≡ true
unfolding histogram_formed
histogram_hold h w = rw (le-leb _ _ w.escape, le-leb _ _ w.bounded)

-- ---- what a reader finds

pub inverted_true : (s : Coder) (x : Stream) → pending_inverted s x ≡ true → Inverted s x
unfolding pending_inverted
inverted_true s x e = run_all x (s.settled + 1) s.pending (1 - x s.settled) e

pub inverted_hold : (s : Coder) (x : Stream) → Inverted s x → pending_inverted s x ≡ true
unfolding pending_inverted
inverted_hold s x v = all_run x (s.settled + 1) s.pending (1 - x s.settled) v

pub within_true : (s : Coder) (x : Stream) → code_within s x ≡ true → (s.low ≤ code s x) × (code s x ≤ s.high)
unfolding code_within
within_true s x e = let a = and_both (leb s.low (code s x)) _ e in (leb-true _ _ a.0, leb-true _ _ a.1)

pub within_hold : (s : Coder) (x : Stream) → s.low ≤ code s x → code s x ≤ s.high → code_within s x ≡ true
unfolding code_within
within_hold s x l u = rw (le-leb _ _ l, le-leb _ _ u)

pub finds_true : (s : Coder) (x : Stream) → finds s x ≡ true → Agrees s x
unfolding finds
finds_true s x e =
    let a = and_both (pending_inverted s x) _ e in
    let b = within_true s x a.1 in
    record { inverted = inverted_true s x a.0; from_low = b.0; to_high = b.1 }

pub finds_hold : (s : Coder) (x : Stream) → Agrees s x → finds s x ≡ true
unfolding finds
finds_hold s x a = both_and (pending_inverted s x) _ (inverted_hold s x a.inverted) (within_hold s x a.from_low a.to_high)

-- ---- a writer's judgements

-- the state and the buffer of a writer at no fault
pub record Writable (s : Coder) (len : ℕ) : Type 0 where
  pub small : len ≤ largest_file
  pub limits : WellFormed s
  pub holds : s.settled + s.pending ≤ 8 * len

pub writer_true : (s : Coder) (len : ℕ) → writer_formed s len ≡ true → WellFormed s × (s.settled + s.pending ≤ 8 * len)
unfolding writer_formed
writer_true s len e = let a = and_both (limits_formed s) _ e in (limits_true s a.0, leb-true _ _ a.1)

pub writer_hold : (s : Coder) (len : ℕ) → WellFormed s → s.settled + s.pending ≤ 8 * len → writer_formed s len ≡ true
unfolding writer_formed
writer_hold s len w h = rw (limits_hold s w, le-leb _ _ h)

-- a writer's fault of 0 shows this
pub writable : (s : Coder) (len : ℕ) → write_fault s len ≡ 0 → Writable s len
unfolding write_fault
writable s len e =
    let a = unless-zero (leb len largest_file) over_limit _ (omega arith) e in
    let b = unless-zero (writer_formed s len) bad_state 0 (omega arith) a.1 in
    let c = writer_true s len b.0 in
    record { small = leb-true _ _ a.0; limits = c.0; holds = c.1 }

-- what a writer's call that is done has passed
pub record WritePassed (l : List ℕ) (s : Coder) (context_good value_good : Bool) (next : Coder) : Type 0 where
  pub writable : Writable s (length l)
  pub context : context_good ≡ true
  pub value : value_good ≡ true
  pub room : next.settled + next.pending ≤ 8 * length l

pub write_passed : (l : List ℕ) (s : Coder) (context_good value_good : Bool) (next : Coder) → write_number l s context_good value_good next ≡ 0
    → WritePassed l s context_good value_good next
unfolding write_number
write_passed l s context_good value_good next e =
    let a = first-zero (write_fault s (length l)) _ e in
    let b = unless-zero context_good bad_state _ (omega arith) a.1 in
    let c = unless-zero value_good out_of_range _ (omega arith) b.1 in
    let d = unless-zero (fits next (length l)) no_room 0 (omega arith) c.1 in
    record { writable = writable s (length l) a.0; context = b.0; value = c.0; room = leb-true _ _ d.0 }

-- ---- a reader's judgements

-- the state and the data of a reader at no fault; one that looks has found the pending bits inverted
pub record Readable (look : Bool) (d : List ℕ) (s : Coder) : Type 0 where
  pub small : length d ≤ largest_file
  pub reading : Reading s (bit_at d)
  pub settled_small : s.settled < 2 ^ 32
  pub pending_small : s.pending < 2 ^ 32
  pub looked : (not look || pending_inverted s (bit_at d)) ≡ true

-- a reader's fault is 0 just where this holds
pub readable : (look : Bool) (d : List ℕ) (s : Coder) → read_fault look d s ≡ 0 → Readable look d s
unfolding read_fault reader_formed
readable look d s e =
    let x = bit_at d in
    let a = unless-zero (leb (length d) largest_file) over_limit _ (omega arith) e in
    let b = unless-zero (reader_formed s x && (not look || pending_inverted s x)) bad_state 0 (omega arith) a.1 in
    let c = and_both (reader_formed s x) _ b.0 in
    let f = and_both (limits_formed s) _ c.0 in
    let g = and_both (ltb s.settled (2 ^ 32)) _ f.1 in
    let k = and_both (ltb s.pending (2 ^ 32)) _ g.1 in
    let w = within_true s x k.1 in
    record {
      small = leb-true _ _ a.0;
      reading = record { limits = limits_true s f.0; from_low = w.0; to_high = w.1 };
      settled_small = ltb-true _ _ g.0;
      pending_small = ltb-true _ _ k.0;
      looked = c.1;
    }

pub readable_hold : (look : Bool) (d : List ℕ) (s : Coder) → Readable look d s → read_fault look d s ≡ 0
unfolding read_fault reader_formed
readable_hold look d s r =
    let w = within_hold s (bit_at d) r.reading.from_low r.reading.to_high in
    rw (le-leb _ _ r.small, limits_hold s r.reading.limits, lt-ltb _ _ r.settled_small, lt-ltb _ _ r.pending_small, w, r.looked)

-- inverted bits are found so by a reader that looks and by one that does not
pub looked_hold : (look : Bool) (s : Coder) (x : Stream) → Inverted s x → (not look || pending_inverted s x) ≡ true
looked_hold look s x v = rw (inverted_hold s x v, or-true)

-- what a reader's call that is done has passed
pub record ReadPassed (look : Bool) (d : List ℕ) (s : Coder) (context_good range_good : Bool) (settled : ℕ) (value_good : Bool) : Type 0 where
  pub readable : Readable look d s
  pub context : context_good ≡ true
  pub range : range_good ≡ true
  pub within : settled ≤ bits_in d
  pub value : value_good ≡ true

pub read_passed : (look : Bool) (d : List ℕ) (s : Coder) (context_good range_good : Bool) (settled : ℕ) (value_good : Bool)
    → read_number look d s context_good range_good settled value_good ≡ 0 → ReadPassed look d s context_good range_good settled value_good
unfolding read_number
read_passed look d s context_good range_good settled value_good e =
    let a = first-zero (read_fault look d s) _ e in
    let b = unless-zero context_good bad_state _ (omega arith) a.1 in
    let c = unless-zero range_good out_of_range _ (omega arith) b.1 in
    let f = unless-zero (leb settled (bits_in d)) truncated _ (omega arith) c.1 in
    let g = unless-zero value_good out_of_range 0 (omega arith) f.1 in
    record { readable = readable look d s a.0; context = b.0; range = c.0; within = leb-true _ _ f.0; value = g.0 }

-- a reader's call that passes all this is done
pub read_hold : (look : Bool) (d : List ℕ) (s : Coder) (context_good range_good : Bool) (settled : ℕ) (value_good : Bool)
    → ReadPassed look d s context_good range_good settled value_good → read_number look d s context_good range_good settled value_good ≡ 0
unfolding read_number
read_hold look d s context_good range_good settled value_good p =
    rw (readable_hold look d s p.readable, p.context, p.range, le-leb _ _ p.within, p.value)

-- ---- an answer of 0 was judged so

pub write-zero : (n : ℕ) (l : List ℕ) (w : Writer) (compresses : Bool) (spans : List Span) → (write n l w compresses spans).number ≡ 0 → n ≡ 0
unfolding write
write-zero zero l w compresses spans e = refl
write-zero (suc n) l w compresses spans e = e

pub end-zero : (n : ℕ) (l : List ℕ) (w : Writer) (next : Coder) (bits : List ℕ) → (end_as n l w next bits).number ≡ 0 → n ≡ 0
unfolding end_as
end-zero zero l w next bits e = refl
end-zero (suc n) l w next bits e = e

pub taken-zero : (n : ℕ) (found : Found) (s : Coder) → (taken n found s).number ≡ 0 → n ≡ 0
unfolding taken
taken-zero zero found s e = refl
taken-zero (suc n) found s e = e
