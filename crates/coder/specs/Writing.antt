-- What the writer answers for every input: 01's number, the state, and the bytes that the caller's buffer then holds. A refusal's
-- place is always 0.
use Rattle.std.specs.Prelude.{◌≡◌, ℕ, zero, suc, ◌^◌, Bool, true, false, ◌||◌, List, length, nat_le, nat_lt, Result, Ok, Err}
use Rattle.coder.specs.Bytes.{bytes_of, store_bits}
use Rattle.coder.specs.Ending.{end_bits, end_state}
use Rattle.coder.specs.Forms.{first, fits, unless, writer_formed}
use Rattle.coder.specs.Histogram.{Histogram, histogram_formed, values}
use Rattle.coder.specs.Interval.{Coder, Span, fresh}
use Rattle.coder.specs.Symbols.{after_symbols, dynamic_after, dynamic_spans, plain_spans, static_spans, symbols_bits}
use Rattle.coder.specs.declared.ending.Ended.{Ended}
pub use Rattle.coder.specs.declared.write.Writer.{Writer}
use Rattle.coder.specs.declared.write.Width.{Width}
use Rattle.fields.specs.Limits.{largest_file}
use Rattle.fields.specs.Numbers.{bad_state, fault_number, no_room, out_of_range, over_limit}
use Rattle.fields.specs.declared.refusal.Fault.{Fault}
use Rattle.coder.specs.declared.write.Width as width
use Rattle.fields.specs.declared.refusal.Fault.TheVariants as fault

-- a writer also knows whether a compressed value was written
abbrev pub fresh_writer : Writer
fresh_writer = record { coder = fresh; compressed = false }

-- 01's number, and whether the answer is done: just where the number is 0
pub record Write : Type 0 where
  pub number : ℕ
  pub done : Bool
  pub writer : Writer
  pub bytes : List ℕ

-- what an answer says, beside the bytes that are then in the buffer; a refusal leaves the state that was handed in
abbrev pub written_given : Writer → Result Writer Fault → List ℕ → Write
written_given w (Ok next) l = record { number = 0; done = true; writer = next; bytes = l }
written_given w (Err f) l = record { number = fault_number f; done = false; writer = w; bytes = l }

-- what every write judges first: the buffer's size (9), then the state (18)
unfoldable pub write_fault : Coder → ℕ → ℕ
write_fault s len = unless (nat_le len largest_file) over_limit (unless (writer_formed s len) bad_state 0)

-- then the histogram (18), the value (10), and the room for the state after it (12)
unfoldable pub write_number : List ℕ → Coder → Bool → Bool → Coder → ℕ
write_number l s context_good value_good next =
    first (write_fault s (length l))
    (unless context_good bad_state (unless value_good out_of_range (unless (fits next (length l)) no_room 0)))

-- the symbols written, where the number is 0; a refusal gives back the state that was handed in and leaves the buffer
unfoldable pub write : ℕ → List ℕ → Writer → Bool → List Span → Write
write zero l w compresses spans =
    record {
      number = 0;
      done = true;
      writer = record { coder = after_symbols w.coder spans; compressed = w.compressed || compresses };
      bytes = store_bits l w.coder.settled (symbols_bits w.coder spans);
    }
write (suc n) l w compresses spans = record { number = suc n; done = false; writer = w; bytes = l }

-- the bytes of a plain value
abbrev pub bytes_in : Width → ℕ
bytes_in width.TheVariants.U8 = 1
bytes_in width.TheVariants.U16 = 2
bytes_in width.TheVariants.U32 = 4

-- the width of a plain value of n bytes; 10 where there is none
abbrev pub NamesWidth : ℕ → Result Width Fault → Type 0
NamesWidth n (Ok width) = n ≡ bytes_in width
NamesWidth n (Err f) = ((width : Width) → n ≡ bytes_in width → ⊥) × (f ≡ fault.OutOfRange)

-- n plain bytes: the value is one of theirs
unfoldable pub write_plain : ℕ → List ℕ → Writer → ℕ → Write
write_plain n l w v =
    write (write_number l w.coder true (nat_lt v (256 ^ n)) (after_symbols w.coder (plain_spans n v))) l w false (plain_spans n v)

-- a static range: the value is below it
unfoldable pub write_static : ℕ → List ℕ → Writer → ℕ → Write
write_static range l w v =
    write (write_number l w.coder true (nat_lt v range) (after_symbols w.coder (static_spans range v))) l w true (static_spans range v)

-- a dynamic context: the value is at most 255
unfoldable pub dynamic_number : Histogram → List ℕ → Writer → ℕ → ℕ
dynamic_number h l w v = write_number l w.coder (histogram_formed h) (nat_lt v values) (after_symbols w.coder (dynamic_spans h v))

unfoldable pub write_dynamic : Histogram → List ℕ → Writer → ℕ → Write
write_dynamic h l w v = write (dynamic_number h l w v) l w true (dynamic_spans h v)

-- what a caller lent, after an answer: a refusal leaves it
abbrev pub kept : {A : Type 0} → ℕ → A → A → A
kept zero later lent = later
kept (suc n) later lent = lent

unfoldable pub written_histogram : Histogram → List ℕ → Writer → ℕ → Histogram
written_histogram h l w v = kept (dynamic_number h l w v) (dynamic_after h v) h

-- the end: also the number of bytes that the settled bits take
pub record End : Type 0 where
  pub number : ℕ
  pub done : Bool
  pub used : ℕ
  pub writer : Writer
  pub bytes : List ℕ

abbrev pub ended_given : Writer → Result Ended Fault → List ℕ → End
ended_given w (Ok e) l = record { number = 0; done = true; used = e.used; writer = e.writer; bytes = l }
ended_given w (Err f) l = record { number = fault_number f; done = false; used = 0; writer = w; bytes = l }

unfoldable pub end_number : List ℕ → Writer → ℕ
end_number l w = write_number l w.coder true true (end_state w.compressed w.coder)

-- an end by its number: the state after it, and its bits stored
unfoldable pub end_as : ℕ → List ℕ → Writer → Coder → List ℕ → End
end_as zero l w next bits =
    record {
      number = 0;
      done = true;
      used = bytes_of next.settled;
      writer = record { coder = next; compressed = w.compressed };
      bytes = store_bits l w.coder.settled bits;
    }
end_as (suc n) l w next bits = record { number = suc n; done = false; used = 0; writer = w; bytes = l }

unfoldable pub end : List ℕ → Writer → End
end l w = end_as (end_number l w) l w (end_state w.compressed w.coder) (end_bits w.compressed w.coder)
