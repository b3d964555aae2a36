-- Runs of plain values (02, Ask 13: "any run of plain U8, U16 and U32 values"): the bytes that they are to be, and what the coder's reader is
-- to say of them by what the headers' reader says.
use Rattle.std.specs.Prelude.{ℕ, ◌+◌, ◌*◌, ◌^◌, eqb, leb, ltb, drop, length, take, Bool, true, false, List, [], ◌∷◌, ◌++◌, map}
use Rattle.coder.specs.Forms.{unless}
use Rattle.coder.specs.Interval.{fresh}
use Rattle.coder.specs.Reading.{Taken}
use Rattle.coder.specs.Writing.{Write, bytes_in, kept}
use Rattle.coder.specs.declared.interval.Coder.{Coder}
use Rattle.coder.specs.declared.write.Width.{Width}
use Rattle.coder_theorems.specs.Runs.{Called, Context, Held, Histograms, Number, ReadCall, Step, called, plain, put}
use Rattle.fields.specs.Field.{field_at}
use Rattle.fields.specs.Judged.{Judged, done, pick, refused}
use Rattle.fields.specs.Numbers.{no_room, out_of_range}
use Rattle.fields_theorems.specs.Encoding.{number_bytes}

pub record PlainValue : Type 0 where
  pub width : Width
  pub value : ℕ

abbrev pub width_in : PlainValue → Width
width_in v = v.width

-- a plain value's context, and the number that the writer is handed
abbrev pub plain_context : Width → Context
plain_context width = plain (bytes_in width)

abbrev pub plain_number : PlainValue → Number
plain_number v = record { context = plain_context v.width; value = v.value }

abbrev pub put_all : List PlainValue → List Step
put_all run = map put (map plain_number run)

-- ---- written

-- "its little-endian bytes"
unfoldable pub run_bytes : List PlainValue → List ℕ
run_bytes [] = []
run_bytes (v ∷ vs) = number_bytes (bytes_in v.width) v.value ++ run_bytes vs

-- "low, high and pending fresh", after p whole bytes
abbrev pub fresh_at : ℕ → Coder
fresh_at p = record { low = fresh.low; high = fresh.high; pending = fresh.pending; settled = 8 * p }

-- what a writer's caller then holds; `compressed` says whether a compressed value was written before
abbrev pub held_at : ℕ → Bool → List ℕ → Histograms → Held
held_at p compressed buffer hs = record { buffer = buffer; writer = record { coder = fresh_at p; compressed = compressed }; histograms = hs }

-- bytes laid over a buffer from p on: all before and all past them is as it was
abbrev pub overlaid : List ℕ → ℕ → List ℕ → List ℕ
overlaid buffer p bytes = take p buffer ++ bytes ++ drop (p + length bytes) buffer

-- what a writer of bytes alone says of a value at p: 10 where it is none of its width's, then 12
abbrev pub laid_number : ℕ → List ℕ → PlainValue → ℕ
laid_number p buffer v =
    let n = bytes_in v.width in
    unless (ltb v.value (256 ^ n)) out_of_range (unless (leb (p + n) (length buffer)) no_room 0)

-- where the next value stands, and the buffer; a refusal leaves both
abbrev pub laid_to : ℕ → List ℕ → PlainValue → ℕ
laid_to p buffer v = kept (laid_number p buffer v) (p + bytes_in v.width) p

abbrev pub laid_buffer : ℕ → List ℕ → PlainValue → List ℕ
laid_buffer p buffer v = kept (laid_number p buffer v) (overlaid buffer p (number_bytes (bytes_in v.width) v.value)) buffer

abbrev pub laid_write : ℕ → Bool → List ℕ → PlainValue → Write
laid_write p compressed buffer v =
    record {
      number = laid_number p buffer v;
      done = eqb (laid_number p buffer v) 0;
      writer = record { coder = fresh_at (laid_to p buffer v); compressed = compressed };
      bytes = laid_buffer p buffer v;
    }

-- all that it says of values one after the other
unfoldable pub laid_calls : ℕ → Bool → List ℕ → Histograms → List PlainValue → List Called
laid_calls p compressed buffer hs [] = []
laid_calls p compressed buffer hs (v ∷ vs) =
    called (plain_number v) (record { result = laid_write p compressed buffer v; histograms = hs })
    ∷ laid_calls (laid_to p buffer v) compressed (laid_buffer p buffer v) hs vs

-- ---- read

-- a plain value of n bytes at p, by the field there: its value and the state past it, or its number and the state that was handed in
unfoldable pub field_taken : ℕ → ℕ → Judged ℕ → Taken
field_taken p n (done v) = record { number = 0; done = true; value = v; state = fresh_at (p + n) }
field_taken p n (refused number at) = record { number = number; done = false; value = 0; state = fresh_at p }

-- a call in a plain context leaves the histograms
abbrev pub plain_call : Histograms → Taken → ReadCall
plain_call hs result = record { result = result; histograms = hs }

-- fields one after the other from p on; after one that is missing the next is looked for in its place
unfoldable pub field_reads : List ℕ → ℕ → Histograms → List Width → List ReadCall
field_reads d p hs [] = []
field_reads d p hs (width ∷ widths) =
    let n = bytes_in width in
    let result = field_taken p n (field_at n d p) in
    plain_call hs result ∷ field_reads d (pick result.done (p + n) p) hs widths

-- the values of a run that starts at p, each done
unfoldable pub run_reads : ℕ → Histograms → List PlainValue → List ReadCall
run_reads p hs [] = []
run_reads p hs (v ∷ vs) =
    let n = bytes_in v.width in
    plain_call hs (field_taken p n (done v.value)) ∷ run_reads (p + n) hs vs
