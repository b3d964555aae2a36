-- At fresh limits the coder's reader and the headers' reader agree on every plain value, in any bytes; so each gives back a run that was written.
use Prim.Native.Nat.{ℕ, zero, suc, ◌+◌, ◌*◌, ◌/◌, ◌^◌, ◌≤◌, ◌<◌}
use Rattle.coder.proofs.Judgements.{looked_hold, readable_hold}
use Rattle.coder.proofs.Reversal.{reversed_twice}
use Rattle.coder.proofs.Streams.{bit_binary}
use Rattle.coder.specs.Bytes.{bit_at}
use Rattle.coder.specs.Interval.{fresh}
use Rattle.coder.specs.Reading.{read_fault, read_number, take_plain, taken}
use Rattle.coder.specs.Symbols.{reversed}
use Rattle.coder.specs.Values.{read_plain}
use Rattle.coder.specs.Writing.{bytes_in}
use Rattle.coder.specs.declared.interval.Coder.{Coder}
use Rattle.coder.specs.declared.write.Width.{Width}
use Rattle.coder.specs.declared.write.Width as width
use Rattle.coder_theorems.proofs.Opening.{Whole, whole_number}
use Rattle.coder_theorems.specs.Runs.{AllTyped, Histograms, ReadCall, after_steps, begun, call_read, read_calls}
use Rattle.fields.specs.Field.{field_at, little_endian}
use Rattle.fields.specs.Judged.{Judged, done, pick, refused, refused_if}
use Rattle.fields.specs.Limits.{largest_file}
use Rattle.fields.specs.Numbers.{truncated}
use Rattle.fields_theorems.proofs.FieldsBack.{field_back, length_number_bytes}
use Rattle.fields_theorems.proofs.Seams.{past}
use Rattle.fields_theorems.specs.Encoding.{Bytes, number_bytes}
use Rattle.plain_theorems.proofs.Byte.{byte_read, part_fresh}
use Rattle.plain_theorems.proofs.PlainWritten.{plain_from_fresh}
use Rattle.plain_theorems.specs.PlainRuns.{PlainValue, field_reads, field_taken, fresh_at, plain_call, plain_context, plain_number, put_all, run_bytes, run_reads, width_in}
use borrow.Author.Tests.{le-leb, le-ltb, leb-false, leb-true, lt-leb, lt-ltb, ltb-false}
use lib.Dec.{leb, ltb}
use lib.ListN.{drop, get_or, length, length-append, length-drop}
use lib.Seq.{get_or-drop}
use mathlib.Core.Bool.{Bool, true, false}
use mathlib.Core.List.{List, [], ◌∷◌, ◌++◌, map, append_assoc}
use mathlib.Core.Path.{◌≡◌, ◌∙◌, ap, refl}
use native.Mathlib.Nat.{add-zero, not-suc-le-zero}
use native.Mathlib.Omega.{arith}

-- ---- a value

-- what is found: the number that the bytes make, the low one first, and fresh limits after them
number_found : (n p : ℕ) (d : List ℕ) → Bytes d → read_plain n (bit_at d) (fresh_at p) ≡ record { value = little_endian n d p; state = fresh_at (p + n) }
unfolding read_plain little_endian
number_found zero p d small = rw add-zero
number_found (suc n) p d small =
    let b : ℕ = get_or d p 0 in
    let place : suc p + n ≡ p + suc n = omega arith in
    let rest = number_found n (suc p) d small in
    rw (byte_read d p, part_fresh p (reversed 8 b), rest, reversed_twice b (small p), place)

-- any data are at no fault
fresh_readable : (look : Bool) (d : List ℕ) (p : ℕ) → length d ≤ largest_file → 8 * p < 2 ^ 32 → read_fault look d (fresh_at p) ≡ 0
fresh_readable look d p small few =
    let whole : Whole (fresh_at p) = record { low = refl; high = refl; pending = refl } in
    readable_hold look d (fresh_at p)
    (record {
      small = small;
      reading = record { limits = omega arith; from_low = omega arith; to_high = whole_number (fresh_at p) (bit_at d) (bit_binary d) whole };
      settled_small = few;
      pending_small = omega arith;
      looked = looked_hold look (fresh_at p) (bit_at d) (λ i h. absurd (not-suc-le-zero h));
    })

-- 02, Ask 13: "the coder's reader and our headers' reader agree": in any bytes, at fresh limits after p of them, the judged reader and the one for
-- runs read a plain value just where there is a field of its width, as its value, and are refused as the field is.
pub plain_read_is_field : (look : Bool) (n : ℕ) (d : List ℕ) (p : ℕ) → Bytes d → length d ≤ largest_file → 8 * p < 2 ^ 32
    → take_plain look n d (fresh_at p) ≡ field_taken p n (field_at n d p)
unfolding take_plain read_number taken field_taken field_at
plain_read_is_field look n d p bytes small few = go (leb (p + n) (length d)) refl
  where
    go : (t : Bool) → leb (p + n) (length d) ≡ t → take_plain look n d (fresh_at p) ≡ field_taken p n (field_at n d p)
    go true e =
        let whole : p + n ≤ length d = leb-true _ _ e in
        let bits : 8 * (p + n) ≤ 8 * length d = omega arith in
        rw (number_found n p d bytes, fresh_readable look d p small few, le-leb _ _ bits, le-ltb _ _ whole)
    go false e =
        let cut : length d < p + n = leb-false _ _ e in
        let bits : 8 * length d < 8 * (p + n) = omega arith in
        rw (number_found n p d bytes, fresh_readable look d p small few, lt-leb _ _ bits, lt-ltb _ _ cut)

-- ---- values one after the other

-- the state after a field, and that what was read lies within the data
read_state : (p n : ℕ) (f : Judged ℕ) → let r = field_taken p n f in r.state ≡ fresh_at (pick r.done (p + n) p)
unfolding field_taken
read_state p n (done v) = refl
read_state p n (refused number at) = refl

read_within : (d : List ℕ) (p n : ℕ) → p ≤ length d → pick (field_taken p n (field_at n d p)).done (p + n) p ≤ length d
unfolding field_taken field_at
read_within d p n here = go (ltb (length d) (p + n)) refl
  where
    go : (t : Bool) → ltb (length d) (p + n) ≡ t
        → pick (field_taken p n (refused_if t truncated p (done (little_endian n d p)))).done (p + n) p ≤ length d
    go true e = here
    go false e = ltb-false _ _ e

-- Of any list of widths, the reader's calls say what the fields one after the other say, refusals too.
pub plain_reads_are_fields : (d : List ℕ) (widths : List Width) (p : ℕ) (hs : Histograms) → Bytes d → length d ≤ largest_file → p ≤ length d
    → read_calls d (fresh_at p) hs (map plain_context widths) ≡ field_reads d p hs widths
unfolding read_calls call_read field_reads
plain_reads_are_fields d [] p hs bytes small here = refl
plain_reads_are_fields d (width ∷ widths) p hs bytes small here =
    let n : ℕ = bytes_in width in
    let f : Judged ℕ = field_at n d p in
    let rest : read_calls d (field_taken p n f).state hs (map plain_context widths) ≡ field_reads d (pick (field_taken p n f).done (p + n) p) hs widths =
    ap (λ (s : Coder). read_calls d s hs (map plain_context widths)) (read_state p n f)
    ∙ plain_reads_are_fields d widths _ hs bytes small (read_within d p n here) in
    rw (plain_read_is_field true n d p bytes small (omega arith)) (ap (λ (rs : List ReadCall). plain_call hs (field_taken p n f) ∷ rs) rest)

-- ---- a run

some_bytes : (width : Width) → 0 < bytes_in width
some_bytes width.TheVariants.U8 = omega arith
some_bytes width.TheVariants.U16 = omega arith
some_bytes width.TheVariants.U32 = omega arith

-- the fields of a run's bytes are its values
run_fields : (run : List PlainValue) (d rest : List ℕ) (p : ℕ) (hs : Histograms) → AllTyped (map plain_number run) → drop p d ≡ run_bytes run ++ rest
    → field_reads d p hs (map width_in run) ≡ run_reads p hs run
unfolding AllTyped field_reads field_taken run_bytes run_reads
run_fields [] d rest p hs typed here = refl
run_fields (v ∷ run) d rest p hs typed here =
    let n : ℕ = bytes_in v.width in
    let bytes : List ℕ = number_bytes n v.value in
    let first : drop p d ≡ bytes ++ (run_bytes run ++ rest) = here ∙ append_assoc bytes (run_bytes run) rest in
    let field : field_at n d p ≡ done v.value = field_back n d (run_bytes run ++ rest) p v.value (some_bytes v.width) typed.0 first in
    let next : drop (p + n) d ≡ run_bytes run ++ rest = past d bytes (run_bytes run ++ rest) p first n (length_number_bytes n v.value) in
    rw field (ap (λ (rs : List ReadCall). plain_call hs (field_taken p n (done v.value)) ∷ rs) (run_fields run d rest (p + n) hs typed.1 next))

-- Where a run's bytes stand from p on, each reader gives back its values, one after the other.
pub plain_read_back : (run : List PlainValue) (d rest : List ℕ) (p : ℕ) (hs : Histograms) → AllTyped (map plain_number run) → Bytes d
    → length d ≤ largest_file → p ≤ length d → drop p d ≡ run_bytes run ++ rest
    → (read_calls d (fresh_at p) hs (map plain_context (map width_in run)) ≡ run_reads p hs run) × (field_reads d p hs (map width_in run) ≡ run_reads p hs run)
plain_read_back run d rest p hs typed bytes small within here =
    let fields = run_fields run d rest p hs typed here in
    (plain_reads_are_fields d (map width_in run) p hs bytes small within ∙ fields, fields)

-- ---- what was written

append_bytes : (xs ys : List ℕ) → Bytes xs → Bytes ys → Bytes (xs ++ ys)
append_bytes [] ys a b i = b i
append_bytes (x ∷ xs) ys a b zero = a zero
append_bytes (x ∷ xs) ys a b (suc i) = append_bytes xs ys (λ j. a (suc j)) b i

number_bytes_lem : (n v : ℕ) → Bytes (number_bytes n v)
unfolding number_bytes
number_bytes_lem zero v i = omega arith
number_bytes_lem (suc n) v zero = omega arith
number_bytes_lem (suc n) v (suc i) = number_bytes_lem n (v / 256) i

run_bytes_lem : (run : List PlainValue) → Bytes (run_bytes run)
unfolding run_bytes
run_bytes_lem [] i = omega arith
run_bytes_lem (v ∷ run) i =
    let n : ℕ = bytes_in v.width in
    append_bytes (number_bytes n v.value) (run_bytes run) (number_bytes_lem n v.value) (run_bytes_lem run) i

-- From the buffer that a run was written into from a fresh start, whatever bytes stand past it, each reader gives back its values.
pub plain_written_back : (run : List PlainValue) (buffer : List ℕ) (hs others : Histograms) → AllTyped (map plain_number run) → Bytes buffer
    → length (run_bytes run) ≤ length buffer → length buffer ≤ largest_file
    → (let d = (after_steps (begun buffer hs) (put_all run)).buffer in
    (read_calls d fresh others (map plain_context (map width_in run)) ≡ run_reads 0 others run) × (field_reads d 0 others (map width_in run) ≡ run_reads 0 others run))
plain_written_back run buffer hs others typed bytes fit small =
    let n : ℕ = length (run_bytes run) in
    let rest : List ℕ = drop n buffer in
    let d : List ℕ = run_bytes run ++ rest in
    let rest-bytes : Bytes rest = λ i. rw (get_or-drop n buffer i 0) (bytes (n + i)) in
    let long : length d ≡ length buffer = length-append (run_bytes run) rest ∙ omega (arith, length-drop n buffer) in
    rw (plain_from_fresh run buffer hs typed fit small).1
    (plain_read_back run d rest 0 others typed (append_bytes (run_bytes run) rest (run_bytes_lem run) rest-bytes) (omega arith) (omega arith) refl)
