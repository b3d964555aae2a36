-- The blocks of a whole file: the first block, what is told after it, and the buffers that hold the result. Assumes nothing.
use mathlib.Core.Path.{◌≡◌, refl, ap, ◌∙◌}
use mathlib.Core.Bool.{Bool, true, false}
use mathlib.Core.List.{List, ◌++◌}
use Prim.Native.Nat.{ℕ, ◌+◌, ◌*◌, ◌<◌, ◌≤◌}
use native.Mathlib.Omega.{arith}
use borrow.Author.Tests.{eqb-true, ltb-false, lt-ltb, le-ltb}
use lib.Dec.{eqb, ltb}
use lib.ListN.{length, drop}
use lib.Seq.{sets, sets-eq}
use Rattle.fields.specs.Numbers.{truncated, over_limit, bad_header, no_room}
use Rattle.fields.specs.Limits.{largest_file}
use Rattle.fields.specs.Judged.{Judged, done, refused, buffer_after}
use Rattle.fields.proofs.Judging.{value_before, refusal_before, passed, same_done}
use Rattle.blocks.specs.Kind.{header_type}
use Rattle.blocks.specs.Head.{head_size, data_size_at, head_at, extent_of, room_of, paddings_of}
use Rattle.blocks.specs.Header.{least_data, data_size_of, version_of, sizes_of, fields_of, rest_of, sized_of, judged_of, first_of}
use Rattle.blocks.specs.Block.{levels}
use Rattle.blocks.specs.Walk.{row_of, walk_of}
use Rattle.blocks.specs.Told.{row_width, row_words, all_of}
use Rattle.blocks.specs.Inside.{bytes_of, told_with, stored, answer_of, ToldFits, none_told, told_of}
use Rattle.blocks.specs.File.{after_first, file_of, file_words, walk_in, file_lines, lines_of, lines_in}
use Rattle.blocks.specs.declared.header.First.{First}
use Rattle.blocks.specs.declared.header.Sizes.{Sizes}
use Rattle.blocks.specs.declared.header.Version.{Version}
use Rattle.blocks.specs.declared.tell.Row.{Row}
use Rattle.blocks.specs.declared.tell.Told.{Told}
use Rattle.blocks.proofs.Fits.{chosen, extent_fits, room_within}
use Rattle.blocks.proofs.Stores.{row_told, words_length}
use Rattle.blocks.proofs.Turns.{Answered, answer_refused}

-- what the first block of a file was judged by
pub record FirstJudged (s : List ℕ) (first : First) : Type 0 where
  pub version : Version
  pub sizes : Sizes
  pub small : length s ≤ largest_file
  pub head_read : head_at s 0 ≡ done first.head
  pub type : first.head.block_type ≡ header_type
  pub version_read : version_of s ≡ done version
  pub size : first.head.data_size ≡ data_size_of version.profile
  pub sizes_read : sizes_of s ≡ done sizes
  pub fields_read : fields_of s version sizes ≡ done first.fields
  pub room : room_of (length s) 0 (extent_of 0 first.head) ≡ done tt
  pub zeros : paddings_of s (extent_of 0 first.head) ≡ done tt
  pub next : first.next ≡ (extent_of 0 first.head).next

pub first_judged : (s : List ℕ) (first : First) → first_of s ≡ done first → FirstJudged s first
unfolding first_of judged_of sized_of rest_of
first_judged s first e =
    let small = passed (ltb largest_file (length s)) over_limit 0 _ first e in
    let head = value_before (head_at s 0) _ first small.1 in
    let type = chosen (eqb head.0.block_type header_type) _ bad_header 0 first head.2 in
    let least = passed (ltb (length s) (head_size + least_data)) truncated head_size _ first type.1 in
    let version = value_before (version_of s) _ first least.1 in
    let size = chosen (eqb head.0.data_size (data_size_of version.0.profile)) _ bad_header data_size_at first version.2 in
    let whole = passed (ltb (length s) (head_size + head.0.data_size)) truncated head_size _ first size.1 in
    let sizes = value_before (sizes_of s) _ first whole.1 in
    let fields = value_before (fields_of s version.0 sizes.0) _ first sizes.2 in
    let room = value_before (room_of (length s) 0 (extent_of 0 head.0)) _ first fields.2 in
    let zeros = value_before (paddings_of s (extent_of 0 head.0)) _ first room.2 in
    rw (← same_done zeros.2) (record {
      version = version.0;
      sizes = sizes.0;
      small = ltb-false largest_file (length s) small.0;
      head_read = head.1;
      type = eqb-true _ header_type type.0;
      version_read = version.1;
      size = eqb-true _ (data_size_of version.0.profile) size.0;
      sizes_read = sizes.1;
      fields_read = fields.1;
      room = room.1;
      zeros = zeros.1;
      next = refl;
    })

-- the next block starts after the first one's numbers and within the bytes
pub record FirstFits (s : List ℕ) (first : First) : Type 0 where
  pub starts : 12 ≤ first.next
  pub ends : first.next ≤ length s
  pub small : length s ≤ largest_file

pub first_fits : (s : List ℕ) (first : First) → first_of s ≡ done first → FirstFits s first
first_fits s first e =
    let j = first_judged s first e in
    let f = extent_fits 0 first.head (extent_of 0 first.head) refl in
    let w = room_within (length s) 0 (extent_of 0 first.head) tt j.room in
    record {
      starts = omega (arith, f.starts, f.data_padding, f.meta_data, f.meta_padding, j.next);
      ends = omega (arith, w.2, j.next);
      small = j.small;
    }

-- the first block is told, and then the others
pub after_first_lem : (s : List ℕ) (first : First) (lines : Bool) (table text table₁ text₁ : List ℕ) (row : Row) (told₁ : Told)
    → row ≡ row_of 0 first.head 0 → told₁ ≡ told_with lines none_told row
    → table₁ ≡ sets table (none_told.blocks * row_width) (row_words row) → text₁ ≡ sets text none_told.bytes (bytes_of lines row)
    → stored table text none_told lines (after_first s first) ≡ stored table₁ text₁ told₁ lines (walk_of levels (length s) s first.next false)
unfolding after_first
after_first_lem s first lines table text table₁ text₁ row told₁ r n t x =
    row_told table text none_told lines (row_of 0 first.head 0) (walk_of levels (length s) s first.next false) ∙ rw (n, t, x, r)

pub fits_more : (a b : ℕ) (j : Judged Told) → a ≤ b → ToldFits a j → ToldFits b j
fits_more a b (done told) h f = (omega (arith, f.0), omega (arith, f.1))
fits_more a b (refused n p) h f = tt

pub file_after : (s : List ℕ) (first : First) → first_of s ≡ done first → file_of s ≡ after_first s first
unfolding file_of
file_after s first e = rw e

pub file_refused : (s : List ℕ) (lines : Bool) (table text : List ℕ) (n p : ℕ) → first_of s ≡ refused n p
    → Answered (stored table text none_told lines (file_of s)) (refused n p) table text
unfolding file_of
file_refused s lines table text n p q = answer_refused _ table text none_told lines n p (rw q)

-- what a whole file tells does not depend on the table and the text
pub told_whole : (s : List ℕ) (lines : Bool) (table text : List ℕ) → answer_of (stored table text none_told lines (file_of s)) ≡ told_of lines s
unfolding answer_of stored told_of
told_whole s lines table text =
    let b : 0 + length (file_of s).rows ≡ length (file_of s).rows = omega arith in
    let y : 0 + length (all_of (bytes_of lines) (file_of s).rows) ≡ length (all_of (bytes_of lines) (file_of s).rows) = omega arith in
    rw (b, y)

-- the numbers of a value
blocks_in : Judged Told → ℕ
blocks_in (done told) = told.blocks
blocks_in (refused n p) = 0

bytes_in : Judged Told → ℕ
bytes_in (done told) = told.bytes
bytes_in (refused n p) = 0

-- a result at the start of a buffer that holds it
pub at_start : (result buffer : List ℕ) → length result ≤ length buffer → sets buffer 0 result ≡ result ++ drop (length result) buffer
at_start result buffer h =
    let z : 0 + length result ≡ length result = omega arith in
    let w : 0 + length result ≤ length buffer = omega arith in
    sets-eq result buffer 0 w ∙ rw z

-- the rows in a table
module _ (s table : List ℕ) where
  abbrev pub Rows : Judged ℕ → List ℕ → Type 0
  Rows answer table' = (answer ≡ walk_in s table) × (table' ≡ buffer_after (walk_in s table) (file_words s) table)

  pub rows_refused : (n p : ℕ) → told_of false s ≡ refused n p → Rows (refused n p) table
  unfolding told_of walk_in
  rows_refused n p e = let q = refusal_before (file_of s).ending _ n p e in (rw q, rw q)

  -- what a file told is what its rows are
  row_count : (told : Told) → told_of false s ≡ done told
      → (u : Unit {0}) × ((file_of s).ending ≡ done u) × (length (file_of s).rows ≡ told.blocks) × (length (file_words s) ≡ told.blocks * row_width)
  unfolding told_of file_words blocks_in
  row_count told e =
      let q = value_before (file_of s).ending _ told e in
      let b : length (file_of s).rows ≡ told.blocks = ap (λ (t : Judged Told). blocks_in t) q.2 in
      (q.0, q.1, b, words_length (file_of s).rows ∙ ap (λ (n : ℕ). n * row_width) b)

  pub rows_short : (told : Told) → told_of false s ≡ done told → length table < told.blocks * row_width → Rows (refused no_room 0) table
  unfolding walk_in
  rows_short told e h =
      let q = row_count told e in
      let t = lt-ltb (length table) (length (file_words s)) (omega (arith, q.3)) in
      (rw (q.1, t), rw (q.1, t))

  pub rows_done : (told : Told) (table' : List ℕ) → told_of false s ≡ done told → told.blocks * row_width ≤ length table → table' ≡ sets table 0 (file_words s)
      → Rows (done told.blocks) table'
  unfolding walk_in
  rows_done told table' e h x =
      let q = row_count told e in
      let t = le-ltb (length table) (length (file_words s)) (omega (arith, q.3)) in
      (rw (q.1, t, q.2), rw (q.1, t) (x ∙ at_start (file_words s) table (omega (arith, q.3))))

-- the lines in a text
module _ (s text : List ℕ) where
  abbrev pub Texts : Judged Told → List ℕ → Type 0
  Texts answer text' = (answer ≡ lines_in s text) × (text' ≡ buffer_after (lines_in s text) (file_lines s) text)

  pub lines_told : told_of true s ≡ lines_of s
  unfolding told_of lines_of file_lines
  lines_told = refl

  pub lines_refused : (n p : ℕ) → lines_of s ≡ refused n p → Texts (refused n p) text
  unfolding lines_in
  lines_refused n p e = (rw e, rw e)

  pub byte_count : (told : Told) → lines_of s ≡ done told → length (file_lines s) ≡ told.bytes
  unfolding lines_of bytes_in
  byte_count told e = ap (λ (t : Judged Told). bytes_in t) (value_before (file_of s).ending _ told e).2

  pub lines_short : (told : Told) → lines_of s ≡ done told → length text < told.bytes → Texts (refused no_room 0) text
  unfolding lines_in
  lines_short told e h =
      let t = lt-ltb (length text) (length (file_lines s)) (omega (arith, byte_count told e)) in
      (rw (e, t), rw (e, t))

  -- lines that fit are taken
  pub lines_fit : (told : Told) → lines_of s ≡ done told → told.bytes ≤ length text → lines_in s text ≡ done told
  unfolding lines_in
  lines_fit told e h = rw (e, le-ltb (length text) (length (file_lines s)) (omega (arith, byte_count told e)))

  pub lines_done : (told : Told) (text' : List ℕ) → lines_of s ≡ done told → told.bytes ≤ length text → text' ≡ sets text 0 (file_lines s) → Texts (done told) text'
  unfolding lines_in
  lines_done told text' e h x =
      let t = le-ltb (length text) (length (file_lines s)) (omega (arith, byte_count told e)) in
      (rw (e, t), rw (e, t) (x ∙ at_start (file_lines s) text (omega (arith, byte_count told e))))

-- the table and the text that a whole file leaves
pub words_stored : (s table text : List ℕ) (lines : Bool) → (stored table text none_told lines (file_of s)).table ≡ sets table 0 (file_words s)
unfolding stored file_words
words_stored s table text lines = refl

pub lines_stored : (s table text : List ℕ) → (stored table text none_told true (file_of s)).text ≡ sets text 0 (file_lines s)
unfolding stored file_lines
lines_stored s table text = refl
