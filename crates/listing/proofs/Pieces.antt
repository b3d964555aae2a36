-- Pieces of text stored one after the other at the start of a buffer, each in what the one before left. Assumes nothing.
use mathlib.Core.Path.{◌≡◌, ap, sym, ◌∙◌}
use mathlib.Core.List.{List, [], ◌++◌, append_assoc, append-nil}
use Prim.Native.Nat.{ℕ, ◌+◌, ◌-◌, ◌<◌, ◌≤◌}
use native.Mathlib.Omega.{arith}
use borrow.Author.Tests.{lt-ltb, le-ltb}
use borrow.Rule.Slice.PartMut.{put_mid}
use lib.Dec.{ltb}
use lib.ListN.{length, take, drop, length-append, length-drop}
use lib.Seq.{sets, take_all, take_at, drop_at, drop-drop, drop-length}
use Rattle.fields.specs.Numbers.{no_room, over_limit}
use Rattle.fields.specs.Judged.{done, refused, buffer_after}
use Rattle.fields.proofs.Judging.{passed}
use Rattle.text.specs.Digits.{decimal_field}
use Rattle.text.proofs.Stores.{stores_on}
use Rattle.text.proofs.Widths.{decimal_length}
use Rattle.blocks.specs.Told.{tab, line_feed}
use Rattle.blocks.specs.File.{file_lines, lines_of, lines_in}
use Rattle.blocks.proofs.Files.{at_start, byte_count, lines_fit}
use Rattle.blocks.specs.declared.tell.Told.{Told}
use Rattle.listing.specs.Listing.{first_line, end_word, end_line, file_within, listing_with, listing_of, written}

-- the part behind the first piece
module _ (a t d : List ℕ) (lo : ℕ) (e : d ≡ a ++ t) (l : lo ≡ length a) where
  rest_length : length d - lo ≡ length t
  rest_length = let n = ap length e ∙ length-append a t in omega arith

  rest : drop lo d ≡ t
  rest = rw e (drop_at a t lo (sym l))

  tail_part : take (length d - lo) (drop lo d) ≡ t
  tail_part = rw (rest, rest_length) (take_all (length t) t (omega arith))

  -- that part with a piece at its start
  tail_stored : (b p : List ℕ) → p ≡ b ++ drop (length b) t → put_mid lo (length d - lo) d p ≡ (a ++ b) ++ drop (length b) t
  tail_stored b p q =
      let first : take lo d ≡ a = rw e (take_at a t lo (sym l)) in
      let none : drop (length d - lo) (drop lo d) ≡ [] = rw (rest, rest_length) (drop-length t) in
      rw (first, none, q) (ap (λ (x : List ℕ). a ++ x) (append-nil (b ++ drop (length b) t)) ∙ sym (append_assoc a b (drop (length b) t)))

  -- the same for a piece that was stored there
  tail_piece : (b p : List ℕ) → length b ≤ length t → p ≡ sets (take (length d - lo) (drop lo d)) 0 b
      → put_mid lo (length d - lo) d p ≡ (a ++ b) ++ drop (length b) t
  tail_piece b p h q = tail_stored b p (q ∙ ap (λ (x : List ℕ). sets x 0 b) tail_part ∙ at_start b t h)

-- pieces stored are one text stored
two_pieces : (t a e : List ℕ) → (a ++ e) ++ drop (length e) (drop (length a) t) ≡ (a ++ e) ++ drop (length (a ++ e)) t
two_pieces t a e = rw (drop-drop (length e) (length a) t, length-append a e)

three_pieces : (t a l e : List ℕ) → ((a ++ l) ++ e) ++ drop (length e) (drop (length l) (drop (length a) t)) ≡ (a ++ (l ++ e)) ++ drop (length (a ++ (l ++ e))) t
three_pieces t a l e =
    let n : length (a ++ (l ++ e)) ≡ length a + length l + length e = length-append a (l ++ e) ∙ ap (λ (k : ℕ). length a + k) (length-append l e) ∙ omega arith in
    rw (drop-drop (length l) (length a) t, drop-drop (length e) (length a + length l) t, append_assoc a l e, n)

-- a listing that the buffer holds, and one that it can't hold
answer_written : (result text text' : List ℕ) (size : ℕ) → size ≡ length result → size ≤ length text → text' ≡ result ++ drop (length result) text
    → (done size ≡ written result text) × (text' ≡ buffer_after (written result text) result text)
answer_written result text text' size s h e =
    let t = le-ltb (length text) (length result) (omega arith) in
    (rw (t, s), rw t e)

answer_short : (result text : List ℕ) → length text < length result
    → (refused no_room 0 ≡ written result text) × (text ≡ buffer_after (written result text) result text)
answer_short result text h = let t = lt-ltb (length text) (length result) h in (rw t, rw t)

-- the lengths
pub end_length : (number blocks : ℕ) → length (end_line number blocks) ≡ 4 + (length (decimal_field number tab) + length (decimal_field blocks line_feed))
unfolding end_line
end_length number blocks = simp length-append (omega arith)

pub end_short : (number blocks : ℕ) → length (end_line number blocks) ≤ 46
end_short number blocks = omega (arith, end_length number blocks, decimal_length number tab, decimal_length blocks line_feed)

done_listing : (s : List ℕ) (told : Told) → lines_of s ≡ done told → listing_with (lines_of s) (file_lines s) ≡ first_line ++ (file_lines s ++ end_line 0 told.blocks)
unfolding listing_with
done_listing s told e = rw e

pub end-stored : (number blocks r₁ r₂ : ℕ) (t₀ t₁ t₂ t₃ : List ℕ) → t₁ ≡ sets t₀ 0 end_word → r₁ ≡ 4
    → t₂ ≡ sets t₁ r₁ (decimal_field number tab) → r₂ ≡ length (decimal_field number tab) → t₃ ≡ sets t₂ (r₁ + r₂) (decimal_field blocks line_feed)
    → t₃ ≡ sets t₀ 0 (end_line number blocks)
unfolding end_line
end-stored number blocks r₁ r₂ t₀ t₁ t₂ t₃ e₁ l₁ e₂ l₂ e₃ =
    let z₁ : r₁ ≡ 0 + r₁ = omega arith in
    let z₂ : r₁ + r₂ ≡ 0 + r₁ + r₂ = omega arith in
    e₃ ∙ ap (λ (n : ℕ). sets t₂ n (decimal_field blocks line_feed)) z₂
    ∙ stores_on t₁ t₂ (0 + r₁) (decimal_field number tab) (decimal_field blocks line_feed) r₂ (e₂ ∙ ap (λ (n : ℕ). sets t₁ n (decimal_field number tab)) z₁) l₂
    ∙ stores_on t₀ t₁ 0 end_word (decimal_field number tab ++ decimal_field blocks line_feed) r₁ e₁ l₁

-- a refused file's listing, its two pieces stored
module _ (number place : ℕ) (t₀ t₁ p : List ℕ) (r size : ℕ) where
  pub refused_stored : t₁ ≡ sets t₀ 0 first_line → r ≡ 9 → p ≡ sets (take (length t₁ - r) (drop r t₁)) 0 (end_line number 0)
      → size ≡ 9 + length (end_line number 0) → size ≤ length t₀
      → (done size ≡ written (listing_with (refused number place) []) t₀)
      × (put_mid r (length t₁ - r) t₁ p ≡ buffer_after (written (listing_with (refused number place) []) t₀) (listing_with (refused number place) []) t₀)
  unfolding listing_with
  refused_stored f l q n h =
      let end = end_line number 0 in
      let first : t₁ ≡ first_line ++ drop 9 t₀ = f ∙ at_start first_line t₀ (omega arith) in
      let room : length end ≤ length (drop 9 t₀) = rw (length-drop 9 t₀) (omega arith) in
      let all = tail_piece first_line (drop 9 t₀) t₁ r first l end p room q ∙ two_pieces t₀ first_line end in
      answer_written (first_line ++ end) t₀ _ size (n ∙ sym (length-append first_line end)) h all

-- the lines of a good file fit behind the first line
pub lines_taken : (s : List ℕ) (told : Told) (t₀ t₁ : List ℕ) (r : ℕ) → lines_of s ≡ done told → t₁ ≡ sets t₀ 0 first_line → r ≡ 9
    → 9 + length (end_line 0 told.blocks) + told.bytes ≤ length t₀ → lines_in s (take (length t₁ - r) (drop r t₁)) ≡ done told
lines_taken s told t₀ t₁ r j f l h =
    let first : t₁ ≡ first_line ++ drop 9 t₀ = f ∙ at_start first_line t₀ (omega arith) in
    rw (tail_part first_line (drop 9 t₀) t₁ r first l) (lines_fit s (drop 9 t₀) told j (rw (length-drop 9 t₀) (omega arith)))

-- a good file's listing, its three pieces stored
module _ (s : List ℕ) (told : Told) (t₀ t₁ t₂ p₁ p₂ : List ℕ) (r size : ℕ) where
  pub done_stored : lines_of s ≡ done told → t₁ ≡ sets t₀ 0 first_line → r ≡ 9
      → p₁ ≡ buffer_after (lines_in s (take (length t₁ - r) (drop r t₁))) (file_lines s) (take (length t₁ - r) (drop r t₁)) → t₂ ≡ put_mid r (length t₁ - r) t₁ p₁
      → p₂ ≡ sets (take (length t₂ - (r + told.bytes)) (drop (r + told.bytes) t₂)) 0 (end_line 0 told.blocks)
      → size ≡ 9 + length (end_line 0 told.blocks) + told.bytes → size ≤ length t₀
      → (done size ≡ written (listing_with (lines_of s) (file_lines s)) t₀)
      × (put_mid (r + told.bytes) (length t₂ - (r + told.bytes)) t₂ p₂ ≡ buffer_after (written (listing_with (lines_of s) (file_lines s)) t₀) (listing_with (lines_of s) (file_lines s)) t₀)
  done_stored j f l q e q' n h =
      let end = end_line 0 told.blocks in
      let lines = file_lines s in
      let behind = drop 9 t₀ in
      let bytes : length lines ≡ told.bytes = byte_count s t₀ told j in
      let first : t₁ ≡ first_line ++ behind = f ∙ at_start first_line t₀ (omega arith) in
      let rest : length behind ≡ length t₀ - 9 = length-drop 9 t₀ in
      let part = tail_part first_line behind t₁ r first l in
      let taken : lines_in s behind ≡ done told = lines_fit s behind told j (omega arith) in
      let placed : p₁ ≡ lines ++ drop (length lines) behind = q ∙ rw (part, taken) in
      let second : t₂ ≡ (first_line ++ lines) ++ drop (length lines) behind = e ∙ tail_stored first_line behind t₁ r first l lines p₁ placed in
      let room : length end ≤ length (drop (length lines) behind) = rw (length-drop (length lines) behind) (omega arith) in
      let at : r + told.bytes ≡ length (first_line ++ lines) = rw (length-append first_line lines) (omega arith) in
      let third = tail_piece (first_line ++ lines) (drop (length lines) behind) t₂ (r + told.bytes) second at end p₂ room q' ∙ three_pieces t₀ first_line lines end in
      let length-all : length (first_line ++ (lines ++ end)) ≡ 9 + (length lines + length end) = length-append first_line (lines ++ end) ∙ ap (λ (k : ℕ). 9 + k) (length-append lines end) in
      rw (done_listing s told j) (answer_written (first_line ++ (lines ++ end)) t₀ _ size (omega arith) h third)

-- a listing that the buffer can't hold
pub refused_short : (number place : ℕ) (t : List ℕ) → length t < 9 + length (end_line number 0)
    → (refused no_room 0 ≡ written (listing_with (refused number place) []) t)
    × (t ≡ buffer_after (written (listing_with (refused number place) []) t) (listing_with (refused number place) []) t)
unfolding listing_with
refused_short number place t h = answer_short (first_line ++ end_line number 0) t (rw (length-append first_line (end_line number 0)) h)

pub done_short : (s : List ℕ) (told : Told) (t : List ℕ) → lines_of s ≡ done told → length t < 9 + length (end_line 0 told.blocks) + told.bytes
    → (refused no_room 0 ≡ written (listing_with (lines_of s) (file_lines s)) t)
    × (t ≡ buffer_after (written (listing_with (lines_of s) (file_lines s)) t) (listing_with (lines_of s) (file_lines s)) t)
done_short s told t j h =
    let end = end_line 0 told.blocks in
    let bytes : length (file_lines s) ≡ told.bytes = byte_count s t told j in
    let n : length (first_line ++ (file_lines s ++ end)) ≡ 9 + (length (file_lines s) + length end)
    = length-append first_line (file_lines s ++ end) ∙ ap (λ (k : ℕ). 9 + k) (length-append (file_lines s) end) in
    rw (done_listing s told j) (answer_short (first_line ++ (file_lines s ++ end)) t (omega arith))

-- a file judged within a limit, and its listing
pub within_limit : (limit : ℕ) (s : List ℕ) (told : Told) → file_within limit s ≡ done told → lines_of s ≡ done told
unfolding file_within
within_limit limit s told e = (passed (ltb limit (length s)) over_limit 0 (lines_of s) told e).1

pub listing_refused : (limit : ℕ) (s : List ℕ) (number place : ℕ) → file_within limit s ≡ refused number place
    → listing_of limit s ≡ listing_with (refused number place) []
unfolding listing_of listing_with
listing_refused limit s number place q = rw q

pub listing_done : (limit : ℕ) (s : List ℕ) (told : Told) → file_within limit s ≡ done told → listing_of limit s ≡ listing_with (lines_of s) (file_lines s)
unfolding listing_of
listing_done limit s told q = rw (q, within_limit limit s told q)
