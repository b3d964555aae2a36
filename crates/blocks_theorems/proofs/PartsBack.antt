-- The parts of a block that is laid out are found where they stand: its leading numbers, its room, its paddings.
use Prim.Native.Nat.{ℕ, zero, suc, ◌+◌, ◌-◌, ◌≤◌, ◌<◌}
use mathlib.Core.List.{List, [], ◌∷◌, ◌++◌, append_assoc}
use mathlib.Core.Path.{◌≡◌, refl, ap, ◌∙◌}
use native.Mathlib.Omega.{arith}
use borrow.Author.Tests.{le-ltb}
use lib.ListN.{drop, length, length-append, length-replicate, replicate, take}
use lib.Seq.{drop_at, length-take-le, take-add, take-append_seam}
use Rattle.fields.specs.Judged.{done}
use Rattle.fields.specs.Limits.{largest_file}
use Rattle.blocks.specs.Padding.{fine, zeros_of}
use Rattle.blocks.specs.Head.{head_at, extent_of, room_of, paddings_of}
use Rattle.blocks.specs.declared.head.Head.{Head}
use Rattle.fields_theorems.specs.Encoding.{number_bytes, word_bytes}
use Rattle.fields_theorems.proofs.Seams.{first_at, past, second_at, within}
use Rattle.fields_theorems.proofs.FieldsBack.{after_words, field_back, length_word_bytes}
use Rattle.blocks_theorems.specs.RowParts.{padding}
use Rattle.blocks_theorems.specs.Layout.{with_padding, block_bytes}

-- ---- parts

pub length_with_padding : (part : List ℕ) → length (with_padding part) ≡ length part + padding (length part)
unfolding with_padding
length_with_padding part = omega (arith, length-append part (replicate (padding (length part)) 0), length-replicate {A = ℕ} (padding (length part)) 0)

pub length_block : (type : ℕ) (content meta : List ℕ)
    → length (block_bytes type content meta) ≡ 12 + (length content + padding (length content)) + (length meta + padding (length meta))
unfolding block_bytes
length_block type content meta =
    let words = type ∷ length content ∷ length meta ∷ [] in
    omega (
      arith,
      length-append (word_bytes words) (with_padding content ++ with_padding meta),
      length_word_bytes words,
      length-append (with_padding content) (with_padding meta),
      length_with_padding content,
      length_with_padding meta,
    )

-- zero bytes are passed
pub zeros_back : (k : ℕ) (s rest : List ℕ) (at : ℕ) → drop at s ≡ replicate k 0 ++ rest → zeros_of k s at ≡ fine
unfolding zeros_of
zeros_back zero s rest at here = refl
zeros_back (suc k) s rest at here =
    rw (first_at s 0 (replicate k 0 ++ rest) at 0 here) (zeros_back k s rest (suc at) (second_at s 0 (replicate k 0 ++ rest) at here))

-- what stands in the bytes up to its own end
pub up_to : (s part rest : List ℕ) (at end : ℕ) → at ≤ length s → drop at s ≡ part ++ rest → at + length part ≡ end → drop at (take end s) ≡ part
up_to s part rest at end h here e =
    rw (← e, take-add at (length part) s) (drop_at (take at s) (take (length part) (drop at s)) at (length-take-le at s h))
    ∙ ap (λ (l : List ℕ). take (length part) l) here ∙ take-append_seam part rest

-- ---- a block at an offset

-- the leading numbers of a block
abbrev pub head_of : ℕ → List ℕ → List ℕ → Head
head_of type content meta = record { block_type = type; data_size = length content; meta_size = length meta }

module _ (s rest : List ℕ) (at type : ℕ) (content meta : List ℕ) (here : drop at s ≡ block_bytes type content meta ++ rest) where
  -- where its parts stand
  head_here : drop at s ≡ word_bytes (type ∷ length content ∷ length meta ∷ []) ++ (with_padding content ++ (with_padding meta ++ rest))
  unfolding block_bytes
  head_here = here ∙ simp append_assoc

  pub data_here : drop (at + 12) s ≡ content ++ (replicate (padding (length content)) 0 ++ (with_padding meta ++ rest))
  unfolding with_padding
  data_here = after_words s (type ∷ length content ∷ length meta ∷ []) (with_padding content ++ (with_padding meta ++ rest)) at 12 head_here refl ∙ simp append_assoc

  data_padding_here : drop (at + 12 + length content) s ≡ replicate (padding (length content)) 0 ++ (with_padding meta ++ rest)
  data_padding_here = past s content (replicate (padding (length content)) 0 ++ (with_padding meta ++ rest)) (at + 12) data_here (length content) refl

  pub meta_here : drop (at + 12 + length content + padding (length content)) s ≡ meta ++ (replicate (padding (length meta)) 0 ++ rest)
  unfolding with_padding
  meta_here =
      past s (replicate (padding (length content)) 0) (with_padding meta ++ rest) (at + 12 + length content) data_padding_here (padding (length content))
      (length-replicate (padding (length content)) 0) ∙ simp append_assoc

  meta_padding_here : drop (at + 12 + length content + padding (length content) + length meta) s ≡ replicate (padding (length meta)) 0 ++ rest
  meta_padding_here =
      past s meta (replicate (padding (length meta)) 0 ++ rest) (at + 12 + length content + padding (length content)) meta_here (length meta) refl

  pub block_within : at + length (block_bytes type content meta) ≤ length s
  block_within = within s (block_bytes type content meta) rest at here (omega (arith, length_block type content meta))

  pub next_here : drop (at + length (block_bytes type content meta)) s ≡ rest
  next_here = past s (block_bytes type content meta) rest at here (length (block_bytes type content meta)) refl

  -- its leading numbers, where each fits a U32
  pub head_back : type < 0x100000000 → length s ≤ largest_file → head_at s at ≡ done (head_of type content meta)
  unfolding head_at word_bytes
  head_back t small =
      let room = block_within in
      let size = length_block type content meta in
      let after = with_padding content ++ (with_padding meta ++ rest) in
      let first : drop at s ≡ number_bytes 4 type ++ (word_bytes (length content ∷ length meta ∷ []) ++ after)
      = head_here ∙ append_assoc (number_bytes 4 type) (word_bytes (length content ∷ length meta ∷ [])) after in
      let second : drop (at + 4) s ≡ number_bytes 4 (length content) ++ (word_bytes (length meta ∷ []) ++ after)
      = after_words s (type ∷ []) (word_bytes (length content ∷ length meta ∷ []) ++ after) at 4 (head_here ∙ simp append_assoc) refl
      ∙ append_assoc (number_bytes 4 (length content)) (word_bytes (length meta ∷ [])) after in
      let third : drop (at + 8) s ≡ number_bytes 4 (length meta) ++ after
      = after_words s (type ∷ length content ∷ []) (word_bytes (length meta ∷ []) ++ after) at 8 (head_here ∙ simp append_assoc) refl
      ∙ append_assoc (number_bytes 4 (length meta)) [] after in
      rw (
        field_back 4 s _ at type (omega arith) (omega arith) first,
        field_back 4 s _ (at + 4) (length content) (omega arith) (omega arith) second,
        field_back 4 s _ (at + 8) (length meta) (omega arith) (omega arith) third,
      )

  -- room for the rest
  pub room_back : room_of (length s) at (extent_of at (head_of type content meta)) ≡ fine
  unfolding room_of extent_of
  room_back =
      let room = block_within in
      let size = length_block type content meta in
      let e = extent_of at (head_of type content meta) in
      rw (
        le-ltb (length s) e.data_end (omega arith),
        le-ltb (length s) e.meta_at (omega arith),
        le-ltb (length s) e.meta_end (omega arith),
        le-ltb (length s) e.next (omega arith),
      )

  pub paddings_back : paddings_of s (extent_of at (head_of type content meta)) ≡ fine
  unfolding paddings_of extent_of
  paddings_back =
      let e = extent_of at (head_of type content meta) in
      let first : e.meta_at - e.data_end ≡ padding (length content) = omega arith in
      let second : e.next - e.meta_end ≡ padding (length meta) = omega arith in
      let from : e.meta_end ≡ at + 12 + length content + padding (length content) + length meta = omega arith in
      rw (
        first,
        zeros_back (padding (length content)) s (with_padding meta ++ rest) (at + 12 + length content) data_padding_here,
        second,
        from,
      ) (zeros_back (padding (length meta)) s rest (at + 12 + length content + padding (length content) + length meta) meta_padding_here)

  -- where the next block starts
  pub next_at : (extent_of at (head_of type content meta)).next ≡ at + length (block_bytes type content meta)
  unfolding extent_of
  next_at = omega (arith, length_block type content meta)
