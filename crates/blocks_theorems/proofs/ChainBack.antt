-- The fields of a chain that is laid out are read back.
use Prim.Native.Nat.{ℕ, ◌+◌, ◌-◌, ◌≤◌, ◌<◌}
use mathlib.Core.List.{List, [], ◌∷◌, ◌++◌, append_assoc}
use mathlib.Core.Path.{◌≡◌, ◌∙◌}
use native.Mathlib.Omega.{arith}
use borrow.Author.Tests.{le-ltb}
use lib.ListN.{drop, length, length-append, length-replicate, replicate}
use Rattle.fields.specs.Judged.{done}
use Rattle.fields.specs.Limits.{longest_name}
use Rattle.blocks.specs.Padding.{aligned_to}
use Rattle.blocks.specs.Chain.{count_at, fields_after_name, chain_at}
use Rattle.fields_theorems.specs.Encoding.{number_bytes, name_bytes, word_bytes}
use Rattle.fields_theorems.proofs.Seams.{past, within}
use Rattle.fields_theorems.proofs.FieldsBack.{after_name, field_back, length_number_bytes, length_name_bytes, length_word_bytes, name_back}
use Rattle.blocks_theorems.specs.RowParts.{padding}
use Rattle.blocks_theorems.specs.Layout.{with_padding, chain_fields}
use Rattle.blocks_theorems.proofs.PartsBack.{length_with_padding, zeros_back}

-- the fields before the padding
pub length_named : (name : List ℕ) (type : ℕ) → length (name_bytes name ++ word_bytes (type ∷ 0 ∷ [])) ≡ length name + 10
length_named name type =
    omega (arith, length-append (name_bytes name) (word_bytes (type ∷ 0 ∷ [])), length_name_bytes name, length_word_bytes (type ∷ 0 ∷ []))

pub length_fields : (name : List ℕ) (type count : ℕ) → length (chain_fields name type count) ≡ aligned_to (length name + 10) + 4
unfolding chain_fields
length_fields name type count =
    let named = name_bytes name ++ word_bytes (type ∷ 0 ∷ []) in
    omega (arith, length-append (with_padding named) (word_bytes (count ∷ [])), length_with_padding named, length_named name type, length_word_bytes (count ∷ []))

module _ (s name inner : List ℕ) (at type count : ℕ) (here : drop at s ≡ chain_fields name type count ++ inner) where
  abbrev pub zeros : List ℕ
  zeros = replicate (padding (length name + 10)) 0

  abbrev next : ℕ
  next = at + (length name + 2)

  -- where they stand
  pub name_here : drop at s ≡ name_bytes name ++ (number_bytes 4 type ++ (number_bytes 4 0 ++ (zeros ++ (number_bytes 4 count ++ inner))))
  unfolding chain_fields with_padding word_bytes
  name_here = here ∙ rw (length_named name type) (simp append_assoc)

  type_here : drop next s ≡ number_bytes 4 type ++ (number_bytes 4 0 ++ (zeros ++ (number_bytes 4 count ++ inner)))
  type_here = after_name s name _ at name_here

  attributes_here : drop (next + 4) s ≡ number_bytes 4 0 ++ (zeros ++ (number_bytes 4 count ++ inner))
  attributes_here = past s (number_bytes 4 type) _ next type_here 4 (length_number_bytes 4 type)

  padding_here : drop (next + 8) s ≡ zeros ++ (number_bytes 4 count ++ inner)
  padding_here = rw (← e) (past s (number_bytes 4 0) _ (next + 4) attributes_here 4 (length_number_bytes 4 0))
    where
      e : next + 4 + 4 ≡ next + 8
      e = omega arith

  count_here : drop (at + aligned_to (length name + 10)) s ≡ number_bytes 4 count ++ inner
  count_here = rw (← e) (past s zeros _ (next + 8) padding_here (padding (length name + 10)) (length-replicate (padding (length name + 10)) 0))
    where
      e : next + 8 + padding (length name + 10) ≡ at + aligned_to (length name + 10)
      e = omega arith

  count_back : count < 0x100000000
      → count_at s (next + 8) (at + aligned_to (length name + 10)) ≡ done (record { at = at + length (chain_fields name type count); count = count })
  unfolding count_at
  count_back c =
      let to = at + aligned_to (length name + 10) in
      let bytes = length_number_bytes 4 count in
      let room : to ≤ length s = omega (arith, within s (number_bytes 4 count) inner to count_here (omega arith)) in
      let gap : to - (next + 8) ≡ padding (length name + 10) = omega arith in
      let end : to + 4 ≡ at + length (chain_fields name type count) = omega (arith, length_fields name type count) in
      rw (
        le-ltb (length s) to room,
        gap,
        zeros_back (padding (length name + 10)) s (number_bytes 4 count ++ inner) (next + 8) padding_here,
        field_back 4 s inner to count (omega arith) (omega arith) count_here,
        end,
      )

  -- A chain's fields tell where its blocks start, and how many they are.
  pub fields_back : length name ≤ longest_name → type ≤ 2 → count < 0x100000000
      → chain_at s at ≡ done (record { at = at + length (chain_fields name type count); count = count })
  unfolding chain_at fields_after_name
  fields_back n t c =
      rw (
        name_back s name _ at n name_here,
        field_back 4 s _ next type (omega arith) (omega arith) type_here,
        le-ltb 2 type t,
        field_back 4 s _ (next + 4) 0 (omega arith) (omega arith) attributes_here,
      ) (count_back c)
