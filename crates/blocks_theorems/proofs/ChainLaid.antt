-- A chain's fields that were read are laid out so: the converse of ChainBack.
use Prim.Native.Nat.{ℕ, ◌+◌, ◌-◌, ◌≤◌}
use mathlib.Core.List.{List, ◌++◌, append_assoc, append-nil}
use mathlib.Core.Path.{◌≡◌, ◌∙◌}
use native.Mathlib.Omega.{arith}
use borrow.Author.Tests.{eqb-true, ltb-false}
use lib.Dec.{eqb, ltb}
use lib.ListN.{drop, length, replicate, take}
use Rattle.fields.specs.Numbers.{truncated, bad_chain, bad_name}
use Rattle.fields.specs.Limits.{longest_name}
use Rattle.fields.specs.Judged.{done}
use Rattle.fields.specs.Field.{field_at}
use Rattle.fields.specs.Name.{name_at, string_at}
use Rattle.fields.proofs.Judging.{passed, same_done, value_before, name_within}
use Rattle.blocks.specs.Padding.{aligned_to, zeros_of}
use Rattle.blocks.specs.Chain.{count_at, fields_after_name, chain_at}
use Rattle.blocks.specs.declared.chain.Run.{Run}
use Rattle.blocks.proofs.Fits.{chosen}
use Rattle.fields_theorems.specs.Encoding.{Bytes, number_bytes, name_bytes, word_bytes}
use Rattle.blocks_theorems.specs.RowParts.{padding}
use Rattle.blocks_theorems.specs.Layout.{chain_fields, with_padding}
use Rattle.blocks_theorems.proofs.ChainBack.{length_named}
use Rattle.blocks_theorems.proofs.PartsLaid.{both_laid, field_laid, padding-laid, part_laid, part_length}

-- the fields of a chain, which end where its blocks start
pub record ChainLaid (s : List ℕ) (at : ℕ) (run : Run) : Type 0 where
  pub name : List ℕ
  pub type : ℕ
  pub short : length name ≤ 255
  pub low : type ≤ 2
  pub here : drop at s ≡ chain_fields name type run.count ++ drop run.at s

-- a name
name_laid : (s : List ℕ) (at size : ℕ) → Bytes s → name_at s at ≡ done size
    → drop at s ≡ name_bytes (take size (drop (at + 2) s)) ++ drop (at + (size + 2)) s
unfolding name_at string_at name_bytes
name_laid s at size b e =
    let within = name_within s at size e in
    let n = value_before (string_at s at) _ size e in
    let short = passed (ltb longest_name n.0) bad_name at _ size n.2 in
    let field = value_before (field_at 2 s at) _ n.0 n.1 in
    let whole = passed (ltb (length s) (at + (field.0 + 2))) truncated at _ n.0 field.2 in
    let same : field.0 ≡ size = same_done whole.1 ∙ same_done short.1 in
    let name = take size (drop (at + 2) s) in
    let end : at + 2 + size ≡ at + (size + 2) = omega arith in
    let sized = part_length s (at + 2) size (omega (arith, within.0)) in
    let first : drop at s ≡ number_bytes 2 (length name) ++ drop (at + 2) s = rw (sized, ← same) (field_laid 2 s at field.0 b field.1).0 in
    both_laid (drop at s) (number_bytes 2 (length name)) name (drop (at + 2) s) (drop (at + (size + 2)) s) first (rw end at (part_laid s (at + 2) size))

-- padding and count
count_laid : (s : List ℕ) (from to k : ℕ) (run : Run) → Bytes s → from + k ≡ to → count_at s from to ≡ done run
    → drop from s ≡ (replicate k 0 ++ number_bytes 4 run.count) ++ drop run.at s
unfolding count_at
count_laid s from to k run b h e =
    let room = passed (ltb (length s) to) truncated from _ run e in
    let zeros = value_before (zeros_of (to - from) s from) _ run room.1 in
    let count = value_before (field_at 4 s to) _ run zeros.2 in
    rw (← same_done count.2)
    (both_laid (drop from s) (replicate k 0) (number_bytes 4 count.0) (drop to s) (drop (to + 4) s)
    (padding-laid s from to k zeros.0 (ltb-false (length s) to room.0) h zeros.1) (field_laid 4 s to count.0 b count.1).0)

-- type, attributes, padding and count, after a name of that size
record Rest (s : List ℕ) (at size : ℕ) (run : Run) : Type 0 where
  type : ℕ
  low : type ≤ 2
  here : drop (at + (size + 2)) s
      ≡ ((number_bytes 4 type ++ number_bytes 4 0) ++ (replicate (padding (size + 10)) 0 ++ number_bytes 4 run.count)) ++ drop run.at s

fields_laid : (s : List ℕ) (at size : ℕ) (run : Run) → Bytes s → fields_after_name s at size ≡ done run → Rest s at size run
unfolding fields_after_name
fields_laid s at size run b e =
    let next = at + (size + 2) in
    let kind = value_before (field_at 4 s next) _ run e in
    let type = passed (ltb 2 kind.0) bad_chain next _ run kind.2 in
    let attributes = value_before (field_at 4 s (next + 4)) _ run type.1 in
    let to = at + aligned_to (size + 10) in
    let zero = chosen (eqb attributes.0 0) (count_at s (next + 8) to) bad_chain (next + 4) run attributes.2 in
    let none : attributes.0 ≡ 0 = eqb-true attributes.0 0 zero.0 in
    let e₂ : next + 4 + 4 ≡ next + 8 = omega arith in
    let one = (field_laid 4 s next kind.0 b kind.1).0 in
    let two : drop (next + 4) s ≡ number_bytes 4 0 ++ drop (next + 8) s = rw (none, e₂) at (field_laid 4 s (next + 4) attributes.0 b attributes.1).0 in
    let rest = count_laid s (next + 8) to (padding (size + 10)) run b (omega arith) zero.1 in
    record {
      type = kind.0;
      low = ltb-false 2 kind.0 type.0;
      here = both_laid (drop next s) (number_bytes 4 kind.0 ++ number_bytes 4 0) _ (drop (next + 8) s) (drop run.at s)
          (both_laid (drop next s) (number_bytes 4 kind.0) (number_bytes 4 0) (drop (next + 4) s) (drop (next + 8) s) one two) rest;
    }

pub chain_laid : (s : List ℕ) (at : ℕ) (run : Run) → Bytes s → chain_at s at ≡ done run → ChainLaid s at run
unfolding chain_at chain_fields with_padding word_bytes
chain_laid s at run b e =
    let named = value_before (name_at s at) _ run e in
    let size = named.0 in
    let name = take size (drop (at + 2) s) in
    let within = name_within s at size named.1 in
    let sized : length name ≡ size = part_length s (at + 2) size (omega (arith, within.0)) in
    let rest = fields_laid s at size run b named.2 in
    let after = (number_bytes 4 rest.type ++ number_bytes 4 0) ++ (replicate (padding (size + 10)) 0 ++ number_bytes 4 run.count) in
    let whole = both_laid (drop at s) (name_bytes name) after (drop (at + (size + 2)) s) (drop run.at s) (name_laid s at size b named.1) rest.here in
    record {
      name = name;
      type = rest.type;
      short = omega (arith, within.1);
      low = rest.low;
      here = whole ∙ rw (length_named name rest.type, sized) (simp (append_assoc, append-nil));
    }
