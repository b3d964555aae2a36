-- At every block of a file that is laid out by the rules, its data, its meta data and a chain's name are handed out as they stand.
use Prim.Native.Nat.{ℕ, zero, suc, ◌+◌, ◌≤◌, ◌<◌}
use mathlib.Core.List.{List, ◌++◌, append_assoc}
use mathlib.Core.Path.{◌≡◌, ap, refl, ◌∙◌}
use native.Mathlib.Omega.{arith}
use borrow.Author.Tests.{le-ltb}
use lib.ListN.{drop, length, replicate, take}
use lib.Seq.{take-append_seam}
use Rattle.fields.specs.Judged.{done}
use Rattle.fields.specs.Limits.{largest_file}
use Rattle.fields.specs.Field.{bytes_at}
use Rattle.fields.specs.Name.{name_part}
use Rattle.blocks.specs.Head.{extent_of}
use Rattle.blocks.specs.Chain.{in_chain}
use Rattle.blocks.specs.Parts.{head_in, meta_bounds, chain_name_bounds, data_part, meta_part, chain_name}
use Rattle.blocks.proofs.Within.{name_next}
use Rattle.fields_theorems.proofs.Seams.{past}
use Rattle.fields_theorems.proofs.FieldsBack.{name_bounds_back, name_part_lem}
use Rattle.blocks_theorems.specs.RowParts.{padding}
use Rattle.blocks_theorems.specs.Layout.{Blocks, none, block, chain, block_bytes, blocks_bytes, chain_data, chain_fields, modifier_chain, count_of, with_padding}
use Rattle.blocks_theorems.specs.Layout.{Continuations, Declarations, File, Lawful, file_bytes, header_bytes}
use Rattle.blocks_theorems.specs.Handed.{AllHanded, HandedOut, HandedAt}
use Rattle.blocks_theorems.proofs.Bounded.{data_bounded, meta_bounded}
use Rattle.blocks_theorems.proofs.PartsBack.{block_within, data_here, head_back, head_of, length_block, meta_here, next_here}
use Rattle.blocks_theorems.proofs.ChainBack.{name_here}
use Rattle.blocks_theorems.proofs.BlocksWalked.{content_here, continuation_small, declaration_small, first_here, whole}
use Rattle.blocks_theorems.proofs.FileWalked.{continuations_here, declarations_here, header_handed_lem, header_here, small, top}

-- a part that stands in a list
part_taken : (s part rest : List ℕ) (at : ℕ) → at + length part ≤ length s → drop at s ≡ part ++ rest → bytes_at s at (length part) ≡ part
unfolding bytes_at
part_taken s part rest at room here = rw (le-ltb (length s) (at + length part) room, here) (take-append_seam part rest)

module _ (s rest : List ℕ) (at type : ℕ) (content meta : List ℕ) (here : drop at s ≡ block_bytes type content meta ++ rest) (few : length s ≤ largest_file)
    (t : type < 0x100000000) where
  head_there : head_in s at ≡ done (head_of type content meta)
  unfolding head_in
  head_there = rw (le-ltb largest_file (length s) few) (head_back s rest at type content meta here t few)

  pub block_handed : HandedAt s at content meta
  unfolding data_part meta_part extent_of
  block_handed =
      let room = block_within s rest at type content meta here in
      let size = length_block type content meta in
      let head = head_of type content meta in
      let after = at + 12 + length content + padding (length content) in
      let from : (extent_of at head).meta_at ≡ after = omega arith in
      let data-found = data_bounded s at head head_there (omega arith) in
      let meta-found : meta_bounds s at ≡ done (record { at = after; size = length meta })
      = rw (← from) (meta_bounded s at head head_there (omega arith)) in
      record {
        bounds_of_data = data-found;
        part_of_data = rw data-found (part_taken s content _ (at + 12) (omega arith) (data_here s rest at type content meta here));
        bounds_of_meta = meta-found;
        part_of_meta = rw meta-found (part_taken s meta _ after (omega arith) (meta_here s rest at type content meta here));
      }

-- a chain's name
module _ (s rest : List ℕ) (at : ℕ) (name : List ℕ) (type : ℕ) (inside : Blocks) (meta : List ℕ)
    (here : drop at s ≡ block_bytes modifier_chain (chain_data name type inside) meta ++ rest) (few : length s ≤ largest_file) (n : length name ≤ 255) where
  abbrev content : List ℕ
  content = chain_data name type inside

  name_bounded : chain_name_bounds s at ≡ done (record { at = at + 12 + 2; size = length name })
  unfolding chain_name_bounds extent_of
  name_bounded =
      let end = at + 12 + length content in
      let stands = name_here (take end s) name (blocks_bytes inside) (at + 12) type (count_of inside) (content_here s rest at name type inside meta here few) in
      let head = head_of modifier_chain content meta in
      rw (head_there s rest at modifier_chain content meta here few (omega arith))
      (name_next s at head (extent_of at head) refl refl (whole s rest at name type inside meta here few)
      ∙ ap in_chain (name_bounds_back (take end s) name _ (at + 12) n stands))

  name_handed : chain_name s at ≡ name
  unfolding chain_name name_part
  name_handed =
      let held = data_here s rest at modifier_chain content meta here ∙ append_assoc (chain_fields name type (count_of inside)) (blocks_bytes inside) _ in
      let stands = name_here s name _ (at + 12) type (count_of inside) held in
      rw name_bounded (rw (name_bounds_back s name _ (at + 12) n stands) at (name_part_lem s name _ (at + 12) n stands))

declarations-handed : (bs : Blocks) (s rest : List ℕ) (at remaining : ℕ) → Declarations remaining bs → length s ≤ largest_file
    → drop at s ≡ blocks_bytes bs ++ rest → HandedOut s at bs
unfolding Declarations HandedOut blocks_bytes
declarations-handed none s rest at remaining d few here = tt
declarations-handed (block type content meta more) s rest at remaining d few here =
    let stands = first_here remaining s (block_bytes type content meta) (blocks_bytes more) rest at here in (
      block_handed s (blocks_bytes more ++ rest) at type content meta stands few (declaration_small type d.0),
      declarations-handed more s rest (at + length (block_bytes type content meta)) remaining d.1 few
          (next_here s (blocks_bytes more ++ rest) at type content meta stands),
    )
declarations-handed (chain name type inside meta more) s rest at zero d few here = absurd d
declarations-handed (chain name type inside meta more) s rest at (suc remaining) d few here =
    let content = chain_data name type inside in
    let fields = chain_fields name type (count_of inside) in
    let stands = first_here (suc remaining) s (block_bytes modifier_chain content meta) (blocks_bytes more) rest at here in
    let after = replicate (padding (length content)) 0 ++ (with_padding meta ++ (blocks_bytes more ++ rest)) in
    let held : drop (at + 12) s ≡ fields ++ (blocks_bytes inside ++ after)
    = data_here s (blocks_bytes more ++ rest) at modifier_chain content meta stands ∙ append_assoc fields (blocks_bytes inside) after in (
      block_handed s (blocks_bytes more ++ rest) at modifier_chain content meta stands few (omega arith),
      name_bounded s (blocks_bytes more ++ rest) at name type inside meta stands few d.0,
      name_handed s (blocks_bytes more ++ rest) at name type inside meta stands few d.0,
      declarations-handed inside s after (at + 12 + length fields) remaining d.2 few
          (past s fields (blocks_bytes inside ++ after) (at + 12) held (length fields) refl),
      declarations-handed more s rest (at + length (block_bytes modifier_chain content meta)) (suc remaining) d.3 few
          (next_here s (blocks_bytes more ++ rest) at modifier_chain content meta stands),
    )

continuations-handed : (bs : Blocks) (s : List ℕ) (at : ℕ) → Continuations bs → length s ≤ largest_file → drop at s ≡ blocks_bytes bs → HandedOut s at bs
unfolding Continuations HandedOut blocks_bytes
continuations-handed none s at d few here = tt
continuations-handed (block type content meta more) s at d few here = (
  block_handed s (blocks_bytes more) at type content meta here few (continuation_small type d.0),
  continuations-handed more s (at + length (block_bytes type content meta)) d.1 few (next_here s (blocks_bytes more) at type content meta here),
)
continuations-handed (chain name type inside meta more) s at d few here = absurd d

-- At every block of a file laid out by the rules its parts are handed out.
pub tree_handed : (f : File) → Lawful f → AllHanded (file_bytes f) f
tree_handed f h = record {
  fields = header_handed_lem f h;
  header = block_handed (file_bytes f) (top f) 0 0x00443355 (header_bytes f) f.meta (header_here f) (small f h) (omega arith);
  declarations = declarations-handed f.declarations (file_bytes f) (blocks_bytes f.continuations) _ 4 h.declarations (small f h) (declarations_here f h);
  continuations = continuations-handed f.continuations (file_bytes f) _ h.continuations (small f h) (continuations_here f h);
}
