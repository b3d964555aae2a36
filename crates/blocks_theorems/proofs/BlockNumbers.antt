-- The refusals of a block: its leading numbers, place, room, a chain's fields, and paddings.
use Prim.Native.Nat.{ℕ, zero, suc, ◌+◌, ◌-◌, ◌≤◌}
use mathlib.Core.Bool.{Bool, true, false, true≢false}
use mathlib.Core.List.{List}
use mathlib.Core.Path.{◌≡◌, refl}
use native.Mathlib.Omega.{arith}
use borrow.Author.Tests.{ltb-false}
use lib.Dec.{eqb, ltb}
use lib.ListN.{get_or, length, take}
use lib.Seq.{length-take-le}
use Rattle.fields.specs.Numbers.{truncated, bad_padding, bad_chain, bad_name, over_limit}
use Rattle.fields.specs.Limits.{largest_file, longest_name}
use Rattle.fields.specs.Judged.{Judged, done, refused, refused_if, pick}
use Rattle.fields.specs.Field.{field_at, little_endian}
use Rattle.fields.specs.Name.{name_at, string_at}
use Rattle.fields.proofs.Judging.{field_within, name_within}
use Rattle.blocks.specs.Padding.{aligned_to, zeros_of}
use Rattle.fields.specs.Member.{member}
use Rattle.blocks.specs.Kind.{kind_of, is_chain, chain_type}
use Rattle.blocks.specs.Head.{head_at, extent_of, room_of, paddings_of}
use Rattle.blocks.specs.Chain.{in_chain, count_at, fields_after_name, chain_at}
use Rattle.blocks.specs.Block.{levels, standing_of, contents_at, judged_at, block_at, block_in}
use Rattle.blocks.specs.declared.kind.Kind.{Kind}
use Rattle.blocks.specs.declared.kind.Kind.TheVariants.{Header, Declaration, Continuation, Unknown}
use Rattle.blocks.specs.declared.head.Head.{Head}
use Rattle.blocks.specs.declared.head.Extent.{Extent}
use Rattle.blocks.specs.declared.block.Block.{Block}
use Rattle.blocks.proofs.Fits.{extent_fits, head_within, room_within}
use Rattle.blocks_theorems.specs.Refusals.{Refusing, chain_numbers, block_numbers, numbers_at}
use Rattle.blocks_theorems.proofs.Refusing.{on_done_lem, picked, refused_if_lem, wider, in_chain_lem}

-- fields, paddings and leading numbers, for any numbers that theirs are among
module _ (numbers : List ℕ) (end : ℕ) where
  pub field_refusing : (width : ℕ) (s : List ℕ) (at : ℕ) → member truncated numbers ≡ true → at ≤ end → Refusing numbers end (field_at width s at)
  unfolding field_at Refusing
  field_refusing width s at m h =
      refused_if_lem numbers end (ltb (length s) (at + width)) truncated at (done (little_endian width s at)) m h (λ _. tt)

  pub zeros_refusing : (k : ℕ) (s : List ℕ) (at : ℕ) → member bad_padding numbers ≡ true → at + k ≤ end → Refusing numbers end (zeros_of k s at)
  unfolding zeros_of Refusing
  zeros_refusing zero s at m h = tt
  zeros_refusing (suc k) s at m h =
      picked numbers end (eqb (get_or s at 0) 0) (zeros_of k s (suc at)) (refused bad_padding at) (λ _. zeros_refusing k s (suc at) m (omega arith))
      (λ _. (m, omega arith))

module _ (numbers : List ℕ) (s : List ℕ) (m : member truncated numbers ≡ true) where
  pub head_refusing : (end at : ℕ) → at ≤ end → length s ≤ end → Refusing numbers end (head_at s at)
  unfolding head_at Refusing
  head_refusing end at h l =
      on_done_lem numbers end (field_at 4 s at) _ (field_refusing numbers end 4 s at m h) λ a e.
      let first = field_within 4 s at a e in
      on_done_lem numbers end (field_at 4 s (at + 4)) _ (field_refusing numbers end 4 s (at + 4) m (omega arith)) λ b f.
      let second = field_within 4 s (at + 4) b f in
      on_done_lem numbers end (field_at 4 s (at + 8)) _ (field_refusing numbers end 4 s (at + 8) m (omega arith)) λ _ _. tt

  pub room_refusing : (at : ℕ) (e : Extent) → at + 12 ≤ length s → Refusing numbers (length s) (room_of (length s) at e)
  unfolding room_of Refusing
  room_refusing at e h =
      let len = length s in
      refused_if_lem numbers len (ltb len e.data_end) truncated (at + 12) _ m h λ a.
      refused_if_lem numbers len (ltb len e.meta_at) truncated e.data_end _ m (ltb-false len _ a) λ b.
      refused_if_lem numbers len (ltb len e.meta_end) truncated e.meta_at _ m (ltb-false len _ b) λ c.
      refused_if_lem numbers len (ltb len e.next) truncated e.meta_end _ m (ltb-false len _ c) λ _. tt

-- the paddings of parts that stand in order within the bytes
pub paddings_refusing : (numbers s : List ℕ) (e : Extent) → member bad_padding numbers ≡ true → e.data_end ≤ e.meta_at → e.meta_at ≤ length s
    → e.meta_end ≤ e.next → e.next ≤ length s → Refusing numbers (length s) (paddings_of s e)
unfolding paddings_of
paddings_refusing numbers s e m a b c d =
    let len = length s in
    on_done_lem numbers len (zeros_of (e.meta_at - e.data_end) s e.data_end) _
    (zeros_refusing numbers len (e.meta_at - e.data_end) s e.data_end m (omega arith)) λ _ _.
    zeros_refusing numbers len (e.next - e.meta_end) s e.meta_end m (omega arith)

-- a name
pub name_refusing : (numbers s : List ℕ) → member truncated numbers ≡ true → member bad_name numbers ≡ true → (at : ℕ) → at ≤ length s
    → Refusing numbers (length s) (name_at s at)
unfolding name_at string_at Refusing
name_refusing numbers s m k at h =
    let len = length s in
    on_done_lem numbers len (string_at s at) _
    (on_done_lem numbers len (field_at 2 s at) _ (field_refusing numbers len 2 s at m h) λ size _.
    refused_if_lem numbers len (ltb len (at + (size + 2))) truncated at _ m h λ _. tt) λ size _.
    refused_if_lem numbers len (ltb longest_name size) bad_name at _ k h λ _. tt

-- a chain's fields, from the bytes up to its end
module _ (s : List ℕ) where
  count_refusing : (from to : ℕ) → from ≤ length s → from ≤ to → Refusing block_numbers (length s) (count_at s from to)
  unfolding count_at Refusing
  count_refusing from to h l =
      let len = length s in
      refused_if_lem block_numbers len (ltb len to) truncated from _ refl h λ a.
      let room = ltb-false len to a in
      on_done_lem block_numbers len (zeros_of (to - from) s from) _ (zeros_refusing block_numbers len (to - from) s from refl (omega arith)) λ _ _.
      on_done_lem block_numbers len (field_at 4 s to) _ (field_refusing block_numbers len 4 s to refl room) λ _ _. tt

  fields_refusing : (at size : ℕ) → at + (size + 2) ≤ length s → Refusing block_numbers (length s) (fields_after_name s at size)
  unfolding fields_after_name Refusing
  fields_refusing at size h =
      let len = length s in
      let next = at + (size + 2) in
      on_done_lem block_numbers len (field_at 4 s next) _ (field_refusing block_numbers len 4 s next refl h) λ kind e.
      let kind-within = field_within 4 s next kind e in
      refused_if_lem block_numbers len (ltb 2 kind) bad_chain next _ refl h λ _.
      on_done_lem block_numbers len (field_at 4 s (next + 4)) _ (field_refusing block_numbers len 4 s (next + 4) refl kind-within) λ attributes f.
      let attributes-within = field_within 4 s (next + 4) attributes f in
      picked block_numbers len (eqb attributes 0) _ (refused bad_chain (next + 4))
      (λ _. count_refusing (next + 8) (at + aligned_to (size + 10)) (omega arith) (omega arith)) (λ _. (refl, kind-within))

  chain_refusing : (at : ℕ) → at ≤ length s → Refusing block_numbers (length s) (chain_at s at)
  unfolding chain_at
  chain_refusing at h =
      on_done_lem block_numbers (length s) (name_at s at) _ (name_refusing block_numbers s refl refl at h) λ size e. fields_refusing at size (name_within s at size e).0

-- a block that may not stand where it does
standing_refusing : (kind : Kind) (remaining : ℕ) (continued : Bool) → eqb (standing_of kind remaining continued) 0 ≡ false
    → member (standing_of kind remaining continued) block_numbers ≡ true
unfolding standing_of
standing_refusing Unknown remaining continued e = refl
standing_refusing Header remaining continued e = refl
standing_refusing (Continuation t) remaining continued e = by (eqb remaining levels) e
  where
    by : (b : Bool) → eqb (pick b 0 11) 0 ≡ false → member (pick b 0 11) block_numbers ≡ true
    by true e = absurd (true≢false e)
    by false e = refl
standing_refusing (Declaration t) remaining true e = refl
standing_refusing (Declaration t) remaining false e = by (eqb t chain_type) (eqb remaining 0) e
  where
    by : (b d : Bool) → eqb (pick b (pick d 7 0) 0) 0 ≡ false → member (pick b (pick d 7 0) 0) block_numbers ≡ true
    by true true e = refl
    by true false e = absurd (true≢false e)
    by false d e = absurd (true≢false e)

module _ (s : List ℕ) (at : ℕ) where
  contents_refusing : (kind : Kind) (head : Head) (e : Extent) → at + 12 ≤ e.data_end → e.data_end ≤ length s
      → Refusing block_numbers (length s) (contents_at s at kind head e)
  unfolding contents_at Refusing
  contents_refusing kind head e h l =
      let inner = take e.data_end s in
      let size = length-take-le e.data_end s l in
      let fields = in_chain (chain_at inner (at + 12)) in
      let refusing = in_chain_lem chain_numbers (length inner) (chain_at inner (at + 12)) refl (chain_refusing inner (at + 12) (omega arith)) in
      picked block_numbers (length s) (is_chain kind) _ _
      (λ _. on_done_lem block_numbers (length s) fields _
      (wider chain_numbers block_numbers (length inner) (length s) fields refl (omega arith) refusing) λ _ _. tt) (λ _. tt)

  judged_refusing : (head : Head) (remaining : ℕ) (continued : Bool) → at + 12 ≤ length s
      → Refusing block_numbers (length s) (judged_at s at head remaining continued)
  unfolding judged_at Refusing
  judged_refusing head remaining continued h =
      let kind = kind_of head.block_type in
      let extent = extent_of at head in
      picked block_numbers (length s) (eqb (standing_of kind remaining continued) 0) _ _
      (λ _. on_done_lem block_numbers (length s) (room_of (length s) at extent) _ (room_refusing block_numbers s refl at extent h) λ u e.
      contents_refusing kind head extent (extent_fits at head extent refl).starts (room_within (length s) at extent u e).0)
      (λ e. (standing_refusing kind remaining continued e, omega arith))

  pub block_refusing : (remaining : ℕ) (continued : Bool) (end : ℕ) → at ≤ end → length s ≤ end
      → Refusing block_numbers end (block_at s at remaining continued)
  unfolding block_at
  block_refusing remaining continued end h l =
      on_done_lem block_numbers end (head_at s at) _ (head_refusing block_numbers s refl end at h l) λ head e.
      let rest = judged_at s at head remaining continued in
      wider block_numbers block_numbers (length s) end rest refl l (judged_refusing head remaining continued (head_within s at head e))

-- A block read by itself, at any offset, is refused with one of the numbers of its level, and no further than its offset and the end of the bytes.
pub block_in_refusing : (s : List ℕ) (at remaining : ℕ) (continued : Bool) (end : ℕ) → at ≤ end → length s ≤ end
    → Refusing (numbers_at remaining) end (block_in s at remaining continued)
unfolding block_in Refusing
block_in_refusing s at remaining continued end h l =
    by (eqb remaining levels) (block_at s at remaining continued) (block_refusing s at remaining continued end h l)
  where
    -- the two tests before it, for numbers that 7 and 9 are among
    after : (numbers : List ℕ) (b : Judged Block) → member over_limit numbers ≡ true → member bad_chain numbers ≡ true → Refusing numbers end b
        → Refusing numbers end (refused_if (ltb largest_file (length s)) over_limit 0 (refused_if (ltb levels remaining) bad_chain at b))
    after numbers b m k r =
        refused_if_lem numbers end (ltb largest_file (length s)) over_limit 0 _ m (omega arith) λ _.
        refused_if_lem numbers end (ltb levels remaining) bad_chain at b k h λ _. r

    by : (top : Bool) (b : Judged Block) → Refusing block_numbers end b
        → Refusing (pick top block_numbers chain_numbers) end
        (refused_if (ltb largest_file (length s)) over_limit 0 (refused_if (ltb levels remaining) bad_chain at (pick top b (in_chain b))))
    by true b r = after block_numbers b refl refl r
    by false b r = after chain_numbers (in_chain b) refl refl (in_chain_lem chain_numbers end b refl r)
