-- What was found lies within the bytes: leading numbers, extents, a chain's fields, a whole block. Assumes nothing.
use mathlib.Core.Path.{◌≡◌, refl, sym, subst}
use mathlib.Core.Bool.{Bool, true, false}
use mathlib.Core.List.{List}
use Prim.Native.Nat.{ℕ, zero, suc, ◌+◌, ◌-◌, ◌<◌, ◌≤◌}
use native.Mathlib.Omega.{arith}
use borrow.Author.Tests.{ltb-false, eqb-true, eqb-false}
use lib.Dec.{eqb, ltb}
use lib.ListN.{length, take}
use lib.Seq.{length-take-le}
use Rattle.fields.specs.Numbers.{truncated, bad_chain, over_limit}
use Rattle.fields.specs.Limits.{largest_file}
use Rattle.fields.specs.Judged.{Judged, done, refused, on_done, pick}
use Rattle.fields.specs.Field.{field_at}
use Rattle.fields.specs.Name.{name_at}
use Rattle.fields.proofs.Judging.{not_done, value_before, passed, field_within}
use Rattle.blocks.specs.Padding.{aligned_to, zeros_of}
use Rattle.blocks.specs.Kind.{kind_of, is_chain}
use Rattle.blocks.specs.Head.{head_at, extent_of, room_of}
use Rattle.blocks.specs.Chain.{in_chain, count_at, fields_after_name, chain_at}
use Rattle.blocks.specs.Parts.{head_in}
use Rattle.blocks.specs.Block.{standing_of, block_of, contents_at, judged_at, block_at}
use Rattle.blocks.specs.declared.kind.Kind.{Kind}
use Rattle.blocks.specs.declared.kind.Kind.TheVariants.{Header, Declaration, Continuation, Unknown}
use Rattle.blocks.specs.declared.head.Head.{Head}
use Rattle.blocks.specs.declared.head.Extent.{Extent}
use Rattle.blocks.specs.declared.chain.Run.{Run}
use Rattle.blocks.specs.declared.block.Block.{Block}

-- a value that was not refused
pub chosen : {A : Type 0} (test : Bool) (j : Judged A) (n p : ℕ) (a : A) → pick test j (refused n p) ≡ done a → (test ≡ true) × (j ≡ done a)
chosen true j n p a e = (refl, e)
chosen false j n p a e = not_done e

-- a test before what follows is a judgement before it
pub stands : {A : Type 0} (test : Bool) (n p : ℕ) (next : Judged A)
    → pick test next (refused n p) ≡ on_done (pick test (done (tt {0})) (refused n p)) (λ _. next)
stands true n p next = refl
stands false n p next = refl

pub in_chain_done : {A : Type 0} (j : Judged A) (a : A) → in_chain j ≡ done a → j ≡ done a
in_chain_done (done b) a e = e
in_chain_done (refused n p) a e = not_done e

pub head_within : (s : List ℕ) (at : ℕ) (head : Head) → head_at s at ≡ done head → at + 12 ≤ length s
unfolding head_at
head_within s at head e =
    let first = value_before (field_at 4 s at) _ head e in
    let second = value_before (field_at 4 s (at + 4)) _ head first.2 in
    let third = value_before (field_at 4 s (at + 8)) _ head second.2 in
    omega (arith, field_within 4 s (at + 8) third.0 third.1)

pub head_in_within : (s : List ℕ) (at : ℕ) (head : Head) → head_in s at ≡ done head → (at + 12 ≤ length s) × (at ≤ largest_file)
unfolding head_in
head_in_within s at head e =
    let q = passed (ltb largest_file (length s)) over_limit 0 _ head e in
    let w = head_within s at head q.1 in
    (w, omega (arith, ltb-false largest_file (length s) q.0))

-- the parts of an extent stand in order
pub record ExtentFits (at : ℕ) (e : Extent) : Type 0 where
  pub starts : at + 12 ≤ e.data_end
  pub data_padding : e.data_end ≤ e.meta_at
  pub meta_data : e.meta_at ≤ e.meta_end
  pub meta_padding : e.meta_end ≤ e.next

pub extent_fits : (at : ℕ) (head : Head) (e : Extent) → e ≡ extent_of at head → ExtentFits at e
unfolding extent_of
extent_fits at head e q =
    subst (ExtentFits at) (sym q)
    (record { starts = omega arith; data_padding = omega arith; meta_data = omega arith; meta_padding = omega arith })

pub room_within : (len at : ℕ) (e : Extent) (u : Unit {0}) → room_of len at e ≡ done u → (e.data_end ≤ len) × (e.meta_at ≤ len) × (e.next ≤ len)
unfolding room_of
room_within len at e u q =
    let a = passed (ltb len e.data_end) truncated (at + 12) _ u q in
    let b = passed (ltb len e.meta_at) truncated e.data_end _ u a.1 in
    let d = passed (ltb len e.meta_end) truncated e.meta_at _ u b.1 in
    let f = passed (ltb len e.next) truncated e.meta_end _ u d.1 in
    (ltb-false len e.data_end a.0, ltb-false len e.meta_at b.0, ltb-false len e.next f.0)

-- a chain's blocks start after its fields, and within its bytes
pub record RunFits (len at : ℕ) (run : Run) : Type 0 where
  pub starts : at ≤ run.at
  pub ends : run.at ≤ len

count_within : (s : List ℕ) (from to : ℕ) (run : Run) → from ≤ to → count_at s from to ≡ done run → RunFits (length s) from run
unfolding count_at
count_within s from to run h e =
    let room = passed (ltb (length s) to) truncated from _ run e in
    let zeros = value_before (zeros_of (to - from) s from) _ run room.1 in
    let count = value_before (field_at 4 s to) _ run zeros.2 in
    let same : to + 4 ≡ run.at = cc in
    let w = field_within 4 s to count.0 count.1 in
    record { starts = omega arith; ends = omega arith }

fields_within : (s : List ℕ) (at size : ℕ) (run : Run) → fields_after_name s at size ≡ done run → RunFits (length s) at run
unfolding fields_after_name
fields_within s at size run e =
    let next = at + (size + 2) in
    let kind = value_before (field_at 4 s next) _ run e in
    let type = passed (ltb 2 kind.0) bad_chain next _ run kind.2 in
    let attributes = value_before (field_at 4 s (next + 4)) _ run type.1 in
    let zero = chosen (eqb attributes.0 0) (count_at s (next + 8) (at + aligned_to (size + 10))) bad_chain (next + 4) run attributes.2 in
    let w = count_within s (next + 8) (at + aligned_to (size + 10)) run (omega arith) zero.1 in
    record { starts = omega (arith, w.starts); ends = w.ends }

pub chain_within : (s : List ℕ) (at : ℕ) (run : Run) → chain_at s at ≡ done run → RunFits (length s) at run
unfolding chain_at
chain_within s at run e =
    let name = value_before (name_at s at) _ run e in
    fields_within s at name.0 run name.2

-- a chain that may stand where it does may be entered
pub may_enter : (kind : Kind) (remaining : ℕ) (continued : Bool) → standing_of kind remaining continued ≡ 0 → is_chain kind ≡ true → 0 < remaining
unfolding standing_of is_chain
may_enter (Declaration number) zero true e c = absurd (eqb-false 11 0 refl e)
may_enter (Declaration number) zero false e c = absurd (eqb-false 7 0 refl (rw c at e))
may_enter (Declaration number) (suc n) b e c = omega arith
may_enter Header n b e c = absurd (eqb-false 11 0 refl e)
may_enter Unknown n b e c = absurd (eqb-false 6 0 refl e)
may_enter (Continuation number) n b e c = let z : ◌≡◌ {A = ℕ} 0 1 = cc in omega arith

-- the parts of a block stand in order within the bytes, and a chain may be entered
pub record BlockFits (len at remaining : ℕ) (b : Block) : Type 0 where
  pub starts : at + 12 ≤ b.contents.at
  pub inside : b.contents.at ≤ b.extent.data_end
  pub data_padding : b.extent.data_end ≤ b.extent.meta_at
  pub meta_data : b.extent.meta_at ≤ b.extent.meta_end
  pub meta_padding : b.extent.meta_end ≤ b.extent.next
  pub ends : b.extent.next ≤ len
  pub enters : is_chain b.kind ≡ true → 0 < remaining

made_fits : (len at remaining : ℕ) (kind : Kind) (head : Head) (extent : Extent) (run : Run) → ExtentFits at extent → extent.next ≤ len
    → at + 12 ≤ run.at → run.at ≤ extent.data_end → (is_chain kind ≡ true → 0 < remaining)
    → BlockFits len at remaining (block_of kind head extent run)
made_fits len at remaining kind head extent run f n s i m = record {
  starts = s;
  inside = i;
  data_padding = f.data_padding;
  meta_data = f.meta_data;
  meta_padding = f.meta_padding;
  ends = n;
  enters = m;
}

module _ (s : List ℕ) (at remaining : ℕ) (kind : Kind) (head : Head) (extent : Extent) (f : ExtentFits at extent) (d : extent.data_end ≤ length s)
    (n : extent.next ≤ length s) (m : is_chain kind ≡ true → 0 < remaining) (b : Block) where
  contents_fit : (t : Bool) → is_chain kind ≡ t → contents_at s at kind head extent ≡ done b → BlockFits (length s) at remaining b
  unfolding contents_at
  contents_fit true c e =
      let q = value_before (in_chain (chain_at (take extent.data_end s) (at + 12))) _ b (rw c at e) in
      let w = chain_within (take extent.data_end s) (at + 12) q.0 (in_chain_done _ q.0 q.1) in
      let l = length-take-le extent.data_end s d in
      let same : block_of kind head extent q.0 ≡ b = cc in
      subst (BlockFits (length s) at remaining) same
      (made_fits (length s) at remaining kind head extent q.0 f n w.starts (omega (arith, l, w.ends)) m)
  contents_fit false c e =
      let e' = rw c at e in
      let same : block_of kind head extent (record { at = extent.data_end; count = 0 }) ≡ b = cc in
      subst (BlockFits (length s) at remaining) same
      (made_fits (length s) at remaining kind head extent (record { at = extent.data_end; count = 0 }) f n f.starts (omega arith) m)

pub block_fits : (s : List ℕ) (at remaining : ℕ) (continued : Bool) (b : Block) → block_at s at remaining continued ≡ done b
    → BlockFits (length s) at remaining b
unfolding block_at judged_at
block_fits s at remaining continued b e =
    let h = value_before (head_at s at) _ b e in
    let kind = kind_of h.0.block_type in
    let extent = extent_of at h.0 in
    let stands = chosen (eqb (standing_of kind remaining continued) 0) _ (standing_of kind remaining continued) at b h.2 in
    let room = value_before (room_of (length s) at extent) _ b stands.1 in
    let w = room_within (length s) at extent room.0 room.1 in
    contents_fit s at remaining kind h.0 extent (extent_fits at h.0 extent refl) w.0 w.2
    (may_enter kind remaining continued (eqb-true (standing_of kind remaining continued) 0 stands.0)) b (is_chain kind) refl room.2
