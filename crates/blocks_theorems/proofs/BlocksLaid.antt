-- Blocks that were walked to the end are laid out one after the other: the converse of BlocksWalked.
use Prim.Native.Nat.{ℕ, zero, suc, ◌+◌, ◌-◌, ◌≤◌, ◌<◌}
use mathlib.Core.Bool.{Bool, true, false, false≢true}
use mathlib.Core.List.{List, [], ◌∷◌, ◌++◌, append_assoc, append-nil, map}
use mathlib.Core.Logic.{◌⊎◌, inl, inr}
use mathlib.Core.Path.{◌≡◌, refl, ap, sym, ◌∙◌}
use native.Mathlib.Omega.{arith}
use borrow.Author.Tests.{eq-eqb, eqb-true, eqb-false, ltb-true, ltb-false}
use lib.Dec.{eqb, ltb}
use lib.ListN.{drop, drop_of_length-le, get_or, length, length-take, get_or-eq_default, take}
use lib.Seq.{get_or-take}
use Rattle.fields.specs.Numbers.{bad_chain}
use Rattle.fields.specs.Judged.{Judged, done, refused, pick}
use Rattle.fields.proofs.Judging.{not_done}
use Rattle.fields.specs.Member.{member}
use Rattle.blocks.specs.Kind.{header_type, chain_type, known_types, declarations, continuations, class_of, kind_of, is_chain, is_continuation}
use Rattle.blocks.specs.Head.{extent_of, paddings_of}
use Rattle.blocks.specs.Chain.{chain_at}
use Rattle.blocks.specs.Block.{levels, standing_of, block_at}
use Rattle.blocks.specs.Walk.{Outcome, tells, ends, joined, and_then, on_judged, row_of, file_ends, blocks_of, inside_of, walk_of}
use Rattle.blocks.specs.declared.kind.Kind.{Kind}
use Rattle.blocks.specs.declared.kind.Kind.TheVariants.{Header, Declaration, Continuation, Unknown}
use Rattle.blocks.specs.declared.head.Extent.{Extent}
use Rattle.blocks.specs.declared.block.Block.{Block}
use Rattle.blocks.proofs.Fits.{BlockFits, block_fits, in_chain_done}
use Rattle.fields_theorems.specs.Encoding.{Bytes}
use Rattle.blocks_theorems.specs.Layout.{Blocks, none, block, chain, OneOf, Declarations, Continuations, block_bytes, blocks_bytes, chain_data, modifier_chain, count_of}
use Rattle.blocks_theorems.specs.Layout.{continuation_types, plain_declarations}
use Rattle.blocks_theorems.proofs.Next.{next_of}
use Rattle.blocks_theorems.proofs.Found.{Found, block_found}
use Rattle.blocks_theorems.proofs.PartsBack.{up_to}
use Rattle.blocks_theorems.proofs.PartsLaid.{BlockLaid, block_laid, data_in, meta_in, part_laid}
use Rattle.blocks_theorems.proofs.ChainLaid.{ChainLaid, chain_laid}

-- ---- kinds

-- one of a list makes one of the list that a rule makes of it
pub listed : (f : ℕ → ℕ) (d : ℕ) (ys : List ℕ) → member d ys ≡ true → OneOf (f d) (map f ys)
listed f d [] m = absurd (false≢true m)
listed f d (y ∷ ys) m = by (eqb d y) refl m (listed f d ys)
  where
    by : (t : Bool) → eqb d y ≡ t → pick t true (member d ys) ≡ true → (member d ys ≡ true → OneOf (f d) (map f ys)) → (f d ≡ f y) ⊎ OneOf (f d) (map f ys)
    by true q m later = inl (ap f (eqb-true d y q))
    by false q m later = inr (later m)

-- "by last byte under 0xFFFFFF"
abbrev type_of : ℕ → ℕ
type_of last = known_types + last

-- what a type's kind tells of it
abbrev Told : ℕ → Kind → Type 0
Told x (Declaration t) = (t ≡ x) × (OneOf x plain_declarations ⊎ (x ≡ modifier_chain))
Told x (Continuation t) = (t ≡ x) × OneOf x continuation_types
Told x Header = Unit {0}
Told x Unknown = Unit {0}

kind_told : (x : ℕ) → Told x (kind_of x)
unfolding kind_of class_of
kind_told x =
    let d = x - known_types in
    by (eqb x header_type) (ltb x known_types) (member d declarations) (member d continuations) refl refl refl
  where
    there : ltb x known_types ≡ false → type_of (x - known_types) ≡ x
    there l = omega (arith, ltb-false x known_types l)

    apart : OneOf x (map type_of declarations) → OneOf x plain_declarations ⊎ (x ≡ modifier_chain)
    apart (inl e) = inl (inl e)
    apart (inr (inl e)) = inr e
    apart (inr (inr o)) = inl (inr o)

    by : (h l m n : Bool) → ltb x known_types ≡ l → member (x - known_types) declarations ≡ m → member (x - known_types) continuations ≡ n
        → Told x (pick h Header (pick l Unknown
        (pick (eqb (pick m 1 (pick n 2 0)) 1) (Declaration x) (pick (eqb (pick m 1 (pick n 2 0)) 2) (Continuation x) Unknown))))
    by true l m n p q r = tt
    by false true m n p q r = tt
    by false false true n p q r = (refl, apart (rw (there p) at (listed type_of (x - known_types) declarations q)))
    by false false false true p q r = (refl, rw (there p) at (listed type_of (x - known_types) continuations r))
    by false false false false p q r = tt

-- ---- parts of a walk that is done

pub then_done : (first second : Outcome) (u : Unit {0}) → (and_then first second).ending ≡ done u → ((v : Unit {0}) × (first.ending ≡ done v)) × (second.ending ≡ done u)
unfolding and_then
then_done first second u e = by first.ending refl e
  where
    by : (j : Judged (Unit {0})) → first.ending ≡ j → (joined j first.rows second).ending ≡ done u
        → ((v : Unit {0}) × (first.ending ≡ done v)) × (second.ending ≡ done u)
    by (done v) q e = ((v, q), e)
    by (refused n p) q e = not_done e

pub judged_done : {A : Type 0} (j : Judged A) (next : A → Outcome) (u : Unit {0}) → (on_judged j next).ending ≡ done u → (a : A) × (j ≡ done a) × ((next a).ending ≡ done u)
judged_done (done a) next u e = (a, refl, e)
judged_done (refused n p) next u e = not_done e

-- bytes of a part
pub bytes_taken : (n : ℕ) (s : List ℕ) → Bytes s → Bytes (take n s)
bytes_taken n s b i = by (ltb i n) refl
  where
    by : (t : Bool) → ltb i n ≡ t → get_or (take n s) i 0 < 256
    by true q = rw (get_or-take n s i 0 (ltb-true i n q)) (b i)
    by false q =
        let past : length (take n s) ≤ i = omega (arith, ltb-false i n q, length-take n s) in
        rw (get_or-eq_default (take n s) 0 past) (omega arith)

-- ---- a walk

-- the blocks from an offset to the end of the bytes: declarations, and at the top continuations after them; none but continuations follow a continuation
pub record Laid (remaining count : ℕ) (s : List ℕ) (at : ℕ) (continued : Bool) : Type 0 where
  pub declared : Blocks
  pub continuing : Blocks
  pub declarations : Declarations remaining declared
  pub continuations : Continuations continuing
  pub here : drop at s ≡ blocks_bytes declared ++ blocks_bytes continuing
  pub after : continued ≡ true → declared ≡ none
  pub inner : (remaining ≡ levels → ⊥) → (continuing ≡ none) × (count_of declared ≡ count)

-- one block more, of each kind
module _ (s : List ℕ) (at remaining count : ℕ) (b : Block) (l : BlockLaid s at b.head) (extent : extent_of at b.head ≡ b.extent) where
  -- its bytes, and those after it
  block_here : (ds cs : Blocks) → drop b.extent.next s ≡ blocks_bytes ds ++ blocks_bytes cs
      → drop at s ≡ (block_bytes b.head.block_type (data_in s at b.head) (meta_in s at b.head) ++ blocks_bytes ds) ++ blocks_bytes cs
  block_here ds cs e =
      let part = block_bytes b.head.block_type (data_in s at b.head) (meta_in s at b.head) in
      l.here ∙ ap (λ (x : Extent). part ++ drop x.next s) extent ∙ ap (λ (y : List ℕ). part ++ y) e ∙ sym (append_assoc part (blocks_bytes ds) (blocks_bytes cs))

  declared_more : OneOf b.head.block_type plain_declarations → Laid remaining count s b.extent.next false → Laid remaining (suc count) s at false
  unfolding Declarations blocks_bytes count_of
  declared_more o tail = record {
    declared = block b.head.block_type (data_in s at b.head) (meta_in s at b.head) tail.declared;
    continuing = tail.continuing;
    declarations = (o, tail.declarations);
    continuations = tail.continuations;
    here = block_here tail.declared tail.continuing tail.here;
    after = λ e. absurd (false≢true e);
    inner = λ ne. ((tail.inner ne).0, ap suc (tail.inner ne).1);
  }

  continued_more : (continued : Bool) → OneOf b.head.block_type continuation_types → remaining ≡ levels → Laid remaining count s b.extent.next true
      → Laid remaining (suc count) s at continued
  unfolding Declarations Continuations blocks_bytes count_of
  continued_more continued o top tail = record {
    declared = none;
    continuing = block b.head.block_type (data_in s at b.head) (meta_in s at b.head) tail.continuing;
    declarations = tt;
    continuations = (o, tail.continuations);
    here = block_here none tail.continuing (tail.here ∙ rw (tail.after refl)) ∙ rw append-nil;
    after = λ e. refl;
    inner = λ ne. absurd (ne top);
  }

-- a chain more, whose blocks are laid out
module _ (s : List ℕ) (at remaining count : ℕ) (b : Block) (l : BlockLaid s at b.head) (extent : extent_of at b.head ≡ b.extent)
    (bytes : Bytes s) (room : at + 12 ≤ length s)
    (fields : chain_at (take b.extent.data_end s) (at + 12) ≡ done b.contents)
    (inside : Laid remaining b.contents.count (take b.extent.data_end s) b.contents.at false) (below : remaining < levels) where
  abbrev chained : ChainLaid (take b.extent.data_end s) (at + 12) b.contents
  chained = chain_laid (take b.extent.data_end s) (at + 12) b.contents (bytes_taken b.extent.data_end s bytes) fields

  -- its data are its fields and its blocks
  data_laid : data_in s at b.head ≡ chain_data chained.name chained.type inside.declared
  unfolding blocks_bytes extent_of
  data_laid =
      let end = b.extent.data_end in
      let only = inside.inner (λ e. omega arith) in
      let ends : at + 12 + length (data_in s at b.head) ≡ end = ap (λ (n : ℕ). at + 12 + n) l.data_length ∙ ap (λ (x : Extent). x.data_end) extent in
      let blocks : drop b.contents.at (take end s) ≡ blocks_bytes inside.declared
      = inside.here ∙ rw only.0 (append-nil (blocks_bytes inside.declared)) in
      sym (up_to s (data_in s at b.head) _ (at + 12) end room (part_laid s (at + 12) b.head.data_size) ends)
      ∙ chained.here ∙ rw (blocks, only.1)

  chain_more : b.head.block_type ≡ modifier_chain → Laid (suc remaining) count s b.extent.next false → Laid (suc remaining) (suc count) s at false
  unfolding Declarations blocks_bytes count_of
  chain_more type tail = record {
    declared = chain chained.name chained.type inside.declared (meta_in s at b.head) tail.declared;
    continuing = tail.continuing;
    declarations = (chained.short, chained.low, inside.declarations, tail.declarations);
    continuations = tail.continuations;
    here = block_here s at (suc remaining) count b l extent tail.declared tail.continuing tail.here ∙ rw (type, data_laid);
    after = λ e. absurd (false≢true e);
    inner = λ ne. ((tail.inner ne).0, ap suc (tail.inner ne).1);
  }

-- the contents of a chain that were walked to the end
abbrev Inside : (List ℕ → Block → Outcome) → ℕ → Type 0
Inside inside remaining =
    (s : List ℕ) (b : Block) (u : Unit {0}) → Bytes s → 0 < remaining → is_chain b.kind ≡ true → b.contents.at ≤ b.extent.data_end
    → b.extent.data_end ≤ length s → (inside s b).ending ≡ done u
    → (r : ℕ) × (remaining ≡ suc r) × Laid r b.contents.count (take b.extent.data_end s) b.contents.at false

-- the blocks where there are none
none_laid : (remaining count : ℕ) (s : List ℕ) (at : ℕ) (continued : Bool) → at ≡ length s → ((remaining ≡ levels → ⊥) → 0 ≡ count)
    → Laid remaining count s at continued
unfolding Declarations Continuations blocks_bytes count_of
none_laid remaining count s at continued e c = let past : length s ≤ at = omega arith in record {
  declared = none;
  continuing = none;
  declarations = tt;
  continuations = tt;
  here = drop_of_length-le s past;
  after = λ e. refl;
  inner = λ ne. (refl, c ne);
}

module _ (inside : List ℕ → Block → Outcome) (remaining : ℕ) (few : remaining ≤ levels) (within : Inside inside remaining) where
  -- a block that was found, whose contents and paddings are done, before blocks that are laid out
  module _ (s : List ℕ) (at count : ℕ) (b : Block) (u v : Unit {0}) (bytes : Bytes s) (i : (inside s b).ending ≡ done v)
      (z : paddings_of s b.extent ≡ done u) where
    chain_laid_out : (fits : BlockFits (length s) at remaining b) (found : Found s at remaining false b) → BlockLaid s at b.head
        → is_chain b.kind ≡ true → b.head.block_type ≡ modifier_chain → Laid remaining count s b.extent.next false → Laid remaining (suc count) s at false
    chain_laid_out fits found laid c type tail =
        let whole : b.extent.data_end ≤ length s = omega (arith, fits.data_padding, fits.meta_data, fits.meta_padding, fits.ends) in
        let room : at + 12 ≤ length s = omega (arith, fits.starts, fits.inside) in
        let deep = within s b v bytes (fits.enters c) c fits.inside whole i in
        let r = deep.0 in
        let same : remaining ≡ suc r = deep.1 in
        rw same (chain_more s at r count b laid found.extent bytes room (found.fields c) deep.2 (omega arith) type (rw same at tail))

    of_kind : (continued : Bool) (kind : Kind) → b.kind ≡ kind → Told b.head.block_type kind → standing_of kind remaining continued ≡ 0
        → BlockFits (length s) at remaining b → Found s at remaining continued b → BlockLaid s at b.head
        → Laid remaining count s b.extent.next (is_continuation kind) → Laid remaining (suc count) s at continued
    unfolding standing_of is_continuation is_chain
    of_kind continued Header k t z fits found laid tail = absurd (eqb-false 11 0 refl z)
    of_kind continued Unknown k t z fits found laid tail = absurd (eqb-false 6 0 refl z)
    of_kind continued (Continuation x) k t z fits found laid tail =
        continued_more s at remaining count b laid found.extent continued t.1 (top (eqb remaining levels) refl z) tail
      where
        top : (y : Bool) → eqb remaining levels ≡ y → pick {A = ℕ} y 0 11 ≡ 0 → remaining ≡ levels
        top true q z = eqb-true remaining levels q
        top false q z = absurd (eqb-false 11 0 refl z)
    of_kind true (Declaration x) k t z fits found laid tail = absurd (eqb-false 11 0 refl z)
    of_kind false (Declaration x) k t z fits found laid tail = by t.1
      where
        by : OneOf b.head.block_type plain_declarations ⊎ (b.head.block_type ≡ modifier_chain) → Laid remaining (suc count) s at false
        by (inl o) = declared_more s at remaining count b laid found.extent o tail
        by (inr e) = chain_laid_out fits found laid (rw k (eq-eqb x chain_type (t.0 ∙ e))) e tail

  one_laid : (s : List ℕ) (at count : ℕ) (continued : Bool) (b : Block) (u v : Unit {0}) → Bytes s → block_at s at remaining continued ≡ done b
      → (inside s b).ending ≡ done v → paddings_of s b.extent ≡ done u → Laid remaining count s b.extent.next (is_continuation b.kind)
      → Laid remaining (suc count) s at continued
  one_laid s at count continued b u v bytes e i z tail =
      let fits = block_fits s at remaining continued b e in
      let found = block_found s at remaining continued b e in
      let laid = block_laid s at b.head u bytes found.head (rw found.extent fits.ends) (rw found.extent z) in
      let told = rw found.kind at (kind_told b.head.block_type) in
      of_kind s at count b u v bytes i z continued b.kind refl told found.stands fits found laid tail

  blocks_laid : (count : ℕ) (s : List ℕ) (at : ℕ) (continued : Bool) (u : Unit {0}) → Bytes s → (blocks_of inside remaining count s at continued).ending ≡ done u
      → Laid remaining count s at continued
  unfolding blocks_of file_ends
  blocks_laid zero s at continued u bytes e = by (eqb at (length s)) refl e
    where
      by : (t : Bool) → eqb at (length s) ≡ t → (pick t (tells []) (ends (refused bad_chain at))).ending ≡ done u → Laid remaining 0 s at continued
      by true q e = none_laid remaining 0 s at continued (eqb-true at (length s) q) (λ ne. refl)
      by false q e = not_done e
  blocks_laid (suc count) s at continued u bytes e =
      by (eqb at (length s)) (eqb remaining levels) refl refl e (λ at' continued' e. blocks_laid count s at' continued' u bytes e)
    where
      found : (on_judged (block_at s at remaining continued) (next_of inside remaining count s at)).ending ≡ done u
          → ((at' : ℕ) (continued' : Bool) → (blocks_of inside remaining count s at' continued').ending ≡ done u → Laid remaining count s at' continued')
          → Laid remaining (suc count) s at continued
      found e later =
          let j = judged_done (block_at s at remaining continued) (next_of inside remaining count s at) u e in
          let b = j.0 in
          let row = then_done (tells (row_of at b.head (levels - remaining) ∷ [])) _ u j.2 in
          let contents = then_done (inside s b) _ u row.1 in
          let with_padding = then_done (ends (paddings_of s b.extent)) _ u contents.1 in
          one_laid s at count continued b with_padding.0.0 contents.0.0 bytes j.1 contents.0.1 with_padding.0.1
          (later b.extent.next (is_continuation b.kind) with_padding.1)

      by : (t y : Bool) → eqb at (length s) ≡ t → eqb remaining levels ≡ y
          → (pick (pick t y false) (tells []) (on_judged (block_at s at remaining continued) (next_of inside remaining count s at))).ending ≡ done u
          → ((at' : ℕ) (continued' : Bool) → (blocks_of inside remaining count s at' continued').ending ≡ done u → Laid remaining count s at' continued')
          → Laid remaining (suc count) s at continued
      by true true q p e later =
          none_laid remaining (suc count) s at continued (eqb-true at (length s) q) (λ ne. absurd (ne (eqb-true remaining levels p)))
      by true false q p e later = found e later
      by false y q p e later = found e later

inside_laid : (remaining : ℕ) → remaining ≤ levels → Inside (inside_of remaining) remaining
unfolding inside_of
inside_laid zero l s b u bytes h c a w e = absurd (omega arith)
inside_laid (suc remaining) l s b u bytes h c a w e =
    let end = b.extent.data_end in
    let walked = in_chain_done _ u (rw c at e) in (
      remaining,
      refl,
      blocks_laid (inside_of remaining) remaining (omega arith) (inside_laid remaining (omega arith)) b.contents.count (take end s) b.contents.at
          false u (bytes_taken end s bytes) walked,
    )

-- Blocks walked to the end are declarations, and at the top continuations after them, laid out one after the other.
pub walk_laid : (remaining count : ℕ) (s : List ℕ) (at : ℕ) (continued : Bool) (u : Unit {0}) → remaining ≤ levels → Bytes s
    → (walk_of remaining count s at continued).ending ≡ done u → Laid remaining count s at continued
walk_laid remaining count s at continued u l = blocks_laid (inside_of remaining) remaining l (inside_laid remaining l) count s at continued u
