-- Blocks that are laid out one after the other are walked to their rows.
use Prim.Native.Nat.{ℕ, zero, suc, ◌+◌, ◌-◌, ◌≤◌, ◌<◌}
use mathlib.Core.Bool.{Bool, true, false, ◌&&◌, not, and-eq-true_iff, false≢true}
use mathlib.Core.List.{List, [], ◌∷◌, ◌++◌, append_assoc, append-nil}
use mathlib.Core.Logic.{inl, inr}
use mathlib.Core.Path.{◌≡◌, refl, ap, sym, ◌∙◌}
use native.Mathlib.Nat.{add-zero, zero-add}
use native.Mathlib.Omega.{arith}
use borrow.Author.Tests.{eq-eqb, ne_eqb, eqb-true, ltb-true, not-true}
use lib.Dec.{eqb, ltb}
use lib.ListN.{drop, length, length-append, length-drop, take}
use lib.Seq.{length-take-le}
use Rattle.fields.specs.Judged.{done}
use Rattle.fields.specs.Limits.{largest_file}
use Rattle.blocks.specs.Kind.{chain_type, class_of, kind_of, is_chain, is_continuation}
use Rattle.blocks.specs.Head.{extent_of}
use Rattle.blocks.specs.Block.{levels, standing_of, block_of, contents_at, judged_at, block_at}
use Rattle.blocks.specs.Walk.{Outcome, tells, and_then, file_ends, blocks_of, inside_of, walk_of}
use Rattle.blocks.specs.declared.kind.Kind.{Kind}
use Rattle.blocks.specs.declared.kind.Kind.TheVariants.{Header, Declaration, Continuation, Unknown}
use Rattle.blocks.specs.declared.chain.Run.{Run}
use Rattle.blocks.specs.declared.block.Block.{Block}
use Rattle.blocks.specs.declared.tell.Row.{Row}
use Rattle.fields_theorems.proofs.Seams.{past}
use Rattle.blocks_theorems.specs.Layout.{Blocks, none, block, chain, block_bytes, blocks_bytes, chain_data, chain_fields, modifier_chain}
use Rattle.blocks_theorems.specs.Layout.{count_of, row_at, rows_laid, OneOf, plain_declarations, continuation_types, Declarations, Continuations}
use Rattle.blocks_theorems.proofs.PartsBack.{block_within, data_here, head_back, head_of, length_block, next_at, next_here, paddings_back, room_back, up_to}
use Rattle.blocks_theorems.proofs.ChainBack.{fields_back}

-- ---- rows before what follows

-- rows, and then an outcome
abbrev pub told : List Row → Outcome → Outcome
told rows o = record { ending = o.ending; rows = rows ++ o.rows }

told_told : (rows others : List Row) (o : Outcome) → told rows (told others o) ≡ told (rows ++ others) o
told_told rows others o = rw (append_assoc rows others o.rows)

-- ---- kinds

-- a test that each of a list passes, passed by one of it
abbrev each_passes : (ℕ → Bool) → List ℕ → Bool
each_passes test [] = true
each_passes test (y ∷ ys) = test y && each_passes test ys

passes : (test : ℕ → Bool) (x : ℕ) (ys : List ℕ) → each_passes test ys ≡ true → OneOf x ys → test x ≡ true
passes test x [] e o = elim o [ ]
passes test x (y ∷ ys) e (inl o) = rw o ((and-eq-true_iff (test y) (each_passes test ys)).0 e).0
passes test x (y ∷ ys) e (inr o) = passes test x ys ((and-eq-true_iff (test y) (each_passes test ys)).0 e).1 o

-- a declaration of that type that is no chain; a continuation
abbrev declares : Kind → ℕ → Bool
declares (Declaration t) x = eqb t x && not (eqb x chain_type)
declares Header x = false
declares (Continuation t) x = false
declares Unknown x = false

abbrev continues : Kind → ℕ → Bool
continues (Continuation t) x = eqb t x
continues Header x = false
continues (Declaration t) x = false
continues Unknown x = false

declaration_kind : (x : ℕ) → OneOf x plain_declarations → (kind_of x ≡ Declaration x) × (eqb x chain_type ≡ false)
unfolding kind_of class_of
declaration_kind x o = by (kind_of x) refl (passes (λ y. declares (kind_of y) y) x plain_declarations refl o)
  where
    by : (k : Kind) → kind_of x ≡ k → declares k x ≡ true → (kind_of x ≡ Declaration x) × (eqb x chain_type ≡ false)
    by (Declaration t) q e =
        let both = (and-eq-true_iff (eqb t x) (not (eqb x chain_type))).0 e in
        (q ∙ ap Declaration (eqb-true t x both.0), not-true (eqb x chain_type) both.1)
    by Header q e = absurd (false≢true e)
    by (Continuation t) q e = absurd (false≢true e)
    by Unknown q e = absurd (false≢true e)

continuation_kind : (x : ℕ) → OneOf x continuation_types → kind_of x ≡ Continuation x
unfolding kind_of class_of
continuation_kind x o = by (kind_of x) refl (passes (λ y. continues (kind_of y) y) x continuation_types refl o)
  where
    by : (k : Kind) → kind_of x ≡ k → continues k x ≡ true → kind_of x ≡ Continuation x
    by (Continuation t) q e = q ∙ ap Continuation (eqb-true t x e)
    by Header q e = absurd (false≢true e)
    by (Declaration t) q e = absurd (false≢true e)
    by Unknown q e = absurd (false≢true e)

-- ---- one block

-- a block that is laid out, at an offset of bytes that are few enough
module _ (s rest : List ℕ) (at type : ℕ) (content meta : List ℕ) (here : drop at s ≡ block_bytes type content meta ++ rest) (small : length s ≤ largest_file)
    (t : type < 0x100000000) where
  -- it is judged as far as its contents
  judged_back : (kind : Kind) (remaining : ℕ) (continued : Bool) → kind_of type ≡ kind → standing_of kind remaining continued ≡ 0
      → block_at s at remaining continued ≡ contents_at s at kind (head_of type content meta) (extent_of at (head_of type content meta))
  unfolding block_at judged_at
  judged_back kind remaining continued k z =
      rw (head_back s rest at type content meta here t small, k, z, room_back s rest at type content meta here)

  -- its row is told, then what is inside it, and the next block follows
  one_walked : (kind : Kind) (remaining n : ℕ) (continued : Bool) (b : Block) (inner : List Row) → kind_of type ≡ kind → standing_of kind remaining continued ≡ 0
      → contents_at s at kind (head_of type content meta) (extent_of at (head_of type content meta)) ≡ done b
      → b.kind ≡ kind → b.head ≡ head_of type content meta → b.extent ≡ extent_of at (head_of type content meta)
      → inside_of remaining s b ≡ tells inner
      → walk_of remaining (suc n) s at continued
      ≡ told (row_at at type content meta (levels - remaining) ∷ inner)
      (walk_of remaining n s (at + length (block_bytes type content meta)) (is_continuation kind))
  unfolding blocks_of file_ends and_then
  one_walked kind remaining n continued b inner k z found bk bh be i =
      let room = block_within s rest at type content meta here in
      let size = length_block type content meta in
      let before : at ≡ length s → ⊥ = λ e. omega arith in
      rw (
        ne_eqb at (length s) before,
        judged_back kind remaining continued k z ∙ found,
        i,
        be,
        bh,
        bk,
        paddings_back s rest at type content meta here,
        next_at s rest at type content meta here,
      )

-- ---- a block that is no chain

plain_inside : (remaining : ℕ) (s : List ℕ) (b : Block) → is_chain b.kind ≡ false → inside_of remaining s b ≡ tells []
unfolding inside_of
plain_inside zero s b e = refl
plain_inside (suc remaining) s b e = rw e

plain_walked : (s rest : List ℕ) (at type : ℕ) (content meta : List ℕ) (kind : Kind) (remaining n : ℕ) (continued : Bool)
    → drop at s ≡ block_bytes type content meta ++ rest → length s ≤ largest_file → type < 0x100000000
    → kind_of type ≡ kind → is_chain kind ≡ false → standing_of kind remaining continued ≡ 0
    → walk_of remaining (suc n) s at continued
    ≡ told (row_at at type content meta (levels - remaining) ∷ [])
    (walk_of remaining n s (at + length (block_bytes type content meta)) (is_continuation kind))
unfolding contents_at
plain_walked s rest at type content meta kind remaining n continued here small t k plain z =
    let head = head_of type content meta in
    let extent = extent_of at head in
    let b = block_of kind head extent (record { at = extent.data_end; count = 0 }) in
    one_walked s rest at type content meta here small t kind remaining n continued b [] k z (rw plain) refl refl refl (plain_inside remaining s b plain)

-- ---- a chain

-- blocks are no more than their bytes
pub few_blocks : (bs : Blocks) → count_of bs ≤ length (blocks_bytes bs)
unfolding count_of blocks_bytes
few_blocks none = omega arith
few_blocks (block type content meta more) =
    omega (arith, length-append (block_bytes type content meta) (blocks_bytes more), length_block type content meta, few_blocks more)
few_blocks (chain name type inside meta more) =
    let content = chain_data name type inside in
    omega (arith, length-append (block_bytes modifier_chain content meta) (blocks_bytes more), length_block modifier_chain content meta, few_blocks more)

module _ (s rest : List ℕ) (at : ℕ) (name : List ℕ) (type : ℕ) (inside : Blocks) (meta : List ℕ)
    (here : drop at s ≡ block_bytes modifier_chain (chain_data name type inside) meta ++ rest) (small : length s ≤ largest_file) where
  -- its bytes, and where its blocks start
  abbrev pub inner : List ℕ
  inner = take (at + 12 + length (chain_data name type inside)) s

  abbrev pub inner_at : ℕ
  inner_at = at + 12 + length (chain_fields name type (count_of inside))

  pub whole : at + 12 + length (chain_data name type inside) ≤ length s
  whole = omega (arith, block_within s rest at modifier_chain (chain_data name type inside) meta here, length_block modifier_chain (chain_data name type inside) meta)

  pub inner_length : length inner ≡ at + 12 + length (chain_data name type inside)
  inner_length = length-take-le (at + 12 + length (chain_data name type inside)) s whole

  pub content_here : drop (at + 12) inner ≡ (chain_data name type inside)
  content_here =
      up_to s (chain_data name type inside) _ (at + 12) (at + 12 + length (chain_data name type inside)) (omega (arith, whole))
      (data_here s rest at modifier_chain (chain_data name type inside) meta here) refl

  pub inner_here : drop inner_at inner ≡ blocks_bytes inside ++ []
  inner_here =
      past inner (chain_fields name type (count_of inside)) (blocks_bytes inside) (at + 12) content_here (length (chain_fields name type (count_of inside))) refl
      ∙ sym (append-nil (blocks_bytes inside))

  pub inner_ends : inner_at + length (blocks_bytes inside) ≡ length inner
  inner_ends = omega (arith, inner_length, length-append (chain_fields name type (count_of inside)) (blocks_bytes inside))

  -- it is told, then its blocks, and the next block follows
  chain_walked : (remaining n : ℕ) (rows : List Row) → length name ≤ 255 → type ≤ 2
      → walk_of remaining (count_of inside) inner inner_at false ≡ tells rows
      → walk_of (suc remaining) (suc n) s at false
      ≡ told (row_at at modifier_chain (chain_data name type inside) meta (levels - suc remaining) ∷ rows)
      (walk_of (suc remaining) n s (at + length (block_bytes modifier_chain (chain_data name type inside) meta)) false)
  unfolding contents_at extent_of inside_of standing_of is_chain is_continuation kind_of class_of
  chain_walked remaining n rows h t walked =
      let head = head_of modifier_chain (chain_data name type inside) meta in
      let extent = extent_of at head in
      let run : Run = record { at = inner_at; count = count_of inside } in
      let kind = Declaration chain_type in
      let enters : standing_of kind (suc remaining) false ≡ 0 = rw (ne_eqb (suc remaining) 0 (λ e. omega arith)) in
      let b = block_of kind head extent run in
      let few : count_of inside < 0x100000000
      = omega (arith, few_blocks inside, whole, length-append (chain_fields name type (count_of inside)) (blocks_bytes inside)) in
      let fields = fields_back inner name (blocks_bytes inside) (at + 12) type (count_of inside) content_here h t few in
      one_walked s rest at modifier_chain (chain_data name type inside) meta here small (omega arith) kind (suc remaining) n false b rows
      refl enters (rw fields) refl refl refl (rw walked)

-- ---- blocks one after the other

-- a block with its rows, and then those after it
module _ (remaining : ℕ) (s part more rest : List ℕ) (at : ℕ) where
  pub first_here : drop at s ≡ (part ++ more) ++ rest → drop at s ≡ part ++ (more ++ rest)
  first_here here = here ∙ append_assoc part more rest

  follow : (count n : ℕ) (continued next : Bool) (rows others : List Row) (o : Outcome)
      → walk_of remaining (suc (count + n)) s at continued ≡ told rows (walk_of remaining (count + n) s (at + length part) next)
      → walk_of remaining (count + n) s (at + length part) next ≡ told others o
      → walk_of remaining (suc count + n) s at continued ≡ told (rows ++ others) o
  follow count n continued next rows others o first later =
      let e : suc count + n ≡ suc (count + n) = omega arith in
      rw (e, first, later) (told_told rows others o)

  -- they end where the last of them does
  both_end : at + length part + length more ≡ at + length (part ++ more)
  both_end = omega (arith, length-append part more)

-- the test on a type that each of a list passes: it fits a U32
pub declaration_small : (x : ℕ) → OneOf x plain_declarations → x < 0x100000000
declaration_small x o = ltb-true x 0x100000000 (passes (λ y. ltb y 0x100000000) x plain_declarations refl o)

pub continuation_small : (x : ℕ) → OneOf x continuation_types → x < 0x100000000
continuation_small x o = ltb-true x 0x100000000 (passes (λ y. ltb y 0x100000000) x continuation_types refl o)

declaration_stands : (x remaining : ℕ) → eqb x chain_type ≡ false → standing_of (Declaration x) remaining false ≡ 0
unfolding standing_of
declaration_stands x remaining e = rw e

-- where all blocks are walked, the walk ends with the bytes
walk_ends : (remaining at : ℕ) (s : List ℕ) (continued : Bool) → at ≡ length s → walk_of remaining 0 s at continued ≡ tells []
unfolding blocks_of
walk_ends remaining at s continued e = rw (eq-eqb at (length s) e)

-- Declarations are walked to their rows, and what follows them is walked from where they end.
pub declarations-walked : (bs : Blocks) (s rest : List ℕ) (at remaining depth n : ℕ) → Declarations remaining bs → depth + remaining ≡ levels
    → length s ≤ largest_file → drop at s ≡ blocks_bytes bs ++ rest
    → walk_of remaining (count_of bs + n) s at false
    ≡ told (rows_laid at depth bs) (walk_of remaining n s (at + length (blocks_bytes bs)) false)
unfolding Declarations blocks_bytes count_of rows_laid is_chain is_continuation
declarations-walked none s rest at remaining depth n d l small here = rw (zero-add n, add-zero at)
declarations-walked (block type content meta more) s rest at remaining depth n d l small here =
    let part = block_bytes type content meta in
    let k = declaration_kind type d.0 in
    let stands = first_here remaining s part (blocks_bytes more) rest at here in
    let deep : levels - remaining ≡ depth = omega arith in
    let end = both_end remaining s part (blocks_bytes more) rest at in
    let first = plain_walked s (blocks_bytes more ++ rest) at type content meta (Declaration type) remaining (count_of more + n) false stands small
    (declaration_small type d.0) k.0 k.1 (declaration_stands type remaining k.1) in
    let later = declarations-walked more s rest (at + length part) remaining depth n d.1 l small
    (next_here s (blocks_bytes more ++ rest) at type content meta stands) in
    follow remaining s part (blocks_bytes more) rest at (count_of more) n false false (row_at at type content meta depth ∷ [])
    (rows_laid (at + length part) depth more) (walk_of remaining n s (at + length (part ++ blocks_bytes more)) false) (rw deep at first) (rw end at later)
declarations-walked (chain name type inside meta more) s rest at zero depth n d l small here = absurd d
declarations-walked (chain name type inside meta more) s rest at (suc remaining) depth n d l small here =
    let content = chain_data name type inside in
    let part = block_bytes modifier_chain content meta in
    let stands = first_here (suc remaining) s part (blocks_bytes more) rest at here in
    let deep : levels - suc remaining ≡ depth = omega arith in
    let end = both_end (suc remaining) s part (blocks_bytes more) rest at in
    let bytes = inner s (blocks_bytes more ++ rest) at name type inside meta stands small in
    let from = inner_at s (blocks_bytes more ++ rest) at name type inside meta stands small in
    let size = inner_length s (blocks_bytes more ++ rest) at name type inside meta stands small in
    let ends = inner_ends s (blocks_bytes more ++ rest) at name type inside meta stands small in
    let room = whole s (blocks_bytes more ++ rest) at name type inside meta stands small in
    let rows = rows_laid from (suc depth) inside in
    let walked = declarations-walked inside bytes [] from remaining (suc depth) 0 d.2 (omega arith) (omega arith)
    (inner_here s (blocks_bytes more ++ rest) at name type inside meta stands small) in
    let within : walk_of remaining (count_of inside) bytes from false ≡ tells rows
    = ap (λ (k : ℕ). walk_of remaining k bytes from false) (sym (add-zero (count_of inside))) ∙ walked ∙ ap (told rows) (walk_ends remaining _ bytes false ends)
    ∙ ap tells (append-nil rows) in
    let first = chain_walked s (blocks_bytes more ++ rest) at name type inside meta stands small remaining (count_of more + n) rows d.0 d.1 within in
    let later = declarations-walked more s rest (at + length part) (suc remaining) depth n d.3 l small
    (next_here s (blocks_bytes more ++ rest) at modifier_chain content meta stands) in
    follow (suc remaining) s part (blocks_bytes more) rest at (count_of more) n false false (row_at at modifier_chain content meta depth ∷ rows)
    (rows_laid (at + length part) depth more) (walk_of (suc remaining) n s (at + length (part ++ blocks_bytes more)) false) (rw deep at first) (rw end at later)

-- at the top the walk ends with the bytes, however many blocks there might have been
file_ends_lem : (n at : ℕ) (s : List ℕ) (continued : Bool) → at ≡ length s → walk_of levels n s at continued ≡ tells []
unfolding blocks_of file_ends
file_ends_lem zero at s continued e = walk_ends levels at s continued e
file_ends_lem (suc n) at s continued e = rw (eq-eqb at (length s) e)

-- Continuations are walked to their rows, after declarations or continuations, up to where the bytes end.
pub continuations-walked : (bs : Blocks) (s : List ℕ) (at n : ℕ) (continued : Bool) → Continuations bs → length s ≤ largest_file → at ≤ length s
    → drop at s ≡ blocks_bytes bs → walk_of levels (count_of bs + n) s at continued ≡ tells (rows_laid at 0 bs)
unfolding Continuations blocks_bytes count_of rows_laid is_chain is_continuation standing_of
continuations-walked none s at n continued d small a here = file_ends_lem (0 + n) at s continued (omega (arith, length-drop at s, ap length here))
continuations-walked (block type content meta more) s at n continued d small a here =
    let part = block_bytes type content meta in
    let first = plain_walked s (blocks_bytes more) at type content meta (Continuation type) levels (count_of more + n) continued here small
    (continuation_small type d.0) (continuation_kind type d.0) refl refl in
    let later = continuations-walked more s (at + length part) n true d.1 small (block_within s (blocks_bytes more) at type content meta here)
    (next_here s (blocks_bytes more) at type content meta here) in
    follow levels s part (blocks_bytes more) [] at (count_of more) n continued true (row_at at type content meta 0 ∷ [])
    (rows_laid (at + length part) 0 more) (tells []) first (later ∙ ap tells (sym (append-nil (rows_laid (at + length part) 0 more))))
    ∙ ap tells (append-nil (row_at at type content meta 0 ∷ rows_laid (at + length part) 0 more))
continuations-walked (chain name type inside meta more) s at n continued d small a here = absurd d
