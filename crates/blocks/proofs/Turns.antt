-- The walk's definition in the terms of the loop that walks: each law takes what is still to be told one step on. Assumes nothing.
use mathlib.Core.Path.{◌≡◌, refl, ap, sym, ◌∙◌, subst}
use mathlib.Core.Bool.{Bool, true, false}
use mathlib.Core.List.{List, []}
use Prim.Native.Nat.{ℕ, zero, suc, ◌+◌, ◌-◌, ◌*◌, ◌<◌, ◌≤◌}
use native.Mathlib.Omega.{arith}
use lib.Dec.{eqb}
use lib.ListN.{length, take}
use lib.Seq.{sets}
use Rattle.fields.specs.Numbers.{bad_chain}
use Rattle.fields.specs.Judged.{Judged, done, refused, pick}
use Rattle.blocks.specs.Kind.{is_chain, is_continuation}
use Rattle.blocks.specs.Head.{paddings_of}
use Rattle.blocks.specs.Chain.{in_chain}
use Rattle.blocks.specs.Block.{levels, block_at}
use Rattle.blocks.specs.Walk.{Outcome, tells, ends, and_then, row_of, file_ends, blocks_of, inside_of, walk_of, in_chain_outcome}
use Rattle.blocks.specs.Told.{row_width, row_words, all_of}
use Rattle.blocks.specs.Inside.{bytes_of, told_with, Stored, stored, answer_of, filled_of, ToldFits}
use Rattle.blocks.specs.declared.block.Block.{Block}
use Rattle.blocks.specs.declared.tell.Row.{Row}
use Rattle.blocks.specs.declared.tell.Told.{Told}
use Rattle.blocks.proofs.Fits.{in_chain_done}
use Rattle.blocks.proofs.Lines.{bytes_short}
use Rattle.blocks.proofs.Stores.{store_on, store_stop, row_told, ends_well, ends_refused, in_chain_answer}

-- an answer with the table and the text as they then are is what was to be stored
pub record Answered (q : Stored) (j : Judged Told) (table text : List ℕ) : Type 0 where
  pub answer : j ≡ answer_of q
  pub in_table : table ≡ q.table
  pub in_text : text ≡ q.text

pub answer_done : (q : Stored) (table text : List ℕ) (told : Told) (lines : Bool) → q ≡ stored table text told lines (tells []) → Answered q (done told) table text
unfolding answer_of stored all_of
answer_done q table text told lines e =
    let b : told.blocks + 0 ≡ told.blocks = omega arith in
    let y : told.bytes + 0 ≡ told.bytes = omega arith in
    record { answer = rw (e, b, y); in_table = rw e; in_text = rw e }

pub answer_refused : (q : Stored) (table text : List ℕ) (told : Told) (lines : Bool) (n p : ℕ)
    → q ≡ stored table text told lines (ends (refused n p)) → Answered q (refused n p) table text
unfolding answer_of stored all_of
answer_refused q table text told lines n p e = record { answer = rw e; in_table = rw e; in_text = rw e }

-- what follows a block's contents: its paddings and the blocks after it
abbrev pub rest_of : ℕ → ℕ → List ℕ → Block → Outcome
rest_of remaining left s b =
    and_then (ends (paddings_of s b.extent)) (walk_of remaining (left - 1) s b.extent.next (is_continuation b.kind))

-- what is still to be told, at the loop's head
module _ (s : List ℕ) (remaining : ℕ) (lines : Bool) (table text : List ℕ) (told : Told) (left at : ℕ) (continued : Bool) where
  abbrev pub still : Outcome → Stored
  still o = stored table text told lines o

  pub file_ended : 0 < left → file_ends at (length s) remaining ≡ true → still (walk_of remaining left s at continued) ≡ still (tells [])
  unfolding blocks_of
  file_ended h e = let l : left ≡ suc (left - 1) = omega arith in rw (l, blocks_of, e)

  pub block_refused : (n p : ℕ) → 0 < left → file_ends at (length s) remaining ≡ false → block_at s at remaining continued ≡ refused n p
      → still (walk_of remaining left s at continued) ≡ still (ends (refused n p))
  unfolding blocks_of
  block_refused n p h e f = let l : left ≡ suc (left - 1) = omega arith in rw (l, blocks_of, e, f)

  block_found : (b : Block) → 0 < left → file_ends at (length s) remaining ≡ false → block_at s at remaining continued ≡ done b
      → still (walk_of remaining left s at continued)
      ≡ stored (sets table (told.blocks * row_width) (row_words (row_of at b.head (levels - remaining))))
      (sets text told.bytes (bytes_of lines (row_of at b.head (levels - remaining)))) (told_with lines told (row_of at b.head (levels - remaining))) lines
      (and_then (inside_of remaining s b) (rest_of remaining left s b))
  unfolding blocks_of
  block_found b h e f =
      let l : left ≡ suc (left - 1) = omega arith in
      ap (λ (n : ℕ). still (walk_of remaining n s at continued)) l
      ∙ rw (blocks_of, e, f) (row_told table text told lines (row_of at b.head (levels - remaining)) _)

  -- the same with the table, the text and what is told by their names
  pub block_told : (b : Block) (row : Row) (table₁ text₁ : List ℕ) (told₁ : Told) → 0 < left → file_ends at (length s) remaining ≡ false
      → block_at s at remaining continued ≡ done b → row ≡ row_of at b.head (levels - remaining) → told₁ ≡ told_with lines told row
      → table₁ ≡ sets table (told.blocks * row_width) (row_words row) → text₁ ≡ sets text told.bytes (bytes_of lines row)
      → still (walk_of remaining left s at continued) ≡ stored table₁ text₁ told₁ lines (and_then (inside_of remaining s b) (rest_of remaining left s b))
  block_told b row table₁ text₁ told₁ h e f r n t x = block_found b h e f ∙ rw (n, t, x, r)

  -- all blocks are walked, and the last ends where the bytes end, or it does not
  last_end : left ≤ 0 → walk_of remaining left s at continued ≡ pick (eqb at (length s)) (tells []) (ends (refused bad_chain at))
  unfolding blocks_of
  last_end h = let l : left ≡ 0 = omega arith in rw l

  pub all-walked : (j : Judged Told) → left ≤ 0 → j ≡ filled_of at (length s) told → Answered (still (walk_of remaining left s at continued)) j table text
  unfolding answer_of stored all_of
  all-walked j h e = rw (last_end h) (by (eqb at (length s)) e) where
    by : (t : Bool) → j ≡ pick t (done told) (refused bad_chain at) → Answered (still (pick t (tells []) (ends (refused bad_chain at)))) j table text
    by true e =
        let b : told.blocks + 0 ≡ told.blocks = omega arith in
        let y : told.bytes + 0 ≡ told.bytes = omega arith in
        record { answer = e ∙ rw (b, y); in_table = refl; in_text = refl }
    by false e = record { answer = e; in_table = refl; in_text = refl }

-- what is still to be told, at a block's contents and after them
module _ (s : List ℕ) (remaining : ℕ) (lines : Bool) (b : Block) (table text : List ℕ) (told : Told) (rest : Outcome) where
  -- the blocks inside a chain
  abbrev pub contents : Outcome
  contents = walk_of (remaining - 1) b.contents.count (take b.extent.data_end s) b.contents.at false

  chain_contents : 0 < remaining → is_chain b.kind ≡ true → inside_of remaining s b ≡ in_chain_outcome contents
  unfolding inside_of
  chain_contents h e =
      let l : remaining ≡ suc (remaining - 1) = omega arith in
      ap (λ (n : ℕ). inside_of n s b) l ∙ rw (inside_of, e)

  no_contents : (n : ℕ) → is_chain b.kind ≡ false → inside_of n s b ≡ tells []
  unfolding inside_of
  no_contents zero e = refl
  no_contents (suc n) e = rw e

  pub chain_walked : (j : Judged Told) (table' text' : List ℕ) (told' : Told) → 0 < remaining → is_chain b.kind ≡ true
      → j ≡ answer_of (stored table text told lines contents) → in_chain j ≡ done told'
      → table' ≡ (stored table text told lines contents).table → text' ≡ (stored table text told lines contents).text
      → stored table text told lines (and_then (inside_of remaining s b) rest) ≡ stored table' text' told' lines rest
  unfolding stored all_of
  chain_walked j table' text' told' h e a d t x =
      let w = ends_well (stored table text told lines contents) told' (sym a ∙ in_chain_done j told' d) in
      ap (λ (o : Outcome). stored table text told lines (and_then o rest)) (chain_contents h e)
      ∙ store_on table text told lines (in_chain_outcome contents) rest w.0 (ap in_chain w.1) ∙ rw (t, x, sym w.2)

  pub chain_refused : (j : Judged Told) (n p : ℕ) (q : Stored) (table' text' : List ℕ) → 0 < remaining → is_chain b.kind ≡ true
      → j ≡ answer_of (stored table text told lines contents) → in_chain j ≡ refused n p
      → table' ≡ (stored table text told lines contents).table → text' ≡ (stored table text told lines contents).text
      → q ≡ stored table text told lines (and_then (inside_of remaining s b) rest) → Answered q (refused n p) table' text'
  unfolding stored all_of
  chain_refused j n p q table' text' h e a g t u v =
      let inner : answer_of (stored table text told lines (in_chain_outcome contents)) ≡ refused n p
      = in_chain_answer table text told lines contents ∙ ap in_chain (sym a) ∙ g in
      let w = ends_refused (stored table text told lines (in_chain_outcome contents)) n p inner in
      let all : q ≡ stored table text told lines (in_chain_outcome contents)
      = v ∙ ap (λ (o : Outcome). stored table text told lines (and_then o rest)) (chain_contents h e)
      ∙ store_stop table text told lines (in_chain_outcome contents) rest n p w in
      record {
        answer = sym (ap answer_of all ∙ inner);
        in_table = t ∙ sym (ap (λ (k : Stored). k.table) all);
        in_text = u ∙ sym (ap (λ (k : Stored). k.text) all);
      }

  -- nothing told leaves all as it is
  nothing_told : (o : Outcome) (u : Unit {0}) → o.ending ≡ done u → o.rows ≡ [] → stored table text told lines (and_then o rest) ≡ stored table text told lines rest
  unfolding stored all_of
  nothing_told o u e f =
      let n : told.blocks + 0 ≡ told.blocks = omega arith in
      let y : told.bytes + 0 ≡ told.bytes = omega arith in
      store_on table text told lines o rest u e ∙ rw (f, n, y)

  pub no_chain : is_chain b.kind ≡ false → stored table text told lines (and_then (inside_of remaining s b) rest) ≡ stored table text told lines rest
  no_chain e =
      ap (λ (o : Outcome). stored table text told lines (and_then o rest)) (no_contents remaining e) ∙ nothing_told (tells []) tt refl refl

  pub paddings_fine : (u : Unit {0}) → paddings_of s b.extent ≡ done u
      → stored table text told lines (and_then (ends (paddings_of s b.extent)) rest) ≡ stored table text told lines rest
  paddings_fine u e = nothing_told (ends (paddings_of s b.extent)) u e refl

  pub paddings_refused : (n p : ℕ) → paddings_of s b.extent ≡ refused n p
      → stored table text told lines (and_then (ends (paddings_of s b.extent)) rest) ≡ stored table text told lines (ends (refused n p))
  paddings_refused n p e = store_stop table text told lines (ends (paddings_of s b.extent)) rest n p e ∙ rw e

-- a block's row and line are short beside its 12 bytes
pub record Short (at : ℕ) (told : Told) : Type 0 where
  pub blocks : told.blocks ≤ at
  pub bytes : told.bytes ≤ 9 * at

pub told_short : (lines : Bool) (row : Row) (at : ℕ) (told told₁ : Told) → told₁ ≡ told_with lines told row → told.blocks ≤ at → told.bytes ≤ 9 * at
    → Short (at + 12) told₁
told_short lines row at told told₁ e b y =
    subst (Short (at + 12)) (sym e) (record { blocks = omega arith; bytes = omega (arith, bytes_short lines row) })

-- no more is told than before
pub filled-fits : (len at : ℕ) (j : Judged Told) (told : Told) → j ≡ filled_of at len told → told.blocks ≤ len → told.bytes ≤ 9 * len → ToldFits len j
filled-fits len at j told e b y = rw e (by (eqb at len)) where
  by : (t : Bool) → ToldFits len (pick t (done told) (refused bad_chain at))
  by true = (b, y)
  by false = tt
