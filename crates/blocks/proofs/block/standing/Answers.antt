-- Each kind, and then each test, decides.
use borrow.Author.Tests.{eq-eqb, ne_eqb}
use lib.Dec.{eqb}
use mathlib.Core.Path.{◌≡◌, sym, ◌∙◌}
use mathlib.Core.Bool.{Bool}
use Prim.Native.Nat.{ℕ}
use Rattle.blocks.specs.Kind.{chain_type, is_chain}
use Rattle.blocks.specs.Block.{standing_of}
use Rattle.blocks.specs.declared.kind.Kind.{Kind}
use Rattle.blocks.specs.declared.kind.Kind.TheVariants.{Declaration}
use Rattle.blocks.proofs.block.standing.Goals as goal

-- whether a declaration is a chain
chain : {kind : Kind} {block_type : ℕ} {t : Bool} → kind ≡ Declaration block_type → is_chain kind ≡ t → eqb block_type chain_type ≡ t
unfolding is_chain
chain e q = rw e at q

pub returns-in-Unknown : goal.returns-in-Unknown
unfolding standing_of
returns-in-Unknown c = rw (c.at.ensures, c.in-Unknown.is)

pub returns-in-Header : goal.returns-in-Header
unfolding standing_of
returns-in-Header c = rw (c.at-in-Header.ensures, c.in-Header.is)

pub returns-in-Continuation : goal.returns-in-Continuation
unfolding standing_of
returns-in-Continuation c = rw (c.in-Continuation.is, eq-eqb _ _ c.if-remaining-eq-LEVELS.true)

pub returns-in-Continuation-2 : goal.returns-in-Continuation-2
unfolding standing_of
returns-in-Continuation-2 c = rw (c.at-in-Continuation-2.ensures, c.in-Continuation-2.is, ne_eqb _ _ c.if-remaining-eq-LEVELS.false)

pub returns-in-Declaration : goal.returns-in-Declaration
unfolding standing_of
returns-in-Declaration c = rw (c.at-in-Declaration.ensures, c.in-Declaration.is, c.if-continued.true)

pub returns-in-Declaration-2 : goal.returns-in-Declaration-2
unfolding standing_of
returns-in-Declaration-2 c = rw (c.at-in-Declaration-2.ensures, c.in-Declaration-2.is, c.if-continued.false, chain c.in-Declaration-2.is (sym c.is_chain.ensures ∙ c.if-is_chain.true), eq-eqb _ _ c.if-remaining-eq0.true)

pub returns-in-Declaration-3 : goal.returns-in-Declaration-3
unfolding standing_of
returns-in-Declaration-3 c = rw (c.in-Declaration-2.is, c.if-continued.false, chain c.in-Declaration-2.is (sym c.is_chain.ensures ∙ c.if-is_chain.true), ne_eqb _ _ c.if-remaining-eq0.false)

pub returns-in-Declaration-3-2 : goal.returns-in-Declaration-3-2
unfolding standing_of
returns-in-Declaration-3-2 c = rw (c.in-Declaration-2.is, c.if-continued.false, chain c.in-Declaration-2.is (sym c.is_chain.ensures ∙ c.if-is_chain.false))
