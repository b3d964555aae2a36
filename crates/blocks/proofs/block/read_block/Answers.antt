-- The length, and then the level, decide what is made of `block_at`.
use mathlib.Core.Path.{ap, ◌∙◌}
use borrow.Author.Tests.{lt-ltb, le-ltb, eq-eqb, ne_eqb}
use Rattle.blocks.specs.Block.{block_in}
use Rattle.blocks.specs.Chain.{in_chain}
use Rattle.blocks.proofs.block.read_block.Goals as goal

pub returns-then-file-gt-LARGEST_FILE : goal.returns-then-file-gt-LARGEST_FILE
unfolding block_in
returns-then-file-gt-LARGEST_FILE c = rw (c.at.ensures, lt-ltb _ _ c.if-file-gt-LARGEST_FILE.true)

pub returns-then-remaining-gt-LEVELS : goal.returns-then-remaining-gt-LEVELS
unfolding block_in
returns-then-remaining-gt-LEVELS c = rw (c.at-then-remaining-gt-LEVELS.ensures, le-ltb _ _ c.if-file-gt-LARGEST_FILE.false, lt-ltb _ _ c.if-remaining-gt-LEVELS.true)

pub returns-then-remaining-eq-LEVELS : goal.returns-then-remaining-eq-LEVELS
unfolding block_in
returns-then-remaining-eq-LEVELS c = rw (le-ltb _ _ c.if-file-gt-LARGEST_FILE.false, le-ltb _ _ c.if-remaining-gt-LEVELS.false, eq-eqb _ _ c.if-remaining-eq-LEVELS.true) c.block_at-block.ensures

pub returns-else-remaining-eq-LEVELS : goal.returns-else-remaining-eq-LEVELS
unfolding block_in
returns-else-remaining-eq-LEVELS c = rw (le-ltb _ _ c.if-file-gt-LARGEST_FILE.false, le-ltb _ _ c.if-remaining-gt-LEVELS.false, ne_eqb _ _ c.if-remaining-eq-LEVELS.false) (c.in_chain.ensures ∙ ap in_chain c.block_at-block.ensures)
