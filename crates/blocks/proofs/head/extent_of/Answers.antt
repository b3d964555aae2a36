-- The sums are those of the definition.
use Rattle.blocks.specs.Head.{extent_of}
use Rattle.blocks.proofs.head.extent_of.Goals as goal

pub returns : goal.returns
unfolding extent_of
returns c = simp (c.aligned.ensures, c.aligned-2.ensures)
