-- The test decides.
use mathlib.Core.Path.{sym}
use native.Mathlib.Omega.{arith}
use Rattle.blocks.proofs.Within.{within_cut, within_whole}
use Rattle.blocks.proofs.parts.within.Goals as goal

pub returns-then-file-at : goal.returns-then-file-at
returns-then-file-at c = let a = c.args in rw c.at.ensures (sym (within_cut a.file.now a.at a.size (omega arith)))

pub returns : goal.returns
returns c = let a = c.args in sym (within_whole a.file.now a.at a.size (omega arith))
