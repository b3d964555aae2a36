-- One shading, so many times.
use Rattle.mesh.specs.Shading.{no_shadings}
use Rattle.mesh.proofs.shading.no_shadings.Goals as goal

pub returns : goal.returns
unfolding no_shadings
returns c = simp c.no_shading.ensures
