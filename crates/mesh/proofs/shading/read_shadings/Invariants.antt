use Prim.Native.Nat.{◌-◌, ◌≤◌}
use mathlib.Core.Path.{◌≡◌}
use lib.ListN.{length}
use Rattle.mesh.specs.Inside.{stored_shadings}
use Rattle.mesh.specs.Shading.{no_shadings, shading_limit, shadings_at}
use Rattle.mesh.proofs.shading.read_shadings.Given as goal

abbrev pub invariant-loop-i : goal.invariant-loop-i
invariant-loop-i l = record {
  few : l.count ≤ shading_limit;
  room : length l.shadings ≡ shading_limit;
  whole : stored_shadings no_shadings 0 (shadings_at l.count l.s l.from) ≡ stored_shadings l.shadings l.i (shadings_at (l.count - l.i) l.s l.at);
}
