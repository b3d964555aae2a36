-- The faces can be read, and zeros follow them.
use Prim.Native.Nat.{◌-◌}
use mathlib.Core.Path.{◌≡◌}
use native.Mathlib.Omega.{arith}
use lib.ListN.{length}
use Rattle.mesh.specs.Base.{words_in}
use Rattle.mesh.proofs.Bases.{faces_filled}
use Rattle.mesh.proofs.base.fill_faces.Goals as goal

pub returns : goal.returns
returns c =
    let a = c.args in
    let parts = c.split_at_mut-room.ensures in
    let w = c.words_in.ensures.0 in
    let rest : length c.read_faces.new.table - words_in a.counts 0 ≡ length c.split_at_mut-room.result.1.now = omega (arith, parts.back_len, w) in
    faces_filled a.s.now a.declaration a.counts a.at c.read_faces.result a.table.now c.read_faces.new.table _ c.words_before.result c.words_before.ensures.0
    c.requires.faces_fit c.read_faces.ensures (rw (rest, ← w, ← parts.front, c.fill.ensures.after (λ y e. e)))
