-- Demand 3, whole: one claim about the list of calls. It holds since the reader leaves a base mesh with clear room, and from such a mesh every
-- call is judged as the tally judges it.
use mathlib.Core.Path.{◌≡◌, ◌∙◌, ap, refl}
use mathlib.Core.List.{List}
use Prim.Native.Nat.{ℕ}
use Rattle.mesh.specs.Base.{InPart, Tables, answered, counts_of, lengths_of, mesh_of, read, tables_after}
use Rattle.mesh.specs.Base as base
use Rattle.progressive.specs.Mesh.{Mesh}
use Rattle.progressive_theorems.specs.Calls.{Call, States, base_mesh, replies}
use Rattle.progressive_theorems.specs.Tally.{mesh_zero, tally}
use Rattle.progressive_theorems.proofs.Following.{follows_tally}
use Rattle.progressive_theorems.proofs.BaseRead.{read_based}

-- what the reader leaves is mesh 0
pub left_zero : (d s : List ℕ) (before : Tables) (m : base.Mesh) → mesh_of d s (lengths_of before) ≡ read m
    → base_mesh (tables_after (mesh_of d s (lengths_of before)) before) (counts_of m) ≡ mesh_zero m (lengths_of before)
unfolding tables_after
left_zero d s before m e = ap (λ (j : InPart base.Mesh). base_mesh (tables_after j before) (counts_of m)) e

-- For every declaration d and continuation s that the mesh reader reads into any six tables, with the counts that it answers and the tables that
-- it leaves, every step list that states its base counts, the shading count it gave, and every list of calls for steps up and down and for
-- walks: each call answers what the tally answers, which knows only the base mesh, the shading count, the step list, the tables' lengths and the
-- calls; and after each call tables and counts equal, number for number to the tables' ends, the base mesh with the list's first k steps laid on it.
pub calls_follow_tally : (d s : List ℕ) (before : Tables) (m : base.Mesh) → mesh_of d s (lengths_of before) ≡ read m → (steps : List ℕ)
    → States steps (counts_of m) → (calls : List Call)
    → (let after = tables_after (mesh_of d s (lengths_of before)) before in
    replies steps (counts_of m).shadings (base_mesh after (counts_of m)) calls ≡ tally steps (counts_of m).shadings (mesh_zero m (lengths_of before)) 0 calls)
calls_follow_tally d s before m e steps states calls =
    let after = tables_after (mesh_of d s (lengths_of before)) before in
    let counts = counts_of m in
    follows_tally steps counts.shadings (base_mesh after counts) (read_based d s before after counts (ap answered e) refl steps states) calls
    ∙ ap (λ (b : Mesh). tally steps counts.shadings b 0 calls) (left_zero d s before m e)
