-- What the reader of meshes leaves in the caller's tables is a base mesh with clear room: each table holds its words, and zeros to its end.
use mathlib.Core.Path.{◌≡◌, ◌∙◌, ap, refl}
use mathlib.Core.List.{List, [], ◌∷◌, map}
use Prim.Native.Nat.{ℕ, zero, suc, ◌+◌, ◌-◌, ◌≤◌}
use native.Mathlib.Omega.{arith}
use borrow.Author.Tests.{le-leb}
use lib.ListN.{get_or, length, length-append, length-replicate, replicate}
use lib.Seq.{get_or-append-add}
use Rattle.mesh.specs.Run.{filled}
use Rattle.mesh.specs.Base.{InPart, Tables, answered, counts_of, lengths_of, mesh_of, read, refused_in, tables_after, words_in}
use Rattle.mesh.specs.Base as base
use Rattle.mesh.specs.declared.base.MeshCounts.{MeshCounts}
use Rattle.mesh_theorems.proofs.Housed.{Housed, housed}
use Rattle.progressive.specs.Mesh.{fits}
use Rattle.progressive_theorems.specs.Calls.{States, base_mesh}
use Rattle.progressive_theorems.proofs.Undoing.{ClearFrom, Ready}
use Rattle.progressive_theorems.proofs.Levels.{Based}

-- a mesh that was answered with these counts was read
answered_mesh : (j : InPart base.Mesh) (counts : MeshCounts) → answered j ≡ read counts → (m : base.Mesh) × (j ≡ read m) × (counts_of m ≡ counts)
answered_mesh (read m) counts e = let same : counts_of m ≡ counts = cc in (m, refl, same)
answered_mesh (refused_in p n place) counts e = let z : ◌≡◌ {A = ℕ} 0 1 = cc in absurd (omega arith)

zeros_clear : (n i : ℕ) → get_or (replicate {A = ℕ} n 0) i 0 ≡ 0
zeros_clear zero i = refl
zeros_clear (suc n) zero = refl
zeros_clear (suc n) (suc i) = zeros_clear n i

filled_clear : (room n : ℕ) (words : List ℕ) → length words ≡ n → ClearFrom n (filled room 0 words)
filled_clear room n words e i h =
    let at : length words + (i - n) ≡ i = omega arith in
    rw at at (get_or-append-add words (replicate (room - length words) 0) (i - n) 0) ∙ zeros_clear (room - length words) (i - n)

filled_length : (room : ℕ) (words : List ℕ) → length words ≤ room → length (filled room 0 words) ≡ room
filled_length room words h = omega (arith, length-append words (replicate (room - length words) 0), length-replicate {A = ℕ} (room - length words) 0)

first_length : (ls : List (List ℕ)) (n : ℕ) (more : List ℕ) → map length ls ≡ n ∷ more → length (get_or ls 0 []) ≡ n
first_length [] n more e = let z : ◌≡◌ {A = ℕ} 0 1 = cc in absurd (omega arith)
first_length (l ∷ ls) n more e = cc

positions_long : (lengths : List ℕ) (m : base.Mesh) → Housed lengths m → length (get_or m.pools 0 []) ≡ words_in m.counts 1
positions_long lengths m h = first_length m.pools _ _ h.pools

read_ready : (before : Tables) (m : base.Mesh) → Housed (lengths_of before) m → (counts : MeshCounts) → counts_of m ≡ counts
    → Ready (base_mesh (tables_after (read m) before) counts)
unfolding tables_after fits
read_ready before m h counts e =
    let long = positions_long (lengths_of before) m h in
    rw (← e) (record {
      room =
          rw (
            filled_length (length before.faces) m.faces (omega (arith, h.faces, h.room 0 (omega arith))),
            filled_length (length before.positions) (get_or m.pools 0 []) (omega (arith, long, h.room 1 (omega arith))),
            le-leb _ _ (h.small 0),
            le-leb _ _ (h.small 1),
            le-leb _ _ (h.room 0 (omega arith)),
            le-leb _ _ (h.room 1 (omega arith)),
          );
      faces_clear = filled_clear (length before.faces) _ m.faces h.faces;
      positions_clear = filled_clear (length before.positions) _ (get_or m.pools 0 []) long;
    })

pub read_based : (d s : List ℕ) (before after : Tables) (counts : MeshCounts) → answered (mesh_of d s (lengths_of before)) ≡ read counts
    → after ≡ tables_after (mesh_of d s (lengths_of before)) before → (t : List ℕ) → States t counts → Based t (base_mesh after counts)
read_based d s before after counts e f t states =
    let m = answered_mesh (mesh_of d s (lengths_of before)) counts e in
    let same : after ≡ tables_after (read m.0) before = f ∙ ap (λ (j : InPart base.Mesh). tables_after j before) m.1 in
    record {
      ready = rw same (read_ready before m.0 (housed d s (lengths_of before) m.0 m.1) counts m.2);
      states_positions = states.positions;
      states_faces = states.faces;
    }
