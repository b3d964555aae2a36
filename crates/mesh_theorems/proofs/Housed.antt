-- A mesh that is read fits the tables that were lent: its counts are within the limit, its words within each table's room, and faces and pools
-- have as many words as their counts say.
use Prim.Native.Nat.{ℕ, ◌≤◌, ◌<◌}
use mathlib.Core.Bool.{not}
use mathlib.Core.List.{List, [], ◌∷◌, map}
use mathlib.Core.Path.{◌≡◌, ◌∙◌}
use borrow.Author.Tests.{not-false}
use lib.ListN.{drop, get_or, length, length-replicate, replicate}
use Rattle.fields.specs.Limits.{largest_count}
use Rattle.fields.specs.Numbers.{no_room}
use Rattle.fields.specs.Judged.{done}
use Rattle.fields.proofs.Judging.{passed, same_done, value_before}
use Rattle.mesh.specs.Run.{run_at, unjudged}
use Rattle.mesh.specs.Faces.{faces_of, placed_at}
use Rattle.mesh.specs.Base.{Mesh, base_of, has_room, head_of, mesh_of, pool_words, pools_at, read, sized, table_count, words_in}
use Rattle.mesh.specs.Declaration.{declaration_of, mesh_name}
use Rattle.mesh.specs.declared.base.Part as part
use Rattle.mesh.specs.declared.declaration.Declaration.{Declaration}
use Rattle.mesh.specs.declared.run.Ended.{Ended}
use Rattle.mesh.proofs.Rooms.{room_at}
use Rattle.mesh.proofs.Runs.{run_length}
use Rattle.mesh_theorems.proofs.Below.{base_faces, below_length, part_before}
use Rattle.mesh_theorems.proofs.SmallCounts.{counts_small}

pub record Housed (lengths : List ℕ) (m : Mesh) : Type 0 where
  pub small : (i : ℕ) → get_or m.counts i 0 ≤ largest_count
  pub room : (i : ℕ) → i < table_count → words_in m.counts i ≤ get_or lengths i 0
  pub faces : length m.faces ≡ words_in m.counts 0
  pub pools : map length m.pools ≡ pool_words m.counts

-- each pool has so many words
pools_length : (ws s : List ℕ) (at : ℕ) (r : Ended (List (List ℕ))) → pools_at ws s at ≡ done r → map length r.value ≡ ws
unfolding pools_at
pools_length [] s at r e = rw (← same_done e)
pools_length (words ∷ more) s at r e =
    let pool = value_before (run_at (replicate words unjudged) s at) _ r e in
    let rest = value_before (pools_at more s _) _ r pool.2 in
    let long : length pool.0 ≡ words = run_length _ s at pool.0 pool.1 ∙ length-replicate words unjudged in
    rw (← same_done rest.2, long, pools_length more s _ rest.0 rest.1)

base_housed : (s name : List ℕ) (declaration : Declaration) (lengths : List ℕ) (m : Mesh) → base_of s name declaration lengths ≡ done m → Housed lengths m
unfolding base_of
base_housed s name declaration lengths m e =
    let head = value_before (head_of s name declaration) _ m e in
    let counts = head.0.value in
    let room = passed (not (has_room lengths counts)) no_room 0 _ m head.2 in
    let pools = value_before (pools_at (pool_words counts) s head.0.next) _ m room.1 in
    let start = pools.0.next in
    let faces = value_before (placed_at start (faces_of declaration counts (get_or counts 0 0) (drop start s))) _ m pools.2 in
    let states = same_done faces.2 in
    record {
      small = rw (← states) (counts_small s name declaration head.0 head.1);
      room = rw (← states) (room_at lengths counts (not-false _ room.0));
      faces = below_length m.declaration m.counts (get_or m.counts 0 0) m.faces (base_faces s name declaration lengths m e);
      pools = rw (← states) (pools_length (pool_words counts) s head.0.next pools.0 pools.1);
    }

-- Every mesh that the reader reads fits its tables.
pub housed : (d s lengths : List ℕ) (m : Mesh) → mesh_of d s lengths ≡ read m → Housed lengths m
unfolding mesh_of
housed d s lengths m e =
    let a = part_before part.TheVariants.Declaration (sized d) _ m e in
    let b = part_before part.TheVariants.Continuation (sized s) _ m a.2 in
    let c = part_before part.TheVariants.Declaration (declaration_of d) _ m b.2 in
    let f = part_before part.TheVariants.Continuation (base_of s (mesh_name d) c.0 lengths) _ m c.2 in
    let same : f.0 ≡ m = cc in
    rw (← same) (base_housed s (mesh_name d) c.0 lengths f.0 f.1)
