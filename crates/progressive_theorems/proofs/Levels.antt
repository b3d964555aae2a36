-- Mesh k of the tally: its counts and its tables' lengths, and that a mesh which was reached by granted steps has clear room past it.
use mathlib.Core.Path.{◌≡◌, refl, sym, ap}
use mathlib.Core.Bool.{true}
use mathlib.Core.List.{List}
use Prim.Native.Nat.{ℕ, zero, suc, ◌+◌, ◌<◌, ◌≤◌}
use native.Mathlib.Omega.{arith}
use borrow.Author.Tests.{eq-eqb, le-leb}
use lib.ListN.{length}
use Rattle.progressive.specs.StepTable.{base_faces, base_positions, faces_before, new_face_count, step_count, step_offset, well_formed}
use Rattle.progressive.specs.Mesh.{Mesh, room_for}
use Rattle.progressive.specs.Rules.{allowed}
use Rattle.progressive.specs.Laying.{laid, laid_faces, laid_positions}
use Rattle.progressive.specs.Steps.{counts_agree, level}
use Rattle.progressive.proofs.Indexed.{length_writes}
use Rattle.progressive.proofs.Formed.{formed_at}
use Rattle.progressive_theorems.specs.Tally.{mesh_at, step_fits}
use Rattle.progressive_theorems.proofs.Undoing.{Ready, laid_ready}

-- what the claim takes for granted of the base mesh: its room is clear, and the step list states its counts
pub record Based (t : List ℕ) (base : Mesh) : Type 0 where
  pub ready : Ready base
  pub states_positions : base_positions t ≡ base.position_count
  pub states_faces : base_faces t ≡ base.face_count

-- a step that the tally granted
pub record Granted (t : List ℕ) (shadings : ℕ) (base : Mesh) (k : ℕ) : Type 0 where
  pub formed : well_formed t ≡ true
  pub more : k < step_count t
  pub fitting : step_fits t base k ≡ true
  pub permitted : allowed t (step_offset t k) shadings (mesh_at t base k) ≡ true

-- every step below level k was granted
abbrev pub Reached : List ℕ → ℕ → Mesh → ℕ → Type 0
Reached t shadings base zero = Unit {0}
Reached t shadings base (suc k) = Reached t shadings base k × Granted t shadings base k

module _ (t : List ℕ) (base : Mesh) where
  pub positions_at : (k : ℕ) → (mesh_at t base k).position_count ≡ base.position_count + k
  unfolding mesh_at laid laid_faces laid_positions
  positions_at zero = omega arith
  positions_at (suc k) = omega (arith, positions_at k)

  pub faces_at : (k : ℕ) → base_faces t ≡ base.face_count → (mesh_at t base k).face_count ≡ faces_before t k
  unfolding mesh_at laid laid_faces laid_positions faces_before
  faces_at zero e = sym e
  faces_at (suc k) e = ap (λ (n : ℕ). n + new_face_count t (step_offset t k)) (faces_at k e)

  pub face_length : (k : ℕ) → length (mesh_at t base k).faces ≡ length base.faces
  unfolding mesh_at laid laid_faces laid_positions
  face_length zero = refl
  face_length (suc k) = simp length_writes (face_length k)

  pub position_length : (k : ℕ) → length (mesh_at t base k).positions ≡ length base.positions
  unfolding mesh_at laid laid_faces laid_positions
  position_length zero = refl
  position_length (suc k) = simp length_writes (position_length k)

module _ (t : List ℕ) (shadings : ℕ) (base : Mesh) (based : Based t base) where
  pub room_at : (k : ℕ) → step_fits t base k ≡ true
      → room_for (mesh_at t base k) ((mesh_at t base k).face_count + new_face_count t (step_offset t k)) ((mesh_at t base k).position_count + 1) ≡ true
  unfolding step_fits
  room_at k e = rw (face_length t base k, position_length t base k) e

  pub ready_at : (k : ℕ) → Reached t shadings base k → Ready (mesh_at t base k)
  unfolding mesh_at
  ready_at zero reached = based.ready
  ready_at (suc k) reached =
      let g = reached.1 in
      laid_ready t (step_offset t k) shadings (mesh_at t base k) (formed_at t k g.formed g.more) (ready_at k reached.0) g.permitted (room_at k g.fitting)

  pub level_at : (k : ℕ) → level t (mesh_at t base k).position_count ≡ k
  level_at k = omega (arith, positions_at t base k, based.states_positions)

  pub below_steps : (k : ℕ) → Reached t shadings base k → k ≤ step_count t
  below_steps zero reached = omega arith
  below_steps (suc k) reached = reached.1.more

  pub agree_at : (k : ℕ) → Reached t shadings base k → counts_agree t (mesh_at t base k).face_count (mesh_at t base k).position_count ≡ true
  unfolding counts_agree
  agree_at k reached =
      rw (
        le-leb (base_positions t) (mesh_at t base k).position_count (omega (arith, positions_at t base k, based.states_positions)),
        level_at k,
        le-leb k (step_count t) (below_steps k reached),
        eq-eqb _ _ (faces_at t base k based.states_faces),
      )
