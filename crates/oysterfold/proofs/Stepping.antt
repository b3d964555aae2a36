-- The exported answer of a step: counts that are too short, a step that is granted, and one that is refused.
use Prim.Native.Nat.{ℕ, ◌≤◌, ◌<◌}
use mathlib.Core.Path.{◌≡◌, ap}
use mathlib.Core.List.{List}
use borrow.Author.Tests.{le-ltb, lt-ltb}
use native.Mathlib.Omega.{arith}
use lib.ListN.{length}
use Rattle.std.proofs.Common.{Result, Ok, Err}
use Rattle.fields.specs.Numbers.{fault_number, no_room}
use Rattle.fields.specs.Judged.{Judged, done, refused}
use Rattle.fields.specs.declared.refusal.Fault.{Fault}
use Rattle.progressive.specs.declared.counts.Counts.{Counts}
use Rattle.progressive.specs.Mesh.{Mesh, mesh_of}
use Rattle.progressive.specs.Steps.{denied, granted, reply, reply_of}
use Rattle.oysterfold.specs.Steps.{count_words, counts_after, counts_in, handed, handed_by, stepped_number, step_into}

-- what an answer tells of the judgement, by its cases
told_by : (present : Counts) (r : Result Counts Fault) (j : Judged Mesh) (m : Mesh) (faces positions counts : List ℕ)
    → reply_of present r faces positions ≡ reply j m
    → handed (stepped_number r) faces positions (counts_after r counts) ≡ handed_by j m.faces m.positions counts
told_by present (Ok after) (done made) m faces positions counts e =
    let same : mesh_of faces positions after ≡ made = granted_same e in
    ap (λ (x : Mesh). handed_by (done x) m.faces m.positions counts) same
  where
    granted_same : {a b : Mesh} → granted a ≡ granted b → a ≡ b
    granted_same f = cc
told_by present (Ok after) (refused n p) m faces positions counts e = let z : ◌≡◌ {A = ℕ} 0 1 = cc in absurd (omega arith)
told_by present (Err fault) (done made) m faces positions counts e = let z : ◌≡◌ {A = ℕ} 0 1 = cc in absurd (omega arith)
told_by present (Err fault) (refused n p) m faces positions counts e =
    let number : fault_number fault ≡ n = denied_number e in
    let mesh : mesh_of faces positions present ≡ m = denied_mesh e in
    rw number (ap (λ (y : Mesh). handed n y.faces y.positions counts) mesh)
  where
    denied_number : {a b c d : ℕ} {y z : Mesh} → denied a b y ≡ denied c d z → a ≡ c
    denied_number f = cc

    denied_mesh : {a b c d : ℕ} {y z : Mesh} → denied a b y ≡ denied c d z → y ≡ z
    denied_mesh f = cc

module _ (step : Mesh → Judged Mesh) (faces positions counts : List ℕ) where
  pub short_counts : length counts < count_words → handed no_room faces positions counts ≡ handed_by (step_into step faces positions counts) faces positions counts
  unfolding step_into
  short_counts h = rw (lt-ltb _ _ h)

  pub step_told : count_words ≤ length counts → (r : Result Counts Fault) (faces' positions' counts' : List ℕ) (number : ℕ)
      → reply_of (counts_in counts) r faces' positions' ≡ reply (step (mesh_of faces positions (counts_in counts))) (mesh_of faces positions (counts_in counts))
      → number ≡ stepped_number r → counts' ≡ counts_after r counts
      → handed number faces' positions' counts' ≡ handed_by (step_into step faces positions counts) faces positions counts
  unfolding step_into
  step_told long r faces' positions' counts' number e f g =
      rw (f, g, le-ltb _ _ long)
      (told_by (counts_in counts) r (step (mesh_of faces positions (counts_in counts))) (mesh_of faces positions (counts_in counts)) faces' positions' counts e)
