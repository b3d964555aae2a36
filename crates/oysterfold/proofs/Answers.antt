-- The exported answer of a mesh: a result that is too short, a mesh that is read, and one that is refused.
use Prim.Native.Nat.{ℕ, ◌≤◌, ◌<◌}
use mathlib.Core.Path.{◌≡◌, ◌∙◌, ap, refl, sym}
use mathlib.Core.List.{List}
use borrow.Author.Tests.{le-ltb, lt-ltb}
use native.Mathlib.Omega.{arith}
use lib.ListN.{length}
use lib.Seq.{sets}
use Rattle.fields.specs.Numbers.{no_room}
use Rattle.mesh.specs.Base.{InPart, Mesh, Tables, answered, lengths_of, mesh_of, read, refused_in, tables_after, mesh_number}
use Rattle.mesh.specs.declared.base.MeshCounts.{MeshCounts}
use Rattle.mesh.specs.declared.base.Part.{Part}
use Rattle.oysterfold.specs.Mesh.{count_words, mesh_into, mesh_result, mesh_words, no_counts, part_number, result_words}

-- what the function hands back
abbrev Handed : List ℕ → List ℕ → Tables → List ℕ → ℕ → Tables → List ℕ → Type 0
Handed d s t result number u out =
    (number ≡ mesh_number (mesh_into d s t result))
    × ((u ≡ tables_after (mesh_into d s t result) t) × (out ≡ mesh_result (mesh_into d s t result) result))

read_words : (j : InPart Mesh) (c : MeshCounts) → answered j ≡ read c → (mesh_number j ≡ 0) × (mesh_words j ≡ count_words 0 0 c)
read_words (read m) c e = (refl, ap (count_words 0 0) (the_same e))
  where
    the_same : {a b : MeshCounts} → read a ≡ read b → a ≡ b
    the_same f = cc
read_words (refused_in p n place) c e = let z : ◌≡◌ {A = ℕ} 0 1 = cc in absurd (omega arith)

refused_words : (j : InPart Mesh) (p : Part) (n place : ℕ) → answered j ≡ refused_in p n place
    → (mesh_number j ≡ n) × (mesh_words j ≡ count_words place (part_number p) no_counts)
refused_words (read m) p n place e = let z : ◌≡◌ {A = ℕ} 0 1 = cc in absurd (omega arith)
refused_words (refused_in q m k) p n place e =
    let same-part : q ≡ p = cc in
    let same_number : m ≡ n = cc in
    let same_place : k ≡ place = cc in
    (same_number, rw (same-part, same_place))

module _ (d s : List ℕ) (t : Tables) (result : List ℕ) where
  pub short_told : length result < result_words → Handed d s t result no_room t result
  unfolding mesh_into mesh_result tables_after
  short_told h = let e = lt-ltb _ _ h in (rw e, (rw e, rw e))

  module _ (long : result_words ≤ length result) (u : Tables) (tabled : u ≡ tables_after (mesh_of d s (lengths_of t)) t) (out words : List ℕ)
      (stored : out ≡ sets result 0 words) where
    handed : (number : ℕ) → mesh_number (mesh_of d s (lengths_of t)) ≡ number → mesh_words (mesh_of d s (lengths_of t)) ≡ words
        → Handed d s t result number u out
    unfolding mesh_into mesh_result
    handed number e f =
        let l = le-ltb _ _ long in
        (rw (l, e), (rw l tabled, rw (l, f) stored))

    pub read_told : (c : MeshCounts) → answered (mesh_of d s (lengths_of t)) ≡ read c → words ≡ count_words 0 0 c → Handed d s t result 0 u out
    read_told c e f = let w = read_words (mesh_of d s (lengths_of t)) c e in handed 0 w.0 (w.1 ∙ sym f)

    pub refused_told : (p : Part) (n place : ℕ) → answered (mesh_of d s (lengths_of t)) ≡ refused_in p n place
        → words ≡ count_words place (part_number p) no_counts → Handed d s t result n u out
    refused_told p n place e f = let w = refused_words (mesh_of d s (lengths_of t)) p n place e in handed n w.0 (w.1 ∙ sym f)
