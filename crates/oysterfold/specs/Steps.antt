-- What the exported steps up and down hand back: 01's number, the tables of faces and positions, and the counts, positions then faces.
use Rattle.std.specs.Prelude.{ℕ, List, [], ◌∷◌, ltb, get_or, length, Result, Ok, Err}
use Rattle.std.proofs.lemmas.List.Edits.{sets}
use Rattle.fields.specs.Numbers.{no_room, fault_number}
use Rattle.fields.specs.declared.refusal.Fault.{Fault}
use Rattle.fields.specs.Judged.{Judged, done, refused, refused_if}
use Rattle.progressive.specs.declared.counts.Counts.{Counts}
use Rattle.progressive.specs.Mesh.{Mesh, mesh_of}

-- positions, then faces
abbrev pub count_words : ℕ
count_words = 2

abbrev pub counts_in : List ℕ → Counts
counts_in counts = record { positions = get_or counts 0 0; faces = get_or counts 1 0 }

-- a step, for a caller whose counts may be too short (12, before all else)
unfoldable pub step_into : (Mesh → Judged Mesh) → List ℕ → List ℕ → List ℕ → Judged Mesh
step_into step faces positions counts = refused_if (ltb (length counts) count_words) no_room 0 (step (mesh_of faces positions (counts_in counts)))

-- the number, and what the tables and the counts then hold
pub record Handed : Type 0 where
  pub number : ℕ
  pub faces : List ℕ
  pub positions : List ℕ
  pub counts : List ℕ

abbrev pub handed : ℕ → List ℕ → List ℕ → List ℕ → Handed
handed number faces positions counts = record { number = number; faces = faces; positions = positions; counts = counts }

-- "State and counts arrays change only on answer 0"
abbrev pub handed_by : Judged Mesh → List ℕ → List ℕ → List ℕ → Handed
handed_by (done m) faces positions counts = handed 0 m.faces m.positions (sets counts 0 (m.position_count ∷ m.face_count ∷ []))
handed_by (refused n p) faces positions counts = handed n faces positions counts

-- the counts array with these counts
abbrev pub counts_put : Counts → List ℕ → List ℕ
counts_put c counts = sets counts 0 (c.positions ∷ c.faces ∷ [])

-- the number of an answer, and the counts array after it
abbrev pub stepped_number : Result Counts Fault → ℕ
stepped_number (Ok after) = 0
stepped_number (Err fault) = fault_number fault

abbrev pub counts_after : Result Counts Fault → List ℕ → List ℕ
counts_after (Ok after) counts = counts_put after counts
counts_after (Err fault) counts = counts
