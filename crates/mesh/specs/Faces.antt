-- The coded faces of a base mesh (clause 9.6.1.2.4.6): a run of the coder's numbers, each read from the state that the one before left.
use Rattle.std.specs.Prelude.{ℕ, zero, suc, ◌*◌, ◌%◌, List, [], ◌∷◌, ◌++◌, leb}
use Rattle.fields.specs.Numbers.{out_of_range}
use Rattle.fields.specs.Judged.{Judged, done, refused, on_done, pick, refused_if}
use Rattle.coder.specs.Histogram.{fresh_histogram}
use Rattle.coder.specs.Interval.{fresh}
use Rattle.coder.specs.Reading.{Taken}
use Rattle.coder.specs.declared.interval.Coder.{Coder}
use Rattle.coder_theorems.specs.Runs.{Histograms, call_read}
use Rattle.mesh.specs.Corners.{absent, corner_fields, field_context, form_of, present, shading_context}
use Rattle.mesh.specs.declared.declaration.Declaration.{Declaration}
use Rattle.mesh.specs.declared.faces.CornerForm.{CornerForm}

-- what was read, and the coder's state after it
pub record Coded (A : Type 0) : Type 0 where
  pub value : A
  pub state : Coder

-- a number that the coder read; the place of its refusals is set below
abbrev pub coded_number : Taken → Judged (Coded ℕ)
coded_number t = pick t.done (done (record { value = t.value; state = t.state })) (refused t.number 0)

-- a field of a corner
unfoldable pub field_from : CornerForm → ℕ → List ℕ → Coder → Judged (Coded ℕ)
field_from form field d s =
    pick (present form field) (coded_number (call_read d s [] (field_context form field)).result) (done (record { value = absent; state = s }))

-- the fields n, n + 1, .. of a face's three corners, as many as are left
unfoldable pub corners_from : CornerForm → ℕ → ℕ → List ℕ → Coder → Judged (Coded (List ℕ))
corners_from form zero n d s = done (record { value = []; state = s })
corners_from form (suc left) n d s =
    on_done (field_from form (n % corner_fields) d s) λ field.
    on_done (corners_from form left (suc n) d field.state) λ rest.
    done (record { value = field.value ∷ rest.value; state = rest.state })

-- a face's shading id, below the shading count (else 10)
unfoldable pub shading_from : ℕ → Histograms → List ℕ → Coder → Judged (Coded ℕ)
shading_from count hs d s =
    on_done (coded_number (call_read d s hs shading_context).result) λ shading.
    refused_if (leb count shading.value) out_of_range 0 (done shading)

-- a face: its shading id, and three corners as that shading asks
unfoldable pub face_from : Declaration → List ℕ → Histograms → List ℕ → Coder → Judged (Coded (List ℕ))
face_from declaration counts hs d s =
    on_done (shading_from declaration.shading_count hs d s) λ shading.
    on_done (corners_from (form_of declaration counts shading.value) (3 * corner_fields) 0 d shading.state) λ corners.
    done (record { value = shading.value ∷ corners.value; state = corners.state })

-- so many faces; the first bad number decides
unfoldable pub faces_from : Declaration → List ℕ → ℕ → Histograms → List ℕ → Coder → Judged (List ℕ)
faces_from declaration counts zero hs d s = done []
faces_from declaration counts (suc left) hs d s =
    on_done (face_from declaration counts hs d s) λ face.
    on_done (faces_from declaration counts left (call_read d s hs shading_context).histograms d face.state) λ rest.
    done (face.value ++ rest)

-- "in the coded faces, the first byte after the pools"
abbrev pub placed_at : {A : Type 0} → ℕ → Judged A → Judged A
placed_at place (done a) = done a
placed_at place (refused n p) = refused n place

-- the faces that are coded in the bytes d, the words of their records
unfoldable pub faces_of : Declaration → List ℕ → ℕ → List ℕ → Judged (List ℕ)
faces_of declaration counts number d = faces_from declaration counts number (fresh_histogram ∷ []) d fresh
