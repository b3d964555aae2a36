-- Inside the crate: what its private functions promise. No public promise cites this file.
use Rattle.std.specs.Prelude.{ℕ, zero, suc, ◌+◌, ◌*◌, ◌≤◌, ◌<◌, ◌≡◌, List, [], ◌∷◌, ltb, drop, get_or, length, replicate, Result, Ok, Err}
use Rattle.std.proofs.lemmas.List.Edits.{sets}
use Rattle.fields.specs.Numbers.{bytes_left, fault_number}
use Rattle.fields.specs.declared.refusal.Fault.{Fault}
use Rattle.fields.specs.Judged.{Judged, done, refused, given, on_done, refused_if}
use Rattle.fields.specs.declared.refusal.Refusal.{Refusal}
use Rattle.fields.specs.Name.{name_at}
use Rattle.coder.specs.Bytes.{bit_at}
use Rattle.coder.specs.Interval.{Inverted}
use Rattle.coder.specs.declared.read.Found.{Found}
use Rattle.coder.specs.declared.interval.Coder.{Coder}
use Rattle.mesh.specs.Run.{run_at, unjudged}
use Rattle.mesh.specs.Declaration.{closing_rules, declaration_with}
use Rattle.mesh.specs.Faces.{Coded, faces_of, placed_at}
use Rattle.mesh.specs.Base.{Mesh, pool_words, pools_at, table_count, words_in}
use Rattle.mesh.specs.declared.run.Rule.{Rule}
use Rattle.mesh.specs.declared.run.Ended.{Ended}
use Rattle.mesh.specs.declared.shading.Shading.{Shading}
use Rattle.mesh.specs.declared.declaration.Declaration.{Declaration}
use Rattle.mesh.specs.declared.base.MeshCounts.{MeshCounts}
use Rattle.mesh.specs.declared.base.Part.{Part}
use Rattle.mesh.specs.declared.base.MeshRefusal.{MeshRefusal}

-- ---- answers of the private functions

-- a value stored at the end of what was read; a refusal needs none
abbrev pub ended_given : {A : Type 0} → Result ℕ Refusal → A → Judged (Ended A)
ended_given r value = on_done (given r) λ next. done (record { value = value; next = next })

-- ---- runs of fields

unfoldable pub name_end : List ℕ → Judged ℕ
name_end s = on_done (name_at s 0) λ size. done (size + 2)

-- rule i; past the last one fields are not judged
abbrev pub rule_at : List Rule → ℕ → Rule
rule_at rules i = get_or rules i unjudged

-- n rules from rule i on
unfoldable pub rules_from : List Rule → ℕ → ℕ → List Rule
rules_from rules i zero = []
rules_from rules i (suc n) = rule_at rules i ∷ rules_from rules (suc i) n

-- the values of a run that ends at `next`, stored from index i on
abbrev pub stored_run : List ℕ → ℕ → ℕ → Judged (List ℕ) → Judged (Ended (List ℕ))
stored_run table i next run = on_done run λ values. done (record { value = sets table i values; next = next })

-- a run that fills a table, with a rule for each field
abbrev pub run_into : List ℕ → List Rule → List ℕ → ℕ → Judged (Ended (List ℕ))
run_into table rules s from = stored_run table 0 (from + 4 * length table) (run_at (rules_from rules 0 (length table)) s from)

-- shadings stored from index i on
abbrev pub stored_shadings : List Shading → ℕ → Judged (Ended (List Shading)) → Judged (Ended (List Shading))
stored_shadings table i run = on_done run λ read. done (record { value = sets table i read.value; next = read.next })

-- the fields after the shadings
unfoldable pub closing_at : List ℕ → ℕ → ℕ → List ℕ → List Shading → Judged Declaration
closing_at s from size head shadings =
    on_done (run_at closing_rules s from) λ tail.
    refused_if (ltb (from + 56) (length s)) bytes_left (from + 56) (done (declaration_with size head shadings tail))

-- ---- coded numbers

-- what was read; the place of a refusal is set above
abbrev pub found_given : Result Found Fault → Judged (Coded ℕ)
found_given (Ok found) = done (record { value = found.value; state = found.state })
found_given (Err fault) = refused (fault_number fault) 0

-- the pending bits of a state that is handed out are inverted
abbrev pub ReadInverted : List ℕ → Result Found Fault → Type 0
ReadInverted d (Ok found) = Inverted found.state (bit_at d)
ReadInverted d (Err fault) = Unit {0}

abbrev pub CornersInverted : List ℕ → Result Coder Fault → Type 0
CornersInverted d (Ok s) = Inverted s (bit_at d)
CornersInverted d (Err fault) = Unit {0}

-- words stored from an index on; a refusal leaves the rest open
abbrev pub corners_given : Result Coder Fault → List ℕ → Judged (Coded (List ℕ))
corners_given (Ok s) table = done (record { value = table; state = s })
corners_given (Err fault) table = refused (fault_number fault) 0

abbrev pub stored_words : List ℕ → ℕ → Judged (Coded (List ℕ)) → Judged (Coded (List ℕ))
stored_words table at coded = on_done coded λ words. done (record { value = sets table at words.value; state = words.state })

abbrev pub faces_given : Result (Unit {0}) Fault → List ℕ → Judged (List ℕ)
faces_given (Ok none) table = done table
faces_given (Err fault) table = refused (fault_number fault) 0

abbrev pub stored_faces : List ℕ → ℕ → Judged (List ℕ) → Judged (List ℕ)
stored_faces table at words = on_done words λ values. done (sets table at values)

-- ---- a continuation that was judged

-- what was read; nothing where it was refused
abbrev pub words_or : Judged (List ℕ) → List ℕ
words_or (done words) = words
words_or (refused n p) = []

-- the words of the first k pools; the pools are tables 1 to 5
unfoldable pub words_before : List ℕ → ℕ → ℕ
words_before counts zero = 0
words_before counts (suc k) = words_before counts k + words_in counts (suc k)

-- where pool k starts, from 0 on, and the faces
abbrev pub pool_at : ℕ → List ℕ → ℕ → ℕ
pool_at at counts k = at + 4 * words_before counts k

abbrev pub faces_start : ℕ → List ℕ → ℕ
faces_start at counts = pool_at at counts 5

unfoldable pub pool_numbers : List ℕ → ℕ → List ℕ → ℕ → List ℕ
pool_numbers s at counts k = words_or (run_at (replicate (words_in counts (suc k)) unjudged) s (pool_at at counts k))

abbrev pub faces_in : List ℕ → Declaration → List ℕ → ℕ → Judged (List ℕ)
faces_in s declaration counts at = faces_of declaration counts (get_or counts 0 0) (drop (faces_start at counts) s)

unfoldable pub base_faces : List ℕ → Declaration → List ℕ → ℕ → List ℕ
base_faces s declaration counts at = words_or (faces_in s declaration counts at)

unfoldable pub mesh_from : List ℕ → Declaration → List ℕ → ℕ → Mesh
mesh_from s declaration counts at = record {
  declaration = declaration;
  counts = counts;
  pools =
      pool_numbers s at counts 0 ∷ pool_numbers s at counts 1 ∷ pool_numbers s at counts 2 ∷ pool_numbers s at counts 3 ∷ pool_numbers s at counts 4 ∷ [];
  faces = base_faces s declaration counts at;
}

-- what is judged of a continuation states the mesh
unfoldable pub judged_given : List ℕ → Declaration → Result (Ended (List ℕ)) Refusal → Judged Mesh
judged_given s declaration r = on_done (given r) λ head. done (mesh_from s declaration head.value head.next)

-- pools and faces
unfoldable pub contents_at : List ℕ → Declaration → List ℕ → ℕ → Judged Mesh
contents_at s declaration counts at =
    on_done (pools_at (pool_words counts) s at) λ pools.
    on_done (placed_at pools.next (faces_of declaration counts (get_or counts 0 0) (drop pools.next s))) λ faces.
    done (record { declaration = declaration; counts = counts; pools = pools.value; faces = faces })

-- the faces stand within the bytes, can be read, and fit their table
pub record FacesFit (s : List ℕ) (declaration : Declaration) (counts : List ℕ) (at len : ℕ) : Type 0 where
  pub within : faces_start at counts ≤ length s
  pub room : words_in counts 0 ≤ len
  pub coded : faces_in s declaration counts at ≡ done (base_faces s declaration counts at)

-- where pools and faces are not refused, they are those from `at` on
abbrev pub ContentsFit : List ℕ → Declaration → List ℕ → ℕ → Result (Ended (List ℕ)) Refusal → Type 0
ContentsFit s declaration counts at r =
    (head : Ended (List ℕ)) → r ≡ Ok head
    → (head.next ≡ at) × (head.value ≡ counts) × (faces_start at counts ≤ length s)
    × (faces_in s declaration counts at ≡ done (base_faces s declaration counts at))

-- where a continuation is not refused, its faces and pools fit
abbrev pub JudgedFits : List ℕ → Declaration → List ℕ → Result (Ended (List ℕ)) Refusal → Type 0
JudgedFits s declaration lengths r =
    (head : Ended (List ℕ)) → r ≡ Ok head
    → FacesFit s declaration head.value head.next (get_or lengths 0 0)
    × ((i : ℕ) → i < table_count → words_in head.value i ≤ get_or lengths i 0)

-- an answer on a part
abbrev pub placed : {A : Type 0} → Part → Result A Refusal → Result A MeshRefusal
placed p (Ok a) = Ok a
placed p (Err e) = Err (record { part = p; refusal = e })

abbrev pub counts_from : List ℕ → ℕ → MeshCounts
counts_from counts shadings = record {
  faces = get_or counts 0 0;
  positions = get_or counts 1 0;
  normals = get_or counts 2 0;
  diffuse = get_or counts 3 0;
  specular = get_or counts 4 0;
  texture = get_or counts 5 0;
  shadings = shadings;
}
