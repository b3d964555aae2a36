-- The clause's indices are those that the reader looks for: field n of a face's three corners is present, and has its range, as the index at that
-- place says.
use Prim.Native.Nat.{ℕ, zero, suc, ◌+◌, ◌*◌, ◌-◌, ◌%◌}
use mathlib.Core.List.{List, [], ◌∷◌, ◌++◌}
use mathlib.Core.Path.{◌≡◌, refl, ap, subst}
use native.Mathlib.Omega.{arith}
use borrow.Author.Tests.{le-ltb, lt-ltb}
use lib.Dec.{ltb}
use lib.ListN.{get_or, length, length-append}
use Rattle.mesh.specs.Shading.{layer_limit, no_shading}
use Rattle.mesh.specs.Corners.{corner_fields, form_of, past_last, present, range_of}
use Rattle.mesh.specs.declared.declaration.Declaration.{Declaration}
use Rattle.mesh.specs.declared.faces.CornerForm.{CornerForm}
use Rattle.mesh.specs.declared.shading.Shading.{Shading}
use Rattle.mesh_theorems.specs.CornerInfo.{Index, corner_indices, face_indices, index, layer_indices}

-- what the reader takes for a corner's field
abbrev pub field_index : CornerForm → ℕ → Index
field_index form field = index (present form field) (range_of form field)

-- these are the indices of the fields n, n + 1, .. of a face's three corners
unfoldable pub AsRead : CornerForm → ℕ → List Index → Type 0
AsRead form n [] = Unit {0}
AsRead form n (i ∷ is) = (i ≡ field_index form (n % corner_fields)) × AsRead form (suc n) is

read_append : (form : CornerForm) (n m : ℕ) (is js : List Index) → m ≡ n + length is → AsRead form n is → AsRead form m js → AsRead form n (is ++ js)
unfolding AsRead
read_append form n m [] js e a b = let same : m ≡ n = omega arith in subst (λ (k : ℕ). AsRead form k js) same b
read_append form n m (i ∷ is) js e a b = (a.0, read_append form (suc n) m is js (omega arith) a.1 b)

-- ---- a corner

layer_index : (form : CornerForm) (layer : ℕ) → field_index form (suc (suc (suc (suc layer)))) ≡ index (ltb layer form.layer_count) (get_or form.counts 5 0)
unfolding present range_of
layer_index form layer = rw (le-ltb (suc (suc (suc (suc layer)))) 4 (omega arith))

-- the layers from layer j on, where n is that field of corner c
layers_read : (form : CornerForm) (c j room layers n : ℕ) → n ≡ c * corner_fields + (4 + j) → j + room ≡ layer_limit → layers ≡ form.layer_count - j
    → AsRead form n (layer_indices room layers (get_or form.counts 5 0))
unfolding AsRead layer_indices
layers_read form c j zero layers n at fits left = tt
layers_read form c j (suc room) zero n at fits left =
    let field : n % corner_fields ≡ suc (suc (suc (suc j))) = omega arith in
    (rw (field, layer_index form j, le-ltb j form.layer_count (omega arith)), layers_read form c (suc j) room zero (suc n) (omega arith) (omega arith) (omega arith))
layers_read form c j (suc room) (suc layers) n at fits left =
    let field : n % corner_fields ≡ suc (suc (suc (suc j))) = omega arith in
    (rw (field, layer_index form j, lt-ltb j form.layer_count (omega arith)), layers_read form c (suc j) room layers (suc n) (omega arith) (omega arith) (omega arith))

layers_length : (room layers count : ℕ) → length (layer_indices room layers count) ≡ room
unfolding layer_indices
layers_length zero layers count = refl
layers_length (suc room) zero count = ap suc (layers_length room zero count)
layers_length (suc room) (suc layers) count = ap suc (layers_length room layers count)

corner_length : (declaration : Declaration) (counts : List ℕ) (shading : Shading) → length (corner_indices declaration counts shading) ≡ corner_fields
unfolding corner_indices
corner_length declaration counts shading = omega (arith, layers_length layer_limit shading.layer_count (get_or counts 5 0))

-- what stands past the last shading asks for the same
past_last_lem : (shadings : List Shading) (id : ℕ) → ((get_or shadings id past_last).attributes ≡ (get_or shadings id no_shading).attributes)
    × ((get_or shadings id past_last).layer_count ≡ (get_or shadings id no_shading).layer_count)
past_last_lem [] id = (refl, refl)
past_last_lem (s ∷ more) zero = (refl, refl)
past_last_lem (s ∷ more) (suc id) = past_last_lem more id

corner_read : (declaration : Declaration) (counts : List ℕ) (id c n : ℕ) → n ≡ c * corner_fields
    → AsRead (form_of declaration counts id) n (corner_indices declaration counts (get_or declaration.shadings id no_shading))
unfolding AsRead corner_indices present range_of
corner_read declaration counts id c n at =
    let form = form_of declaration counts id in
    let past = past_last_lem declaration.shadings id in
    let position : n % corner_fields ≡ 0 = omega arith in
    let normal : suc n % corner_fields ≡ 1 = omega arith in
    let diffuse : suc (suc n) % corner_fields ≡ 2 = omega arith in
    let specular : suc (suc (suc n)) % corner_fields ≡ 3 = omega arith in (
      rw position,
      (
        rw normal,
        (
          rw (diffuse, past.0),
          (
            rw (specular, past.0),
            rw (← past.1) (layers_read form c 0 layer_limit form.layer_count (suc (suc (suc (suc n)))) (omega arith) (omega arith) (omega arith)),
          ),
        ),
      ),
    )

-- ---- a face

pub face_read : (declaration : Declaration) (counts : List ℕ) (id : ℕ) → AsRead (form_of declaration counts id) 0 (face_indices declaration counts id)
unfolding face_indices
face_read declaration counts id =
    let form = form_of declaration counts id in
    let shading = get_or declaration.shadings id no_shading in
    let corner = corner_indices declaration counts shading in
    let size = corner_length declaration counts shading in
    read_append form 0 corner_fields corner (corner ++ corner) (omega arith) (corner_read declaration counts id 0 0 (omega arith))
    (read_append form corner_fields (2 * corner_fields) corner corner (omega arith) (corner_read declaration counts id 1 corner_fields (omega arith))
    (corner_read declaration counts id 2 (2 * corner_fields) (omega arith)))

pub face_length : (declaration : Declaration) (counts : List ℕ) (id : ℕ) → length (face_indices declaration counts id) ≡ 3 * corner_fields
unfolding face_indices
face_length declaration counts id =
    let shading = get_or declaration.shadings id no_shading in
    let corner = corner_indices declaration counts shading in
    omega (arith, corner_length declaration counts shading, length-append corner (corner ++ corner), length-append corner corner)
