-- Shadings are read back: each is two runs of fields and a last field, and its layer count says how long the second run is.
use Prim.Native.Nat.{ℕ, ◌+◌, ◌*◌, ◌≤◌, zero-le}
use lib.ListN.{drop, length, length-append, replicate, take}
use mathlib.Core.List.{List, [], ◌∷◌, ◌++◌, append_assoc}
use mathlib.Core.Path.{◌≡◌, ap, refl, ◌∙◌}
use native.Mathlib.Nat.{add-zero}
use native.Mathlib.Omega.{arith}
use Rattle.fields.specs.Judged.{done}
use Rattle.mesh.specs.Run.{unjudged}
use Rattle.mesh.specs.Shading.{layer_limit, shading_at, shading_rules, shadings_at}
use Rattle.mesh.specs.declared.shading.Shading.{Shading}
use Rattle.fields_theorems.specs.Encoding.{number_bytes, word_bytes}
use Rattle.fields_theorems.proofs.FieldsBack.{after_words, field_back, two_runs}
use Rattle.mesh_theorems.specs.Encoding.{All, Shadeable, shading_fields, shadings_fields}
use Rattle.mesh_theorems.proofs.FieldsBack.{Keeps, keeps_words, part_back}

-- the numbers of a shading: three, and one for each layer
length_shading : (sh : Shading) → Shadeable sh → length (shading_fields sh) ≡ sh.layer_count + 3
unfolding shading_fields
length_shading sh h =
    omega (arith, h.layers.many, length-append (take sh.layer_count sh.dimensions) (sh.original_id ∷ []))

-- shadings take three numbers and one for each layer that a shading may have
pub length_shadings : (shs : List Shading) → All Shadeable shs → length (shadings_fields shs) ≤ (layer_limit + 3) * length shs
unfolding shadings_fields All
length_shadings [] a = zero-le
length_shadings (sh ∷ more) a =
    omega (arith, length-append (shading_fields sh) (shadings_fields more), length_shading sh a.0, a.0.few, length_shadings more a.1)

-- a shading is read to itself, and ends after its fields
shading_back : (s rest : List ℕ) (at : ℕ) (sh : Shading) → Shadeable sh → drop at s ≡ word_bytes (shading_fields sh) ++ rest
    → shading_at s at ≡ done (record { value = sh; next = at + 4 * length (shading_fields sh) })
unfolding shading_at shading_fields Keeps word_bytes
shading_back s rest at sh h here =
    let layers = sh.layer_count in
    let used = take layers sh.dimensions in
    let first = sh.attributes ∷ layers ∷ [] in
    let last = sh.original_id ∷ [] in
    let kept : Keeps shading_rules first = (omega (arith, h.flags), (omega (arith, h.few), tt)) in
    let unruled = keeps_words used layers (record { many = h.layers.many; small = h.dimensions }) in
    let layered = ap (λ (n : ℕ). 4 * n) h.layers.many in
    let one = part_back shading_rules s first (used ++ last) rest at 8 kept refl here in
    let two = part_back (replicate layers unjudged) s used last rest (at + 8) (4 * layers) unruled layered one.1 in
    let last-here = two.1 ∙ append_assoc (number_bytes 4 sh.original_id) [] rest in
    let three = field_back 4 s rest (at + 8 + 4 * layers) sh.original_id (omega arith) (omega (arith, h.original)) last-here in
    let end : at + 8 + 4 * layers + 4 ≡ at + 4 * length (shading_fields sh) = omega (arith, length_shading sh h) in
    rw (one.0, two.0, three, ← h.layers.rest, end)

-- Shadings within the limits are read back, and end after their fields.
pub shadings_back : (s rest : List ℕ) (at : ℕ) (shs : List Shading) → All Shadeable shs → drop at s ≡ word_bytes (shadings_fields shs) ++ rest
    → shadings_at (length shs) s at ≡ done (record { value = shs; next = at + 4 * length (shadings_fields shs) })
unfolding shadings_at shadings_fields All
shadings_back s rest at [] a here = rw (add-zero at)
shadings_back s rest at (sh ∷ more) a here =
    let apart = two_runs s (shading_fields sh) (shadings_fields more) rest at here in
    let from = at + 4 * length (shading_fields sh) in
    let next : drop from s ≡ word_bytes (shadings_fields more) ++ rest =
    after_words s (shading_fields sh) (word_bytes (shadings_fields more) ++ rest) at (4 * length (shading_fields sh)) apart refl in
    let end : from + 4 * length (shadings_fields more) ≡ at + 4 * length (shading_fields sh ++ shadings_fields more) =
    omega (arith, length-append (shading_fields sh) (shadings_fields more)) in
    rw (shading_back s (word_bytes (shadings_fields more) ++ rest) at sh a.0 apart, shadings_back s rest from more a.1 next, end)
