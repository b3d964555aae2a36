-- After its name a declaration that is read is U32 fields to its data's end: no byte is left out of the number of fields.
use Prim.Native.Nat.{ℕ, zero, suc, ◌+◌, ◌*◌, ◌≤◌}
use mathlib.Core.Path.{◌≡◌, ap}
use mathlib.Core.List.{List}
use native.Mathlib.Omega.{arith}
use borrow.Author.Tests.{ltb-false}
use lib.Dec.{ltb}
use lib.ListN.{get_or, length, replicate}
use Rattle.fields.specs.Limits.{largest_file}
use Rattle.fields.specs.Numbers.{bytes_left, over_limit}
use Rattle.fields.specs.Judged.{done}
use Rattle.fields.specs.Field.{field_at}
use Rattle.fields.specs.Name.{name_at}
use Rattle.fields.proofs.Judging.{passed, same_done, value_before}
use Rattle.mesh.specs.Run.{run_at, unjudged}
use Rattle.mesh.specs.declared.run.Ended.{Ended}
use Rattle.mesh.specs.Shading.{shading_at, shading_rules, shadings_at}
use Rattle.mesh.specs.Declaration.{closing_rules, declaration_of, opening_rules}
use Rattle.mesh.specs.declared.shading.Shading.{Shading}
use Rattle.mesh.specs.declared.declaration.Declaration.{Declaration}
use Rattle.mesh.proofs.Runs.{ruled_kept, run_first, run_within}
use Rattle.oysterfold.specs.Declaration.{field_count, name_end}

-- so many fields
abbrev Fields : ℕ → ℕ → Type 0
Fields from to = (k : ℕ) × (to ≡ from + 4 * k)

shading_fields : (s : List ℕ) (at : ℕ) (r : Ended Shading) → shading_at s at ≡ done r → Fields at r.next
unfolding shading_at
shading_fields s at r e =
    let head = value_before (run_at shading_rules s at) _ r e in
    let layers = get_or head.0 1 0 in
    let dimensions = value_before (run_at (replicate layers unjudged) s (at + 8)) _ r head.2 in
    let original = value_before (field_at 4 s (at + 8 + 4 * layers)) _ r dimensions.2 in
    let end = ap (λ (x : Ended Shading). x.next) (same_done original.2) in
    (layers + 3, omega arith)

shadings_fields : (n : ℕ) (s : List ℕ) (at : ℕ) (r : Ended (List Shading)) → shadings_at n s at ≡ done r → Fields at r.next
unfolding shadings_at
shadings_fields zero s at r e =
    let end = ap (λ (x : Ended (List Shading)). x.next) (same_done e) in
    (0, omega arith)
shadings_fields (suc n) s at r e =
    let first = value_before (shading_at s at) _ r e in
    let rest = value_before (shadings_at n s first.0.next) _ r first.2 in
    let f = shading_fields s at first.0 first.1 in
    let g = shadings_fields n s first.0.next rest.0 rest.1 in
    let end = ap (λ (x : Ended (List Shading)). x.next) (same_done rest.2) in
    (f.0 + g.0, omega arith)

-- the fields after the shadings lie within the data
closing_within : (s : List ℕ) (at : ℕ) (tail : List ℕ) → run_at closing_rules s at ≡ done tail → at + 56 ≤ length s
closing_within s at tail e =
    let f = run_first unjudged _ s at tail e in
    run_within closing_rules s at tail (omega (arith, (ruled_kept unjudged s at _ f.2).within)) e

declaration_fields : (s : List ℕ) (d : Declaration) → declaration_of s ≡ done d → Fields (name_end d.name_size) (length s)
unfolding declaration_of
declaration_fields s d e =
    let small = passed (ltb largest_file (length s)) over_limit 0 _ d e in
    let size = value_before (name_at s 0) _ d small.1 in
    let head = value_before (run_at opening_rules s (size.0 + 2)) _ d size.2 in
    let shadings = value_before (shadings_at (get_or head.0 8 0) s (size.0 + 38)) _ d head.2 in
    let tail = value_before (run_at closing_rules s shadings.0.next) _ d shadings.2 in
    let whole = passed (ltb (shadings.0.next + 56) (length s)) bytes_left (shadings.0.next + 56) _ d tail.2 in
    let named : size.0 ≡ d.name_size = ap (λ (x : Declaration). x.name_size) (same_done whole.1) in
    let f = shadings_fields (get_or head.0 8 0) s (size.0 + 38) shadings.0 shadings.1 in
    let most : length s ≤ shadings.0.next + 56 = ltb-false _ _ whole.0 in
    let least = closing_within s shadings.0.next tail.0 tail.1 in
    (f.0 + 23, omega arith)

module _ (s : List ℕ) (d : Declaration) (e : declaration_of s ≡ done d) where
  pub name_inside : name_end d.name_size ≤ length s
  name_inside = let f = declaration_fields s d e in omega arith

  pub fields_fill : name_end d.name_size + 4 * field_count s d.name_size ≡ length s
  fields_fill = let f = declaration_fields s d e in omega arith
