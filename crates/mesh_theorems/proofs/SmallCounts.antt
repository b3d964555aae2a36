-- The base counts of a mesh that is read are within their limit: each field of a run is at most its rule's limit.
use Prim.Native.Nat.{ℕ, zero, suc, ◌+◌, ◌≤◌}
use mathlib.Core.Bool.{not}
use mathlib.Core.List.{List}
use mathlib.Core.Path.{◌≡◌, ap}
use native.Mathlib.Omega.{arith}
use lib.ListN.{get_or}
use Rattle.fields.specs.Limits.{largest_count}
use Rattle.fields.specs.Numbers.{bad_name}
use Rattle.fields.specs.Judged.{done}
use Rattle.fields.specs.Name.{name_at, name_part, same}
use Rattle.fields.proofs.Judging.{passed, same_done, value_before}
use Rattle.mesh.specs.Run.{run_at, unjudged, values_of}
use Rattle.mesh.specs.Base.{base_rules, head_of}
use Rattle.mesh.specs.declared.declaration.Declaration.{Declaration}
use Rattle.mesh.specs.declared.run.Ended.{Ended}
use Rattle.mesh.proofs.Runs.{run_limited}

-- Every base count is at most 65,536.
pub counts_small : (s name : List ℕ) (declaration : Declaration) (head : Ended (List ℕ)) → head_of s name declaration ≡ done head
    → (i : ℕ) → get_or head.value i 0 ≤ largest_count
unfolding head_of base_rules
counts_small s name declaration head e i =
    let size = value_before (name_at s 0) _ head e in
    let named = passed (not (same (name_part s 0) name)) bad_name 0 _ head size.2 in
    let fields = value_before (run_at (base_rules declaration) s (size.0 + 2)) _ head named.1 in
    let v = ap (λ (h : Ended (List ℕ)). h.value) (same_done fields.2) in
    rw (← v) (go fields.0 (run_limited (base_rules declaration) s (size.0 + 2) fields.0 fields.1) i)
  where
    go : (fields : List ℕ) → ((i : ℕ) → get_or fields i 0 ≤ (get_or (base_rules declaration) i unjudged).limit)
        → (i : ℕ) → get_or (values_of fields 1 6) i 0 ≤ largest_count
    go fields f zero = f 1
    go fields f (suc zero) = f 2
    go fields f (suc (suc zero)) = f 3
    go fields f (suc (suc (suc zero))) = f 4
    go fields f (suc (suc (suc (suc zero)))) = f 5
    go fields f (suc (suc (suc (suc (suc zero))))) = f 6
    go fields f (suc (suc (suc (suc (suc (suc i)))))) = omega arith
