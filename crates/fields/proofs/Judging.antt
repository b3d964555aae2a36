-- What follows from a value that was judged: each test before it was passed. Assumes nothing.
use mathlib.Core.Path.{◌≡◌, refl, sym, ◌∙◌, ap}
use mathlib.Core.Bool.{Bool, true, false}
use mathlib.Core.List.{List}
use Prim.Native.Nat.{ℕ, ◌+◌, ◌≤◌}
use native.Mathlib.Omega.{arith}
use borrow.Author.Tests.{ltb-false}
use lib.Dec.{ltb}
use lib.ListN.{length}
use Rattle.std.specs.Prelude.{Result, Ok, Err}
use Rattle.std.specs.Result.{IsErrAnd}
use Rattle.std.proofs.lemmas.Result.{err_from_is_err_and}
use Rattle.fields.specs.Numbers.{truncated, bad_name, fault_number}
use Rattle.fields.specs.declared.refusal.Refusal.{Refusal}
use Rattle.fields.specs.Limits.{longest_name}
use Rattle.fields.specs.Judged.{Judged, done, refused, given, on_done, refused_if}
use Rattle.fields.specs.Field.{field_at}
use Rattle.fields.specs.Bounds.{part_given, part_of}
use Rattle.fields.specs.declared.bounds.Bounds.{Bounds}
use Rattle.fields.specs.Name.{string_at, name_at}

-- a refusal is no value
pub not_done : {A C : Type 0} {n p : ℕ} {a : A} → refused n p ≡ done a → C
not_done e = let z : ◌≡◌ {A = ℕ} 0 1 = cc in absurd (omega arith)

-- values that are judged the same are the same
pub same_done : {A : Type 0} {a b : A} → done a ≡ done b → a ≡ b
same_done e = cc

-- a value that follows from another
pub value_before : {A B : Type 0} (j : Judged A) (next : A → Judged B) (b : B) → on_done j next ≡ done b
    → (a : A) × (j ≡ done a) × (next a ≡ done b)
value_before (done a) next b e = (a, refl, e)
value_before (refused n p) next b e = not_done e

-- a refusal where a value would only be handed on
pub refusal_before : {A B : Type 0} (j : Judged A) (v : A → B) (n p : ℕ) → on_done j (λ a. done (v a)) ≡ refused n p → j ≡ refused n p
refusal_before (done a) v n p e = not_done (sym e)
refusal_before (refused m k) v n p e = let a : m ≡ n = cc in let b : k ≡ p = cc in rw (a, b)

-- a test that was passed
pub passed : {A : Type 0} (test : Bool) (n p : ℕ) (j : Judged A) (a : A) → refused_if test n p j ≡ done a → (test ≡ false) × (j ≡ done a)
passed true n p j a e = not_done e
passed false n p j a e = (refl, e)

-- a field that was read lies within the bytes
pub field_within : (width : ℕ) (s : List ℕ) (at v : ℕ) → field_at width s at ≡ done v → at + width ≤ length s
unfolding field_at
field_within width s at v e = ltb-false (length s) (at + width) (passed (ltb (length s) (at + width)) truncated at _ v e).0

-- an answer whose case is known, turned into what was judged: one law for every answer and its `..Given` definition
pub told : {R A : Type 0} (given : R → Judged A) {r r' : R} {j : Judged A} → given r ≡ j → r ≡ r' → j ≡ given r'
told given e f = sym e ∙ ap given f

-- a refusal that `?` hands on
pub handed_on : {A : Type 0} (r : Result A Refusal) (e : Refusal) → IsErrAnd r (λ (y : Refusal). y ≡ e)
    → given r ≡ refused (fault_number e.fault) e.place
handed_on r e h = let p = err_from_is_err_and r h in rw (p.1, p.2)

-- a name that was read lies within the bytes, and is short enough
pub name_within : (s : List ℕ) (at size : ℕ) → name_at s at ≡ done size → (at + (size + 2) ≤ length s) × (size ≤ longest_name)
unfolding name_at string_at
name_within s at size e =
    let n = value_before (string_at s at) _ size e in
    let short = passed (ltb longest_name n.0) bad_name at _ size n.2 in
    let field = value_before (field_at 2 s at) _ n.0 n.1 in
    let whole = passed (ltb (length s) (at + (field.0 + 2))) truncated at _ n.0 field.2 in
    let same : n.0 ≡ size = cc in
    let same' : field.0 ≡ n.0 = cc in
    let w : at + (field.0 + 2) ≤ length s = ltb-false _ _ whole.0 in
    let l : n.0 ≤ longest_name = ltb-false longest_name n.0 short.0 in
    (omega arith, omega arith)

-- the part within bounds that were judged
pub part_handed : (s : List ℕ) (r : Result Bounds Refusal) → part_given s r ≡ part_of s (given r)
part_handed s (Ok b) = refl
part_handed s (Err e) = refl
