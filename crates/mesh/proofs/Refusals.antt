-- The refusals of fields, names, runs of fields, declarations, heads and pools: each has one of a mesh's numbers.
use Prim.Native.Nat.{ℕ, zero, suc, ◌+◌, ◌*◌}
use mathlib.Core.Bool.{Bool, true, false, not, false≢true}
use mathlib.Core.List.{List, [], ◌∷◌}
use mathlib.Core.Path.{◌≡◌, refl}
use lib.Dec.{ltb}
use lib.ListN.{get_or, length, replicate}
use Rattle.fields.specs.Limits.{largest_file, longest_name}
use Rattle.fields.specs.Numbers.{bad_name, bytes_left, no_room, out_of_order, out_of_range, over_limit, truncated}
use Rattle.fields.specs.Member.{member}
use Rattle.fields.specs.Judged.{Judged, done, refused, on_done, refused_if}
use Rattle.fields.specs.Field.{field_at}
use Rattle.fields.specs.Name.{name_at, name_part, same, string_at}
use Rattle.mesh.specs.Run.{ruled_at, run_at, unjudged}
use Rattle.mesh.specs.Shading.{shading_at, shading_rules, shadings_at}
use Rattle.mesh.specs.Declaration.{closing_rules, declaration_of, opening_rules}
use Rattle.mesh.specs.Base.{base_rules, head_of, pools_at, sized}
use Rattle.mesh.specs.declared.run.Rule.{Rule}
use Rattle.mesh.specs.declared.declaration.Declaration.{Declaration}

-- a mesh's number
abbrev pub listed : List ℕ
listed = truncated ∷ bad_name ∷ over_limit ∷ out_of_range ∷ out_of_order ∷ no_room ∷ bytes_left ∷ []

abbrev pub Listed : ℕ → Type 0
Listed k = member k listed ≡ true

-- A refusal has such a number.
abbrev pub Numbered : {A : Type 0} → Judged A → Type 0
Numbered (done a) = Unit {0}
Numbered (refused k p) = Listed k

-- It is not 0.
pub listed_some : (k : ℕ) → Listed k → k ≡ 0 → ⊥
listed_some k h e = false≢true (rw e at h)

-- What follows from a value.
pub after : {A B : Type 0} (j : Judged A) (next : A → Judged B) → Numbered j → ((a : A) → j ≡ done a → Numbered (next a))
    → Numbered (on_done j next)
after (done a) next g f = f a refl
after (refused k p) next g f = g

-- What a test is passed for.
pub unless : {A : Type 0} (test : Bool) (n p : ℕ) (j : Judged A) → Listed n → Numbered j → Numbered (refused_if test n p j)
unless true n p j h g = h
unless false n p j h g = g

-- A field: 1.
pub field_numbered : (width : ℕ) (s : List ℕ) (at : ℕ) → Numbered (field_at width s at)
unfolding field_at
field_numbered width s at = unless (ltb (length s) (at + width)) truncated at _ refl tt

-- A name: 1 and 8.
pub name_numbered : (s : List ℕ) (at : ℕ) → Numbered (name_at s at)
unfolding name_at string_at
name_numbered s at =
    after (string_at s at) _
    (after (field_at 2 s at) _ (field_numbered 2 s at) λ size _.
    unless (ltb (length s) (at + (size + 2))) truncated at _ refl tt) λ size _.
    unless (ltb longest_name size) bad_name at _ refl tt

-- A field with a rule: 1, 9 and 11.
pub ruled_numbered : (rule : Rule) (s : List ℕ) (at : ℕ) → Numbered (ruled_at rule s at)
unfolding ruled_at
ruled_numbered rule s at =
    after (field_at 4 s at) _ (field_numbered 4 s at) λ value _.
    unless (ltb rule.limit value) over_limit at _ refl
    (unless (ltb value rule.least) out_of_order at _ refl
    (unless (ltb rule.most value) out_of_order at _ refl tt))

-- A run of such fields.
pub run_numbered : (rules : List Rule) (s : List ℕ) (at : ℕ) → Numbered (run_at rules s at)
unfolding run_at
run_numbered [] s at = tt
run_numbered (rule ∷ rules) s at =
    after (ruled_at rule s at) _ (ruled_numbered rule s at) λ value _.
    after (run_at rules s (at + 4)) _ (run_numbered rules s (at + 4)) λ values _. tt

-- A shading.
pub shading_numbered : (s : List ℕ) (at : ℕ) → Numbered (shading_at s at)
unfolding shading_at
shading_numbered s at =
    after (run_at shading_rules s at) _ (run_numbered shading_rules s at) λ head _.
    after (run_at (replicate (get_or head 1 0) unjudged) s (at + 8)) _ (run_numbered (replicate (get_or head 1 0) unjudged) s (at + 8)) λ dimensions _.
    after (field_at 4 s (at + 8 + 4 * get_or head 1 0)) _ (field_numbered 4 s (at + 8 + 4 * get_or head 1 0)) λ original _. tt

-- Shadings, one after the other.
pub shadings_numbered : (n : ℕ) (s : List ℕ) (at : ℕ) → Numbered (shadings_at n s at)
unfolding shadings_at
shadings_numbered zero s at = tt
shadings_numbered (suc n) s at =
    after (shading_at s at) _ (shading_numbered s at) λ shading _.
    after (shadings_at n s shading.next) _ (shadings_numbered n s shading.next) λ rest _. tt

-- A declaration: also 17.
pub declaration_numbered : (d : List ℕ) → Numbered (declaration_of d)
unfolding declaration_of
declaration_numbered d =
    unless (ltb largest_file (length d)) over_limit 0 _ refl
    (after (name_at d 0) _ (name_numbered d 0) λ size _.
    after (run_at opening_rules d (size + 2)) _ (run_numbered opening_rules d (size + 2)) λ head _.
    after (shadings_at (get_or head 8 0) d (size + 38)) _ (shadings_numbered (get_or head 8 0) d (size + 38)) λ shadings _.
    after (run_at closing_rules d shadings.next) _ (run_numbered closing_rules d shadings.next) λ tail _.
    unless (ltb (shadings.next + 56) (length d)) bytes_left (shadings.next + 56) _ refl tt)

-- The head of a continuation: also 8 of its own.
pub head_numbered : (s name : List ℕ) (declaration : Declaration) → Numbered (head_of s name declaration)
unfolding head_of
head_numbered s name declaration =
    after (name_at s 0) _ (name_numbered s 0) λ size _.
    unless (not (same (name_part s 0) name)) bad_name 0 _ refl
    (after (run_at (base_rules declaration) s (size + 2)) _ (run_numbered (base_rules declaration) s (size + 2)) λ fields _. tt)

-- Pools.
pub pools_numbered : (words s : List ℕ) (at : ℕ) → Numbered (pools_at words s at)
unfolding pools_at
pools_numbered [] s at = tt
pools_numbered (n ∷ more) s at =
    after (run_at (replicate n unjudged) s at) _ (run_numbered (replicate n unjudged) s at) λ pool _.
    after (pools_at more s (at + 4 * n)) _ (pools_numbered more s (at + 4 * n)) λ rest _. tt

-- A size: 9.
pub sized_numbered : (s : List ℕ) → Numbered (sized s)
sized_numbered s = unless (ltb largest_file (length s)) over_limit 0 _ refl tt
