-- Judged fields are read back, one by one and in runs. What stands at an offset is said by `drop`: `drop at s ≡ bytes ++ rest`.
use Prim.Native.Nat.{ℕ, ◌+◌, ◌*◌, ◌≤◌}
use lib.ListN.{drop, length, replicate}
use mathlib.Core.List.{List, [], ◌∷◌, ◌++◌, append_assoc}
use mathlib.Core.Path.{◌≡◌, refl, ◌∙◌}
use native.Mathlib.Omega.{arith}
use borrow.Author.Tests.{le-ltb}
use Rattle.fields.specs.Limits.{any_number}
use Rattle.fields.specs.Judged.{done}
use Rattle.fields_theorems.specs.Encoding.{number_bytes, word_bytes}
use Rattle.fields_theorems.proofs.Seams.{past}
use Rattle.fields_theorems.proofs.FieldsBack.{after_words, field_back, length_number_bytes, two_runs}
use Rattle.mesh.specs.Run.{ruled_at, run_at, unjudged}
use Rattle.mesh.specs.declared.run.Rule.{Rule}
use Rattle.mesh_theorems.specs.Encoding.{All, Words}

-- a U32 that passes a rule
pub record Kept (rule : Rule) (v : ℕ) : Type 0 where
  pub small : v ≤ any_number
  pub limit : v ≤ rule.limit
  pub least : rule.least ≤ v
  pub most : v ≤ rule.most

-- a judged field is read to its number
pub ruled_back : (rule : Rule) (s rest : List ℕ) (at v : ℕ) → Kept rule v → drop at s ≡ number_bytes 4 v ++ rest → ruled_at rule s at ≡ done v
unfolding ruled_at
ruled_back rule s rest at v k here =
    rw (
      field_back 4 s rest at v (omega arith) (omega arith) here,
      le-ltb rule.limit v k.limit,
      le-ltb v rule.least k.least,
      le-ltb rule.most v k.most,
    )

-- numbers that pass rules one by one
unfoldable pub Keeps : List Rule → List ℕ → Type 0
Keeps [] [] = Unit {0}
Keeps [] (v ∷ vs) = ⊥
Keeps (rule ∷ rules) [] = ⊥
Keeps (rule ∷ rules) (v ∷ vs) = Kept rule v × Keeps rules vs

-- a run of judged fields is read to its numbers
pub run_back : (rules : List Rule) (s vs rest : List ℕ) (at : ℕ) → Keeps rules vs → drop at s ≡ word_bytes vs ++ rest → run_at rules s at ≡ done vs
unfolding Keeps run_at word_bytes
run_back [] s [] rest at k here = refl
run_back [] s (v ∷ vs) rest at k here = absurd k
run_back (rule ∷ rules) s [] rest at k here = absurd k
run_back (rule ∷ rules) s (v ∷ vs) rest at k here =
    let here' : drop at s ≡ number_bytes 4 v ++ (word_bytes vs ++ rest) = here ∙ append_assoc (number_bytes 4 v) (word_bytes vs) rest in
    let next = past s (number_bytes 4 v) (word_bytes vs ++ rest) at here' 4 (length_number_bytes 4 v) in
    rw (ruled_back rule s (word_bytes vs ++ rest) at v k.0 here', run_back rules s vs rest (at + 4) k.1 next)

-- and so is a run with more words after it, which begin where it ends
pub part_back : (rules : List Rule) (s vs more rest : List ℕ) (at n : ℕ) → Keeps rules vs → 4 * length vs ≡ n
    → drop at s ≡ word_bytes (vs ++ more) ++ rest → (run_at rules s at ≡ done vs) × (drop (at + n) s ≡ word_bytes more ++ rest)
part_back rules s vs more rest at n k e here =
    let apart = two_runs s vs more rest at here in
    (run_back rules s vs (word_bytes more ++ rest) at k apart, after_words s vs (word_bytes more ++ rest) at n apart e)

-- rules for a run and rules for what follows it
pub keeps_append : (rules others : List Rule) (vs ws : List ℕ) → Keeps rules vs → Keeps others ws → Keeps (rules ++ others) (vs ++ ws)
unfolding Keeps
keeps_append [] others [] ws k l = l
keeps_append [] others (v ∷ vs) ws k l = absurd k
keeps_append (rule ∷ rules) others [] ws k l = absurd k
keeps_append (rule ∷ rules) others (v ∷ vs) ws k l = (k.0, keeps_append rules others vs ws k.1 l)

-- numbers that all pass one rule
pub keeps_all : {P : ℕ → Type 0} (rule : Rule) (vs : List ℕ) (n : ℕ) → ((v : ℕ) → P v → Kept rule v) → length vs ≡ n → All P vs
    → Keeps (replicate n rule) vs
unfolding Keeps All
keeps_all {P} rule vs n kept e a = rw (← e) (go vs a)
  where
    go : (vs : List ℕ) → All P vs → Keeps (replicate (length vs) rule) vs
    go [] a = tt
    go (v ∷ vs) a = (kept v a.0, go vs a.1)

-- numbers on which no rule is set
pub keeps_words : (vs : List ℕ) (n : ℕ) → Words n vs → Keeps (replicate n unjudged) vs
keeps_words vs n w = keeps_all unjudged vs n (λ v h. omega arith) w.many w.small
