-- The head of a continuation: its name and its fields.
use Prim.Native.Nat.{ℕ, ◌+◌, ◌≤◌, ◌<◌, min}
use native.Mathlib.Decide.{dec_lt}
use native.Mathlib.Omega.{arith}
use mathlib.Core.Path.{◌≡◌, refl}
use mathlib.Core.Bool.{true, false, not}
use mathlib.Core.List.{List}
use borrow.Author.Tests.{le-ltb, lt-ltb}
use lib.ListN.{length}
use Rattle.fields.specs.Judged.{done, refused}
use Rattle.fields.specs.Limits.{largest_file}
use Rattle.fields.specs.Name.{name_at, name_part, same}
use Rattle.fields.specs.Numbers.{bad_name}
use Rattle.mesh.specs.Run.{run_at, values_of}
use Rattle.mesh.specs.Declaration.{mesh_name}
use Rattle.mesh.specs.Base.{base_rules, head_of, smaller}
use Rattle.mesh.specs.declared.declaration.Declaration.{Declaration}

module _ (s name : List ℕ) (declaration : Declaration) where
  pub head_unnamed : (n p : ℕ) → name_at s 0 ≡ refused n p → head_of s name declaration ≡ refused n p
  unfolding head_of
  head_unnamed n p e = rw e

  module _ (size : ℕ) (e : name_at s 0 ≡ done size) where
    pub head_unlike : not (same (name_part s 0) name) ≡ true → head_of s name declaration ≡ refused bad_name 0
    unfolding head_of
    head_unlike f = rw (e, f)

    module _ (alike : not (same (name_part s 0) name) ≡ false) where
      pub head_refused : (n p : ℕ) → run_at (base_rules declaration) s (size + 2) ≡ refused n p → head_of s name declaration ≡ refused n p
      unfolding head_of
      head_refused n p f = rw (e, alike, f)

      pub head_done : (fields : List ℕ) → run_at (base_rules declaration) s (size + 2) ≡ done fields
          → head_of s name declaration ≡ done (record { value = values_of fields 1 6; next = size + 30 })
      unfolding head_of
      head_done fields f = rw (e, alike, f)

-- a name in data within its limit
pub named : (s : List ℕ) → length s ≤ largest_file → mesh_name s ≡ name_part s 0
unfolding mesh_name
named s h = rw (le-ltb _ _ h)

-- as many rules as fields
pub rules_length : (declaration : Declaration) → length (base_rules declaration) ≡ 7
unfolding base_rules
rules_length declaration = refl

-- the smaller of two numbers, by the test
pub smaller_min : (a b : ℕ) → min a b ≡ smaller a b
smaller_min a b = go (dec_lt a b)
  where
    go : Dec (a < b) → min a b ≡ smaller a b
    go (yes h) = rw (lt-ltb a b h) (omega arith)
    go (no h) = rw (le-ltb a b (omega arith)) (omega arith)
