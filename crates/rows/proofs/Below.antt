-- The last declaration of a name below a row. Assumes nothing.
use lib.Dec.{ltb}
use lib.ListN.{length}
use Prim.Native.Nat.{ℕ, zero, suc, ◌+◌, ◌-◌, ◌<◌, ◌≤◌}
use mathlib.Core.Path.{◌≡◌, ◌∙◌, ap, sym, refl}
use mathlib.Core.Bool.{Bool, true, false}
use mathlib.Core.List.{List}
use native.Mathlib.Omega.{arith}
use Rattle.fields.specs.Judged.{Judged, done, refused, on_done, refused_if}
use Rattle.fields.specs.Numbers.{truncated, bad_name}
use Rattle.fields.specs.Field.{field_at, little_endian}
use Rattle.fields.specs.Limits.{longest_name}
use Rattle.fields.specs.Name.{string_at, name_at}
use Rattle.fields.proofs.Judging.{not_done}
use Rattle.rows.specs.Rows.{declared_below, declares, word_in}

found_at : (file table name : List ℕ) (k : ℕ) → declares file table name k ≡ true
    → declared_below file table name (suc k) ≡ done (word_in table k 0)
unfolding declared_below
found_at file table name k d = simp d

passed_at : (file table name : List ℕ) (k : ℕ) → declares file table name k ≡ false
    → declared_below file table name (suc k) ≡ declared_below file table name k
unfolding declared_below
passed_at file table name k d = simp d

pub below_found : (file table name : List ℕ) (left : ℕ) → 0 < left → declares file table name (left - 1) ≡ true
    → declared_below file table name left ≡ done (word_in table (left - 1) 0)
below_found file table name left h d =
    let e : left ≡ suc (left - 1) = omega arith in
    ap (declared_below file table name) e ∙ found_at file table name (left - 1) d

pub below_passed : (file table name : List ℕ) (left : ℕ) → 0 < left → declares file table name (left - 1) ≡ false
    → declared_below file table name left ≡ declared_below file table name (left - 1)
below_passed file table name left h d =
    let e : left ≡ suc (left - 1) = omega arith in
    ap (declared_below file table name) e ∙ passed_at file table name (left - 1) d

pub below_none : (file table name : List ℕ) (left : ℕ) → left ≤ 0 → declared_below file table name left ≡ refused bad_name 0
unfolding declared_below
below_none file table name zero h = refl
below_none file table name (suc k) h = absurd (omega arith)

-- what refuses a name stands where the name does
module _ (n p q : ℕ) where
  by_test : {A : Type 0} (test : Bool) (m : ℕ) (a : A) → refused_if test m q (done a) ≡ refused n p → p ≡ q
  by_test true m a e = cc
  by_test false m a e = not_done (sym e)

  by_value : {A B : Type 0} (j : Judged A) (next : A → Judged B) → (j ≡ refused n p → p ≡ q) → ((a : A) → next a ≡ refused n p → p ≡ q)
      → on_done j next ≡ refused n p → p ≡ q
  by_value (done a) next h k e = k a e
  by_value (refused m r) next h k e = h cc

pub name_place : (s : List ℕ) (at n p : ℕ) → name_at s at ≡ refused n p → p ≡ at
unfolding name_at string_at field_at
name_place s at n p =
    let room : (size : ℕ) → refused_if (ltb (length s) (at + (size + 2))) truncated at (done size) ≡ refused n p → p ≡ at
    = λ size. by_test n p at (ltb (length s) (at + (size + 2))) truncated size in
    let short : (size : ℕ) → refused_if (ltb longest_name size) bad_name at (done size) ≡ refused n p → p ≡ at
    = λ size. by_test n p at (ltb longest_name size) bad_name size in
    let field = by_test n p at (ltb (length s) (at + 2)) truncated (little_endian 2 s at) in
    by_value n p at (string_at s at) _ (by_value n p at (field_at 2 s at) _ field room) short
