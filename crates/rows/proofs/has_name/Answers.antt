-- The name is judged, and then compared.
use mathlib.Core.Path.{◌≡◌, refl, sym, ◌∙◌}
use mathlib.Core.Bool.{Bool, true, false, false≢true}
use Prim.Native.Nat.{ℕ}
use Rattle.std.specs.Prelude.{Result, Ok, Err}
use Rattle.std.specs.Result.{is_ok}
use Rattle.fields.specs.Judged.{given}
use Rattle.fields.specs.declared.refusal.Refusal.{Refusal}
use Rattle.rows.specs.Rows.{where_named, has_name}
use Rattle.rows.proofs.has_name.Goals as goal

-- where there is a name, the test decides
named : (r : Result ℕ Refusal) (test : Bool) → is_ok r ≡ true → where_named (given r) test ≡ test
named (Ok size) test e = refl
named (Err e) test q = absurd (false≢true q)

unnamed : (r : Result ℕ Refusal) (test : Bool) → is_ok r ≡ false → where_named (given r) test ≡ false
unnamed (Ok size) test e = absurd (false≢true (sym e))
unnamed (Err e) test q = refl

pub returns-then-is_ok : goal.returns-then-is_ok
unfolding has_name
returns-then-is_ok c = rw (← c.name_size.ensures, named c.name_size.result _ (sym c.is_ok.ensures.value ∙ c.if-is_ok.true), c.is_same.ensures, c.mesh_name.ensures)

pub returns-else-is_ok : goal.returns-else-is_ok
unfolding has_name
returns-else-is_ok c = rw (← c.name_size.ensures, unnamed c.name_size.result _ (sym c.is_ok.ensures.value ∙ c.if-is_ok.false)) c.if-is_ok.false
