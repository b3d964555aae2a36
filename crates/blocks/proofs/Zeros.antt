-- One step of `zeros_of`, in the terms of a loop that counts up. Assumes nothing.
use mathlib.Core.Path.{◌≡◌}
use mathlib.Core.List.{List}
use Prim.Native.Nat.{ℕ, zero, suc, ◌+◌, ◌-◌, ◌<◌, ◌≤◌}
use native.Mathlib.Omega.{arith}
use borrow.Author.Tests.{eq-eqb, ne_eqb}
use lib.ListN.{get_or}
use Rattle.fields.specs.Numbers.{bad_padding}
use Rattle.fields.specs.Judged.{refused}
use Rattle.blocks.specs.Padding.{zeros_of, fine}

module _ (s : List ℕ) (at to : ℕ) where
  pub zeros_done : to ≤ at → zeros_of (to - at) s at ≡ fine
  unfolding zeros_of
  zeros_done h = let e : to - at ≡ zero = omega arith in rw e

  pub zeros_next : at < to → get_or s at 0 ≡ 0 → zeros_of (to - at) s at ≡ zeros_of (to - (at + 1)) s (at + 1)
  unfolding zeros_of
  zeros_next h z =
      let e : to - at ≡ suc (to - (at + 1)) = omega arith in
      let f : at + 1 ≡ suc at = omega arith in
      rw (e, zeros_of) (simp (eq-eqb _ _ z, f))

  pub zeros_refused : at < to → (get_or s at 0 ≡ 0 → ⊥) → zeros_of (to - at) s at ≡ refused bad_padding at
  unfolding zeros_of
  zeros_refused h z =
      let e : to - at ≡ suc (to - (at + 1)) = omega arith in
      rw (e, zeros_of) (simp (ne_eqb _ _ z))
