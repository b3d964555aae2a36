-- The test for room decides between the value and what is missing.
use mathlib.Core.Path.{◌≡◌, sym, ◌∙◌}
use mathlib.Core.Bool.{false}
use Prim.Native.Nat.{◌+◌}
use lib.Dec.{ltb}
use lib.ListN.{length}
use native.Mathlib.Nat.{mod-eq_of_lt}
use borrow.Author.Tests.{ltb-false}
use Rattle.fields.specs.Field.{field_at}
use Rattle.fields.proofs.field.field_at.Goals as goal

pub value_at-requires : goal.value_at-requires
value_at-requires g c = (
  let r : ltb (length c.args.s.now) (c.args.at + c.WIDTH-else-passes.result) ≡ false = rw (c.WIDTH-else-passes.ensures, ← c.WIDTH.ensures) (sym c.passes.ensures ∙ c.if-passes.false) in ltb-false _ _ r,
  rw c.WIDTH-else-passes.ensures g.met.T.Unsigned.at_most_eight,
)

pub returns-then-passes : goal.returns-then-passes
unfolding field_at
returns-then-passes g c = rw (← c.WIDTH.ensures, sym c.passes.ensures ∙ c.if-passes.true)

pub returns-else-passes : goal.returns-else-passes
unfolding field_at
returns-else-passes g c =
    let v = rw c.WIDTH-else-passes.ensures at c.value_at.ensures.value in
    let small = rw c.WIDTH-else-passes.ensures at c.value_at.ensures.small in
    rw (← c.WIDTH.ensures, sym c.passes.ensures ∙ c.if-passes.false, c.of_low_bytes.ensures, mod-eq_of_lt small, c.WIDTH.ensures, v)
