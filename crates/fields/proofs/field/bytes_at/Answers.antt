-- The test for room decides between the part and none.
use mathlib.Core.Path.{sym, ◌∙◌}
use Prim.Native.Nat.{◌+◌}
use native.Mathlib.Omega.{arith}
use lib.ListN.{length}
use native.Mathlib.Nat.{add-sub_cancel_left}
use borrow.Author.Tests.{ltb-false}
use Rattle.fields.specs.Field.{bytes_at}
use Rattle.fields.proofs.field.bytes_at.Goals as goal

pub returns-then-passes : goal.returns-then-passes
unfolding bytes_at
returns-then-passes c = simp (sym c.passes.ensures ∙ c.if-passes.true)

pub overflow_add-to : goal.overflow_add-to
overflow_add-to c = let a = c.args in omega (arith, ltb-false (length a.s.now) (a.at + a.size) (sym c.passes.ensures ∙ c.if-passes.false))

pub slice_bounds-result-end-2 : goal.slice_bounds-result-end-2
slice_bounds-result-end-2 c = let a = c.args in omega (arith, ltb-false (length a.s.now) (a.at + a.size) (sym c.passes.ensures ∙ c.if-passes.false))

pub returns : goal.returns
unfolding bytes_at
returns c = simp (sym c.passes.ensures ∙ c.if-passes.false, add-sub_cancel_left c.args.at c.args.size)
