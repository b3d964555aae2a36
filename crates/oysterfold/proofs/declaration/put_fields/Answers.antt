-- The invariant: what is left of the fields, stored from index i on, is the whole.
use Prim.Native.Nat.{◌+◌, ◌*◌}
use mathlib.Core.Path.{◌∙◌, sym}
use native.Mathlib.Omega.{arith}
use lib.ListN.{length-set}
use Rattle.oysterfold.proofs.Declared.{field_there, fields_more, fields_none}
use Rattle.oysterfold.proofs.declaration.put_fields.Goals as goal

pub loop-i-preserved : goal.loop-i-preserved
loop-i-preserved c =
    let a = c.args in
    let l = c.loop-i in
    let v = c.unwrap_or.ensures ∙ field_there a.s.now (a.from + 4 * l.i) (omega (arith, c.requires.0, c.loop-i-test.true)) c.field_at.result c.field_at.ensures in
    (simp length-set l.invariant.0, l.invariant.1 ∙ fields_more l.fields a.s.now a.from a.count l.i c.loop-i-test.true _ v)

pub returns : goal.returns
returns c =
    let a = c.args in
    let l = c.loop-i in
    sym (l.invariant.1 ∙ fields_none l.fields a.s.now a.from a.count l.i c.loop-i-test.false)
