-- `digits::put_digits` meets its contract. The invariant: what is to be stored onto the text at the start is what is still to be stored onto
-- the present text. Assumes nothing.
use mathlib.Core.Path.{sym, ◌∙◌}
use native.Mathlib.Nat.{mod-lt}
use native.Mathlib.Omega.{arith}
use Rattle.text.specs.Digits.{digits_of}
use Rattle.text.proofs.Stores.{stored_length}
use Rattle.text.proofs.Turns.{digits_more, digits_none}
use Rattle.text.proofs.digits.put_digits.Goals as goal

pub digit-requires : goal.digit-requires
digit-requires c = omega (arith, mod-lt c.loop-i.rest c.requires.0)

pub loop-i-preserved : goal.loop-i-preserved
loop-i-preserved c =
    let l = c.loop-i in
    l.invariant ∙ digits_more l.text _ _ l.i l.rest c.loop-i-test.true ∙ rw (c.put.ensures, c.digit.ensures)

pub returns : goal.returns
returns c = sym (c.loop-i.invariant ∙ digits_none _ _ _ _ _ (omega arith))

pub shape_of-text : goal.shape_of-text
shape_of-text c =
    let a = c.args in
    stored_length _ a.text.now a.at (digits_of a.base a.width a.value) (returns c)
