-- `line::put_word` meets its contract. The invariant: what is to be stored onto the text at the start is what is still to be stored onto
-- the present text. Assumes nothing.
use mathlib.Core.Path.{refl, sym, ◌∙◌}
use native.Mathlib.Omega.{arith}
use Rattle.text.proofs.Stores.{stored_length, word_none, word_turn, word_done}
use Rattle.text.proofs.line.put_word.Goals as goal

pub loop-i-init : goal.loop-i-init
loop-i-init c = word_none c.args.text.now c.args.at c.args.word.now

pub loop-i-preserved : goal.loop-i-preserved
loop-i-preserved c = let l = c.loop-i in l.invariant ∙ word_turn l.text _ l.i _ c.loop-i-test.true ∙ rw c.put.ensures

pub returns : goal.returns
returns c =
    let l = c.loop-i in
    record { value = refl; text_after = sym (l.invariant ∙ word_done l.text l.i _ c.args.word.now (omega arith)) }

pub shape_of-text : goal.shape_of-text
shape_of-text c = stored_length _ c.args.text.now c.args.at c.args.word.now (returns c).text_after
