-- The result's length, then the declaration, then the room for its fields decide.
use mathlib.Core.Path.{refl, sym}
use borrow.Author.Rules.{rules}
use Rattle.fields.specs.Judged.{refused}
use Rattle.fields.specs.Numbers.{fault_number}
use Rattle.oysterfold.specs.Declaration.{fields_in}
use Rattle.oysterfold.proofs.Declared.{handed, too_short}
use Rattle.oysterfold.proofs.Whole.{name_inside}
use Rattle.oysterfold.proofs.declaration.oysterfold_declaration.Goals as goal

pub returns-then-res-lt-RESULT_WORDS : goal.returns-then-res-lt-RESULT_WORDS
returns-then-res-lt-RESULT_WORDS c = let a = c.args in let both = too_short a.declaration.now a.fields.now a.res.now c.if-res-lt-RESULT_WORDS.true in record { value = both.0; fields_after = both.1.0; res_after = both.1.1 }

pub returns-in-Err : goal.returns-in-Err
returns-in-Err c =
    let a = c.args in
    let e = c.in-Err.e in
    let both = handed a.declaration.now a.fields.now a.res.now c.if-res-lt-RESULT_WORDS.false (refused (fault_number e.fault) e.place) (rw (← c.in-Err.ensures))
    (c.tell_refused.ensures.value, (refl, c.tell_refused.ensures.res_after)) in
    record { value = both.0; fields_after = both.1.0; res_after = both.1.1 }

pub hand_out-requires : goal.hand_out-requires
hand_out-requires c = (name_inside c.args.declaration.now c.in-Ok.read (sym c.in-Ok.ensures), search rules)

pub returns-in-Ok : goal.returns-in-Ok
returns-in-Ok c =
    let a = c.args in
    let s = a.declaration.now in
    let both = handed s a.fields.now a.res.now c.if-res-lt-RESULT_WORDS.false (fields_in s a.fields.now c.in-Ok.read.name_size) (rw (← c.in-Ok.ensures))
    (c.hand_out.ensures.value, (c.hand_out.ensures.fields_after, c.hand_out.ensures.res_after)) in
    record { value = both.0; fields_after = both.1.0; res_after = both.1.1 }
