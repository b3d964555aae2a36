-- The room for the fields decides.
use Rattle.oysterfold.proofs.Declared.{no_room_told, stored_told}
use Rattle.oysterfold.proofs.declaration.hand_out.Goals as goal

pub returns-then-fields-count : goal.returns-then-fields-count
returns-then-fields-count c =
    let a = c.args in
    let both = no_room_told a.s.now a.fields.now a.res.now a.size c.if-fields-count.true (rw c.at.ensures at c.tell_refused.ensures.value) (rw c.at.ensures at c.tell_refused.ensures.res_after) in record { value = both.0; fields_after = both.1.0; res_after = both.1.1 }

pub returns : goal.returns
returns c =
    let a = c.args in
    let both = stored_told a.s.now a.fields.now a.res.now a.size c.if-fields-count.false c.put_fields.ensures c.put_words.ensures in record { value = both.0; fields_after = both.1.0; res_after = both.1.1 }
