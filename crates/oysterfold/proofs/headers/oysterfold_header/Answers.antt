-- The result's length, and then the header, decide.
use mathlib.Core.Path.{sym}
use Rattle.blocks.specs.Header.{first_of}
use Rattle.oysterfold.specs.Header.{header_in, header_length, header_result, header_words}
use Rattle.oysterfold.proofs.Results.{words_handed, words_short}
use Rattle.oysterfold.proofs.headers.oysterfold_header.Goals as goal

pub returns-then-res-lt-HEADER_LENGTH : goal.returns-then-res-lt-HEADER_LENGTH
unfolding header_in header_result
returns-then-res-lt-HEADER_LENGTH c =
    let a = c.args in
    let both = words_short header_length (first_of a.file.now) header_words a.res.now c.if-res-lt-HEADER_LENGTH.true in record { value = both.0; res_after = both.1 }

pub returns-in-Ok : goal.returns-in-Ok
unfolding header_in header_result
returns-in-Ok c =
    let a = c.args in
    let both = words_handed header_length (first_of a.file.now) header_words a.res.now c.if-res-lt-HEADER_LENGTH.false _
    (sym c.in-Ok.ensures) (rw c.header_words.ensures at c.put_words.ensures) in record { value = both.0; res_after = both.1 }

pub returns-in-Err : goal.returns-in-Err
unfolding header_in header_result
returns-in-Err c =
    let a = c.args in
    let both = words_handed header_length (first_of a.file.now) header_words a.res.now c.if-res-lt-HEADER_LENGTH.false _
    (sym c.in-Err.ensures) c.put_words-in-Err.ensures in record { value = rw c.from.ensures both.0; res_after = both.1 }
