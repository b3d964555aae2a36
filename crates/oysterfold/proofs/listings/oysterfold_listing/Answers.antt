-- The result's length, and then the room for the listing, decide.
use mathlib.Core.Path.{sym}
use Rattle.fields.specs.Limits.{largest_file}
use Rattle.fields.specs.Judged.{buffer_after}
use Rattle.listing.specs.Listing.{listing_of, written}
use Rattle.oysterfold.proofs.Results.{handed, too_short}
use Rattle.oysterfold.proofs.listings.oysterfold_listing.Goals as goal

pub returns-then-res-lt-RESULT_WORDS : goal.returns-then-res-lt-RESULT_WORDS
returns-then-res-lt-RESULT_WORDS c =
    let a = c.args in
    let words = listing_of largest_file a.file.now in
    let j = written words a.text.now in
    let both = too_short j j (λ k. buffer_after k words a.text.now) a.res.now c.if-res-lt-RESULT_WORDS.true in record { value = both.0; text_after = both.1.0; res_after = both.1.1 }

pub returns : goal.returns
returns c =
    let a = c.args in
    let words = listing_of largest_file a.file.now in
    let j = written words a.text.now in
    let both = handed j j (λ k. buffer_after k words a.text.now) a.res.now c.if-res-lt-RESULT_WORDS.false _
    (sym c.list_file.ensures.result_value) c.list_file.ensures.text_after c.tell.ensures.value c.tell.ensures.res_after in record { value = both.0; text_after = both.1.0; res_after = both.1.1 }
