-- What the exported readers hand back: 01's number, and what the caller's state array and result then hold.
use Rattle.std.specs.Prelude.{ℕ, Bool, true, List}
use Rattle.std.proofs.lemmas.List.Edits.{sets}
use Rattle.fields.specs.Numbers.{no_room}
use Rattle.fields.specs.Judged.{pick}
use Rattle.coder.specs.Reading.{Taken, take_plain, take_static}
use Rattle.coder.specs.declared.interval.Coder.{Coder}
use Rattle.oysterfold.specs.CoderState.{coder_words, is_width, shorter}
use Rattle.oysterfold.specs.Result.{result_words, value_told}

pub record Handed : Type 0 where
  pub number : ℕ
  pub state : List ℕ
  pub result : List ℕ

abbrev pub handed : ℕ → List ℕ → List ℕ → Handed
handed number state result = record { number = number; state = state; result = result }

-- "state .. arrays change only on answer 0"; a refused read's value is 0
abbrev pub handed_by : Taken → List ℕ → List ℕ → Handed
handed_by t state result = handed t.number (pick t.done (sets state 0 (coder_words t.state)) state) (value_told t.value result)

-- a read, for a caller whose result may be too short (12, before all else), or another array that was lent (12, and the result is told)
unfoldable pub read_into : Bool → Taken → List ℕ → List ℕ → Handed
read_into too_short t state result =
    pick (shorter result_words result) (handed no_room state result)
    (pick too_short (handed no_room state (value_told 0 result)) (handed_by t state result))

-- a plain value; "10 for range 0 or `bytes` other than 1, 2, 4 (nothing is read)": both are a value in an empty range
unfoldable pub take_bytes : ℕ → List ℕ → Coder → Taken
take_bytes bytes coded s = pick (is_width bytes) (take_plain true bytes coded s) (take_static true 0 coded s)
