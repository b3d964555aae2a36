-- What the exported writers hand back: 01's number, and what the caller's state array and buffer then hold.
use Rattle.std.specs.Prelude.{ℕ, Bool, List}
use Rattle.std.proofs.lemmas.List.Edits.{sets}
use Rattle.fields.specs.Numbers.{no_room}
use Rattle.fields.specs.Judged.{pick}
use Rattle.coder.specs.Writing.{End, Write, write_plain, write_static}
use Rattle.coder.specs.declared.write.Writer.{Writer}
use Rattle.oysterfold.specs.CoderState.{is_width, shorter, writer_words}
use Rattle.oysterfold.specs.Result.{result_words, value_told}

pub record Handed : Type 0 where
  pub number : ℕ
  pub state : List ℕ
  pub buffer : List ℕ

abbrev pub handed : ℕ → List ℕ → List ℕ → Handed
handed number state buffer = record { number = number; state = state; buffer = buffer }

-- "state .. arrays change only on answer 0"; a refused write's bytes are those of the buffer as it was
abbrev pub handed_by : Write → List ℕ → Handed
handed_by w state = handed w.number (pick w.done (sets state 0 (writer_words w.writer)) state) w.bytes

-- a write, for a caller who may have lent an array that is too short: 12 before all else
unfoldable pub written_into : Bool → Write → List ℕ → List ℕ → Handed
written_into too_short w state buffer = pick too_short (handed no_room state buffer) (handed_by w state)

-- a plain value; `bytes` other than 1, 2, 4 is 10, where the coder judges it: as a value in an empty range
unfoldable pub write_bytes : ℕ → List ℕ → Writer → ℕ → Write
write_bytes bytes buffer w value = pick (is_width bytes) (write_plain bytes buffer w value) (write_static 0 buffer w value)

-- the end is a write that also tells the bytes used
abbrev pub end_write : End → Write
end_write e = record { number = e.number; done = e.done; writer = e.writer; bytes = e.bytes }

-- they are 0 where it is refused; a result that is too short stays as it was
unfoldable pub used_into : Bool → End → List ℕ → List ℕ
used_into too_short e result = pick (shorter result_words result) result (value_told (pick too_short 0 e.used) result)
