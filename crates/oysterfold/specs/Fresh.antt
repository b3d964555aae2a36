-- What the functions that make a fresh state or histogram hand back.
use Rattle.std.specs.Prelude.{ℕ, List, length}
use Rattle.std.proofs.lemmas.List.Edits.{sets}
use Rattle.fields.specs.Numbers.{no_room}
use Rattle.fields.specs.Judged.{pick}
use Rattle.oysterfold.specs.CoderState.{shorter}

-- the number, and what the array then holds
pub record Stored : Type 0 where
  pub number : ℕ
  pub words : List ℕ

abbrev pub stored : ℕ → List ℕ → Stored
stored number words = record { number = number; words = words }

-- words at an array's start; one that is too short for them is 12, and stays as it was
unfoldable pub stored_into : List ℕ → List ℕ → Stored
stored_into words array = pick (shorter (length words) array) (stored no_room array) (stored 0 (sets array 0 words))
