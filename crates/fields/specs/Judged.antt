-- What judging comes to: a value, or a refusal with 01's number and place. "Fields are judged in file order and the first bad one
-- decides": a definition that judges reads from top to bottom in that order.
use Rattle.std.specs.Prelude.{ℕ, Bool, true, false, List, ◌++◌, ltb, length, drop, Result, Ok, Err}
use Rattle.fields.specs.Numbers.{no_room, fault_number}
use Rattle.fields.specs.declared.refusal.Refusal.{Refusal}

pub data Judged (A : Type 0) : Type 0 where
  done : A → Judged A
  refused : ℕ → ℕ → Judged A

-- 01's number: 0 is "done". The number of an answer is that of what its `..Given` definition says
abbrev pub number_of : {A : Type 0} → Judged A → ℕ
number_of (done a) = 0
number_of (refused n p) = n

-- 01's number and place, or the value, of what the code hands back
abbrev pub given : {A : Type 0} → Result A Refusal → Judged A
given (Ok a) = done a
given (Err e) = refused (fault_number e.fault) e.place

-- what follows from a value; a refusal stands
abbrev pub on_done : {A B : Type 0} → Judged A → (A → Judged B) → Judged B
on_done (done a) next = next a
on_done (refused n p) next = refused n p

-- one of two values, by a test
abbrev pub pick : {A : Type 0} → Bool → A → A → A
pick true a b = a
pick false a b = b

-- refused with that number and place where the test holds; else what follows
abbrev pub refused_if : {A : Type 0} → Bool → ℕ → ℕ → Judged A → Judged A
refused_if test n p next = pick test (refused n p) next

-- a result that a lent buffer can't hold is 12, place 0
abbrev pub room_for : {A : Type 0} → List ℕ → List ℕ → A → Judged A
room_for result buffer value = refused_if (ltb (length buffer) (length result)) no_room 0 (done value)

-- a lent buffer after an answer: with the result at its start, and what stood past it; a refusal leaves it as it was
abbrev pub buffer_after : {A : Type 0} → Judged A → List ℕ → List ℕ → List ℕ
buffer_after (done _) result buffer = result ++ drop (length result) buffer
buffer_after (refused n p) result buffer = buffer
