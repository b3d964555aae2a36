-- Laws of the tests on a step's numbers, over plain values: what each return of the functions that test them cites. Each unfolds one test.
use Rattle.std.proofs.Common.{◌≡◌, ℕ, ◌+◌, ◌*◌, ◌≤◌, Bool, not, ◌&&◌, eqb, List, length, get_or, arith}
use Rattle.progressive.specs.StepTable.{move_words, new_face_at, new_face_words, split_of, step_words}
use Rattle.progressive.specs.Rules.{new_face_allowed, new_face_numbers, other_corner}
use Rattle.progressive.specs.Inside.{MoveNames}
use Rattle.progressive.proofs.Formed.{face_place}

-- what move i names, as the code has its place
pub move_named : (t : List ℕ) (o i : ℕ) {face corner : ℕ} → o + step_words + move_words * (i + 1) ≤ length t
    → face ≡ get_or t (o + step_words + move_words * i) 0 → corner ≡ get_or t (o + step_words + move_words * i + 1) 0 → MoveNames t o i face corner
move_named t o i h ef ec =
    let place : o + step_words + move_words * i + 1 ≡ o + step_words + 1 + move_words * i = omega arith in
    record { within = h; face_is = ef; corner_is = rw place at ec }

-- the test of an earlier move j, as the code has its place
pub other_named : (t : List ℕ) (o i j : ℕ) {face corner : ℕ} {b : Bool} → MoveNames t o i face corner
    → b ≡ eqb face (get_or t (o + step_words + move_words * j) 0) && eqb corner (get_or t (o + step_words + move_words * j + 1) 0) → not b ≡ other_corner t o i j
unfolding other_corner
other_named t o i j m e =
    let place : o + step_words + move_words * j + 1 ≡ o + step_words + 1 + move_words * j = omega arith in
    rw (← m.face_is, ← m.corner_is, ← place, ← e)

-- the test of new face j, as the code has its place
pub new_face_test : (t : List ℕ) (o shadings r j : ℕ) {first s : ℕ} {v : Bool} → first ≡ new_face_at t o 0 → s ≡ split_of t o
    → v ≡ new_face_allowed t (first + new_face_words * j) shadings r s → v ≡ new_face_numbers t o shadings r j
new_face_test t o shadings r j em es e = rw (← face_place t o j em, ← es) e
