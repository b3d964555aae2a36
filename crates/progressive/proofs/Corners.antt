-- The corners that an allowed step moves: each lies within the faces, and no two are the same, since a record is wider than its corners.
use Rattle.std.proofs.Common.{◌≡◌, ℕ, ◌*◌, ◌<◌, ◌≤◌, true, List, sym, true≢false, arith, ltb-true, eq-eqb, leb-true}
use Rattle.fields.specs.All.{all}
use Rattle.fields.proofs.All.{all_at}
use Rattle.mesh.specs.Corners.{face_words}
use Rattle.progressive.specs.StepTable.{corner_formed, move_corner, move_count, move_face, step_formed}
use Rattle.progressive.specs.Rules.{corner_index, move_numbers, other_corner}
use Rattle.progressive.proofs.Indexed.{Distinct, and_left, and_right}

corner_bound : (t : List ℕ) (o i : ℕ) → step_formed t o ≡ true → i < move_count t o → move_corner t o i ≤ 2
unfolding step_formed
corner_bound t o i e b = leb-true _ _ (all_at (corner_formed t o) (move_count t o) i (search (and_left, and_right)) b)

move_face_lem : (t : List ℕ) (o f i : ℕ) → move_numbers t o f i ≡ true → move_face t o i < f
unfolding move_numbers
move_face_lem t o f i e = ltb-true _ _ (search and_left)

-- an earlier move of the same corner is refused
move_repeated : (t : List ℕ) (o f i j : ℕ) → move_numbers t o f j ≡ true → i < j → move_face t o j ≡ move_face t o i → move_corner t o j ≡ move_corner t o i → ⊥
unfolding move_numbers other_corner
move_repeated t o f i j e h same_face same_corner =
    let at : other_corner t o j i ≡ true = all_at (other_corner t o j) j i (search (and_left, and_right)) h in
    true≢false (sym (rw (eq-eqb _ _ same_face, eq-eqb _ _ same_corner) at at))

module _ (t : List ℕ) (o f : ℕ) (formed : step_formed t o ≡ true) (moves : all (move_numbers t o f) (move_count t o) ≡ true) where
  pub corner_below : (i : ℕ) → i < move_count t o → corner_index t o i < face_words * f
  unfolding corner_index
  corner_below i b =
      omega (arith, corner_bound t o i formed b, move_face_lem t o f i (all_at (move_numbers t o f) (move_count t o) i moves b))

  pub corners_distinct : Distinct (corner_index t o) (move_count t o)
  unfolding corner_index
  corners_distinct i j h b e =
      let bi : move_corner t o i ≤ 2 = corner_bound t o i formed (omega arith) in
      let bj : move_corner t o j ≤ 2 = corner_bound t o j formed b in
      let same_face : move_face t o j ≡ move_face t o i = omega arith in
      move_repeated t o f i j (all_at (move_numbers t o f) (move_count t o) j moves b) h same_face (omega arith)
