-- Laws of a whole call, over plain values: the tests in the code's order, what a granted step's writes need, and the mesh that they make.
use Rattle.std.proofs.Common.{◌≡◌, ℕ, ◌-◌, ◌*◌, true, false, List, length, sym, ◌∙◌, arith, eq-eqb, ne_eqb}
use borrow.Author.Tests.{not-false}
use Rattle.fields.specs.All.{all}
use Rattle.fields.specs.Numbers.{bad_steps, no_room, no_step, not_allowed}
use Rattle.fields.specs.Judged.{Judged, done, refused}
use Rattle.fields.proofs.Judging.{passed, refusal_before}
use Rattle.mesh.specs.Base.{position_words}
use Rattle.progressive.specs.declared.counts.Counts.{Counts}
use Rattle.progressive.specs.declared.levels.Place.{Place}
use Rattle.progressive.specs.declared.refine.Direction.{Direction}
use Rattle.progressive.specs.declared.refine.Direction.TheVariants as direction
use Rattle.progressive.specs.Requests.{asked_on}
use Rattle.progressive.specs.Indexed.{always, from, writes}
use Rattle.progressive.specs.StepTable.{coordinate, move_count, new_face_count, step_count, well_formed}
use Rattle.progressive.specs.Mesh.{Mesh, fits, mesh_of}
use Rattle.progressive.specs.Rules.{allowed_on, move_numbers, numbers_allowed}
use Rattle.progressive.specs.Laying.{laid, laid_faces, laid_positions, undone, undone_faces, undone_positions}
use Rattle.progressive.specs.Steps.{coarsened, coarsened_by, granted, level_of, refined, refined_by, reply}
use Rattle.progressive.specs.Inside.{FacesStep, StepBetween, ask_of, place_at, place_of}
use Rattle.progressive.proofs.Indexed.{and_left, and_right}
use Rattle.progressive.proofs.Rooms.{Fitting, fitting}
use Rattle.progressive.proofs.Reaching.{AtLevel}

-- ---- the step at an offset

pub grants : {j : Judged Mesh} {made : Mesh} {faces positions : List ℕ} {counts : Counts} (m : Mesh) → j ≡ done made → mesh_of faces positions counts ≡ made
    → granted (mesh_of faces positions counts) ≡ reply j m
grants m e f = rw (e, f)

moves_of : (t : List ℕ) (o shadings f r : ℕ) → numbers_allowed t o shadings f r ≡ true → all (move_numbers t o f) (move_count t o) ≡ true
unfolding numbers_allowed
moves_of t o shadings f r e = search (and_left, and_right)

-- what the writes of a granted step need
pub record Writable (t : List ℕ) (o face_room position_room : ℕ) (lower higher : Counts) : Type 0 where
  pub faces : FacesStep t o face_room lower.faces lower.positions
  pub fit : Fitting face_room position_room higher.faces higher.positions

module _ (t : List ℕ) (o shadings : ℕ) (faces positions : List ℕ) (present target : Counts) where
  writable : (lower higher : Counts) → StepBetween t o lower higher → numbers_allowed t o shadings lower.faces lower.positions ≡ true
      → fits (length faces) (length positions) higher.faces higher.positions ≡ true → Writable t o (length faces) (length positions) lower higher
  writable lower higher s ok e =
      let fit = fitting _ _ _ _ e in
      record {
        faces = record {
          formed = s.formed;
          moves = moves_of t o shadings lower.faces lower.positions ok;
          room = rw (← s.faces) fit.face_room;
          few = omega (arith, fit.positions, s.positions);
        };
        fit = fit;
      }

  pub refinable : {made : Mesh} → StepBetween t o present target → refined_by t shadings o (mesh_of faces positions present) ≡ done made
      → Writable t o (length faces) (length positions) present target
  unfolding refined_by allowed_on
  refinable {made} s e =
      let room = passed _ no_room 0 _ made e in
      let ok = passed _ not_allowed 0 _ made room.1 in
      let fits_after = and_right (fits (length faces) (length positions) present.faces present.positions) _ (not-false _ room.0) in
      writable present target s (and_left _ _ (not-false _ ok.0)) (rw (s.faces, s.positions) fits_after)

  pub coarsenable : {made : Mesh} → StepBetween t o target present
      → coarsened_by t shadings o target.faces target.positions (mesh_of faces positions present) ≡ done made
      → Writable t o (length faces) (length positions) target present
  unfolding coarsened_by
  coarsenable {made} s e =
      let room = passed _ no_room 0 _ made e in
      let ok = passed _ not_allowed 0 _ made room.1 in
      writable target present s (not-false _ ok.0) (and_left _ _ (not-false _ room.0))

  pub laid_mesh : {faces' positions' : List ℕ} → StepBetween t o present target → faces' ≡ laid_faces t o faces present.faces present.positions
      → positions' ≡ writes (from (position_words * present.positions)) (coordinate t o) positions position_words
      → mesh_of faces' positions' target ≡ laid t o (mesh_of faces positions present)
  unfolding laid laid_positions
  laid_mesh s a b = λ i. record { faces = a i; positions = b i; face_count = s.faces i; position_count = s.positions i }

  pub undone_mesh : {faces' positions' : List ℕ} → faces' ≡ undone_faces t o faces target.faces
      → positions' ≡ writes (from (position_words * target.positions)) (always 0) positions position_words
      → mesh_of faces' positions' target ≡ undone t o target.faces target.positions (mesh_of faces positions present)
  unfolding undone undone_positions
  undone_mesh a b = λ i. record { faces = a i; positions = b i; face_count = target.faces; position_count = target.positions }

-- ---- the whole call

pub reply_by : {j j' : Judged Mesh} (m : Mesh) → j ≡ j' → reply j m ≡ reply j' m
reply_by m e = rw e

-- no level has these counts
module _ (t : List ℕ) (shadings : ℕ) (m : Mesh) {n : ℕ} (e : refused n 0 ≡ place_of t m.face_count m.position_count) where
  pub not_refined : refined t shadings m ≡ refused n 0
  unfolding refined
  not_refined = rw (refusal_before (level_of t m.face_count m.position_count) (place_at t) n 0 (sym e))

  pub not_coarsened : coarsened t shadings m ≡ refused n 0
  unfolding coarsened
  not_coarsened = rw (refusal_before (level_of t m.face_count m.position_count) (place_at t) n 0 (sym e))

-- 16, and the step of a level
module _ (t : List ℕ) (shadings : ℕ) (m : Mesh) {place : Place} (l : AtLevel t m.face_count m.position_count place) where
  pub top : {n : ℕ} → n ≡ step_count t → place.level ≡ n → refined t shadings m ≡ refused no_step 0
  unfolding refined
  top e h = rw (l.judged, eq-eqb place.level (step_count t) (h ∙ e))

  pub refined_next : {n : ℕ} → n ≡ step_count t → (place.level ≡ n → ⊥) → refined t shadings m ≡ refined_by t shadings place.next m
  unfolding refined
  refined_next e h = rw (l.judged, ne_eqb place.level (step_count t) (λ f. h (f ∙ sym e)), l.next_at)

  pub bottom : place.level ≡ 0 → coarsened t shadings m ≡ refused no_step 0
  unfolding coarsened
  bottom h = rw (l.judged, eq-eqb place.level 0 h)

  pub coarsened_last : {f r : ℕ} → (place.level ≡ 0 → ⊥) → f ≡ m.face_count - new_face_count t place.last → r ≡ m.position_count - 1
      → coarsened t shadings m ≡ coarsened_by t shadings place.last f r m
  unfolding coarsened
  coarsened_last h e g = rw (l.judged, ne_eqb place.level 0 h, e, g, l.last_at)

-- a list that is refused, or counts that are those of no level: either way
module _ (t : List ℕ) (shadings : ℕ) (m : Mesh) where
  pub not_asked : {n : ℕ} → refused n 0 ≡ place_of t m.face_count m.position_count → (way : Direction) → asked_on t shadings m (ask_of way) ≡ refused n 0
  not_asked e direction.Up = not_refined t shadings m e
  not_asked e direction.Down = not_coarsened t shadings m e

  pub unformed : well_formed t ≡ false → (way : Direction) → asked_on t shadings m (ask_of way) ≡ refused bad_steps 0
  unfolding level_of
  unformed e way = not_asked (rw e) way
