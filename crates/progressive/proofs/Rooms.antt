-- Counts that fit their tables: what the test tells. Each fact is a conjunct of the test.
use Rattle.std.proofs.Common.{◌≡◌, ℕ, ◌*◌, ◌≤◌, Bool, true, ◌&&◌, sym, ◌∙◌, leb-true}
use Rattle.fields.specs.Limits.{largest_count}
use Rattle.mesh.specs.Corners.{face_words}
use Rattle.mesh.specs.Base.{position_words}
use Rattle.progressive.specs.Mesh.{fits}
use Rattle.progressive.proofs.Indexed.{and_left, and_right}

pub record Fitting (a b f p : ℕ) : Type 0 where
  pub faces : f ≤ largest_count
  pub positions : p ≤ largest_count
  pub face_room : face_words * f ≤ a
  pub position_room : position_words * p ≤ b

pub fitting : (a b f p : ℕ) → fits a b f p ≡ true → Fitting a b f p
unfolding fits
fitting a b f p e = record {
  faces = leb-true _ _ (search (and_left, and_right));
  positions = leb-true _ _ (search (and_left, and_right));
  face_room = leb-true _ _ (search (and_left, and_right));
  position_room = leb-true _ _ (search (and_left, and_right));
}

-- both counts fit: what each tells
module _ (a b f p g q : ℕ) {v : Bool} (e : v ≡ fits a b f p && fits a b g q) (h : v ≡ true) where
  pub first_fits : Fitting a b f p
  first_fits = fitting a b f p (and_left _ _ (sym e ∙ h))

  pub second_fits : Fitting a b g q
  second_fits = fitting a b g q (and_right (fits a b f p) _ (sym e ∙ h))
