-- A field that the face has is read in its range; another is absent.
use mathlib.Core.Path.{◌∙◌, sym}
use Rattle.mesh.specs.Faces.{field_from}
use Rattle.mesh.proofs.Numbers.{found_same, read_inverted, static_inverted, static_judged}
use Rattle.mesh.proofs.faces.take_field.Goals as goal

pub returns-then-is_present : goal.returns-then-is_present
unfolding field_from
returns-then-is_present c =
    let a = c.args in
    let e = rw c.range_of.ensures at c.take_static.ensures ∙ static_judged a.input.now a.state c.requires _ in record {
      result_value = simp (sym c.is_present.ensures ∙ c.if-is_present.true) (found_same a.state c.take_static.result e);
      read_inverted = read_inverted a.input.now a.state c.take_static.result _ e (static_inverted a.input.now a.state c.requires _);
    }

pub returns-else-is_present : goal.returns-else-is_present
unfolding field_from
returns-else-is_present c = record { result_value = simp (sym c.is_present.ensures ∙ c.if-is_present.false); read_inverted = c.requires }
