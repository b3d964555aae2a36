-- The first field is the line's part before its first tab.
use Prim.Native.Nat.{ℕ}
use mathlib.Core.List.{List}
use mathlib.Core.Path.{◌∙◌, ap, sym}
use Rattle.fields.specs.Name.{same}
use Rattle.climb.proofs.Finding.{found_or}
use Rattle.climb.proofs.Lines.{first_field}
use Rattle.climb.proofs.line.starts_with.Goals as goal

pub returns : goal.returns
returns c =
    let a = c.args in
    c.is_same.ensures ∙ ap (λ (l : List ℕ). same l a.word.now)
    (first_field a.text.now a.at c.unwrap_or-end.result c.unwrap_or-stop.result (rw c.unwrap_or-end.ensures (found_or _ a.text.now a.at _ c.find.ensures)) (rw c.unwrap_or-stop.ensures (found_or _ _ 0 _ c.find-2.ensures)))
