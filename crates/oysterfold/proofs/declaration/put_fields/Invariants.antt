use mathlib.Core.Path.{◌≡◌}
use lib.ListN.{drop, length}
use lib.Seq.{sets}
use Rattle.oysterfold.specs.Declaration.{words_at}
use Rattle.oysterfold.proofs.declaration.put_fields.Given as goal

abbrev pub invariant-loop-i : goal.invariant-loop-i
invariant-loop-i l = (length l.fields ≡ length l.initial.fields) × (sets l.initial.fields 0 (words_at l.count l.s l.from) ≡ sets l.fields l.i (drop l.i (words_at l.count l.s l.from)))
