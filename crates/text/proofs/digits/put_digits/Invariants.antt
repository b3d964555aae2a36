use mathlib.Core.Path.{◌≡◌}
use lib.Seq.{sets}
use Rattle.text.specs.Digits.{digits_of}
use Rattle.text.proofs.digits.put_digits.Given as goal

abbrev pub invariant-loop-i : goal.invariant-loop-i
invariant-loop-i l = sets l.initial.text l.at (digits_of l.base l.width l.value) ≡ sets l.text l.at (digits_of l.base l.i l.rest)
