use Rattle.std.proofs.Common.{◌≡◌, ℕ, ◌-◌, ◌*◌}
use Rattle.coder.specs.declared.interval.Coder.{Coder}
use Rattle.coder.specs.Interval.{WellFormed}
use Rattle.coder.specs.Inside.{Room}
use Rattle.coder.specs.Symbols.{after_symbols, plain_spans}
use Rattle.coder.proofs.interval.Coder.after_plain.Given as goal

-- what holds at the loop's head
pub record Left (t s : Coder) (rest left : ℕ) : Type 0 where
  pub same : after_symbols s (plain_spans left rest) ≡ t
  pub formed : WellFormed s
  pub room : Room (32 * left) s

abbrev pub invariant-loop : goal.invariant-loop
invariant-loop l = Left (after_symbols l.initial.s (plain_spans l.count l.value)) l.s l.rest (l.count - l.counter)
