-- Nothing is looked up where the total is 0 or full; a symbol whose part fits holds the place, and so has some frequency.
use Rattle.std.proofs.Common.{sym, ◌∙◌, arith}
use Rattle.coder.specs.Interval.{target}
use Rattle.coder.proofs.Counts.{not_below, none_quick, fit_quick, unfit_quick}
use Rattle.coder.proofs.interval.Coder.quick_symbol.Goals as goal

pub returns-then-total-lt1 : goal.returns-then-total-lt1
returns-then-total-lt1 c = none_quick _ _ _ _ (not_below _ c.then-total-lt1.either)

pub returns-then-part_fits : goal.returns-then-part_fits
unfolding target
returns-then-part_fits c = fit_quick _ _ _ c.args.self _ _ (c.from.ensures ∙ rw (← c.requires.same) c.target.ensures) c.symbol_at-symbol.ensures.0 (omega arith) (omega arith) _ c.symbol_at-symbol.ensures.1 (sym c.part_fits.ensures ∙ c.if-part_fits.true)

pub returns-else-part_fits : goal.returns-else-part_fits
unfolding target
returns-else-part_fits c = unfit_quick _ _ _ c.args.self _ _ (c.from.ensures ∙ rw (← c.requires.same) c.target.ensures) c.symbol_at-symbol.ensures.0 (omega arith) (omega arith) (sym c.part_fits.ensures ∙ c.if-part_fits.false)
