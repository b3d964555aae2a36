-- `digits::decimal_width` meets its contract. Assumes nothing.
use native.Mathlib.Omega.{arith}
use mathlib.Core.Path.{sym}
use Rattle.text.proofs.Widths.{width_of, width_one}
use Rattle.text.proofs.digits.decimal_width.Goals as goal

pub returns-in-None : goal.returns-in-None
returns-in-None c = sym (width_one 19 c.args.value (omega (arith, c.in-None.ensures.none)))

pub returns-in-Some : goal.returns-in-Some
returns-in-Some c =
    let e = c.in-Some.ensures in
    sym (width_of 19 c.in-Some.power c.args.value (omega (arith, e.bound)) e.power_le e.next_power_gt)
