-- Where there is room for the most bits that may come there is room; else the state after them tells.
use Rattle.std.proofs.Common.{◌+◌, ◌*◌, ◌∷◌, sym, ◌∙◌, arith, rules, le-leb}
use Rattle.coder.specs.Interval.{Coder}
use Rattle.coder.specs.Symbols.{after_symbols, plain_spans}
use Rattle.coder.proofs.Led.{after_led, led_most}
use Rattle.coder.proofs.Limits.{after_grown, after_wellformed}
use Rattle.coder.proofs.interval.Coder.has_room_led.Goals as goal

pub returns-then-self-len : goal.returns-then-self-len
returns-then-self-len c =
    let a = c.args in
    let t : Coder = after_symbols a.self (a.span ∷ plain_spans a.count a.value) in
    rw (le-leb _ _ c.if-self-len.true) (sym (le-leb (t.settled + t.pending) (8 * a.len) (omega (arith, led_most a.self a.span a.count a.value))))

pub after_plain-requires : goal.after_plain-requires
after_plain-requires c =
    let a = c.args in
    rw c.after.ensures record { well_formed = after_wellformed _ _ (search rules) (search rules); room = omega (arith, after_grown a.self a.span) }

pub returns-else-self-len : goal.returns-else-self-len
returns-else-self-len c = c.has_room.ensures ∙ rw (after_led _ _ _ _ _ c.after.ensures c.after_plain.ensures)
