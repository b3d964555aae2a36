-- Refused where the bits after it don't fit; else the byte is padded and the bits are put.
use Rattle.coder.proofs.Led.{holds, led_done, led_refused}
use Rattle.coder.specs.Inside.{Holds}
use Rattle.coder.specs.Interval.{Coder}
use Rattle.coder.specs.Symbols.{after_symbols, plain_spans}
use Rattle.std.proofs.Common.{◌∷◌, sym, ◌∙◌, arith, rules}
use Rattle.coder.proofs.write.Writer.write_led.Goals as goal

pub returns-then-not-has_room_led : goal.returns-then-not-has_room_led
returns-then-not-has_room_led c =
    let a = c.args in
    led_refused a.self a.buf.now a.compresses _ (sym c.has_room_led.ensures ∙ c.if-not-has_room_led.true)

pub put_led-next-requires : goal.put_led-next-requires
put_led-next-requires c =
    let a = c.args in
    let t : Coder = after_symbols a.self.coder (a.span ∷ plain_spans a.count a.rest) in
    let h : Holds a.buf.now t = holds t a.buf.now (search rules) (sym c.has_room_led.ensures ∙ c.if-not-has_room_led.false) in
    record { well_formed = (search rules, search rules, search rules); holds = omega (arith, h, c.pad.auto) }

pub returns-then-self : goal.returns-then-self
returns-then-self c =
    let a = c.args in
    led_done a.self a.buf.now a.compresses _ _ _ _ _ (sym c.has_room_led.ensures ∙ c.if-not-has_room_led.false)
    c.pad.ensures c.put_led-next.ensures.value c.put_led-next.ensures.buf_after (rw c.if-self.true)

pub returns-else-self : goal.returns-else-self
returns-else-self c =
    let a = c.args in
    led_done a.self a.buf.now a.compresses _ _ _ _ _ (sym c.has_room_led.ensures ∙ c.if-not-has_room_led.false)
    c.pad.ensures c.put_led-next.ensures.value c.put_led-next.ensures.buf_after (rw c.if-self.false)
