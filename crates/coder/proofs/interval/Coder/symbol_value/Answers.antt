-- The symbol that the number points to, and the state after it.
use Rattle.std.proofs.Common.{◌≡◌, rules}
use Rattle.coder.specs.Bytes.{bit_at}
use Rattle.coder.specs.Interval.{target}
use Rattle.coder.specs.Values.{Found, symbol_value}
use Rattle.coder.proofs.Forward.{static_codable}
use Rattle.coder.proofs.Stepping.{symbol_stepped}
use Rattle.coder.proofs.Streams.{bit_binary}
use Rattle.coder.proofs.interval.Coder.symbol_value.Goals as goal

pub target-value-requires : goal.target-value-requires
target-value-requires c = let r = c.requires.pointed.reading in let e = c.requires.pointed.same in record { well_formed = (r.limits, rw e r.from_low, rw e r.to_high); le_total = (search rules, search rules) }

pub after-requires : goal.after-requires
unfolding target
after-requires c = let r = c.requires.pointed.reading in record { well_formed = r.limits; room = search rules; codable = rw (c.static_span.ensures, c.target-value.ensures, c.requires.pointed.same) (static_codable c.args.self c.args.range (bit_at c.args.bytes.now) r (search rules) (search rules)) }

pub returns : goal.returns
unfolding target
returns c = let x = bit_at c.args.bytes.now in
    let e : ◌≡◌ {A = Found} (record { value = c.target-value.result; state = c.after.result }) (symbol_value c.args.range x c.args.self) =
    rw (c.after.ensures, c.static_span.ensures, c.target-value.ensures, c.requires.pointed.same) in
    record { value = e; stepped = rw e (symbol_stepped c.args.range x c.args.self (bit_binary c.args.bytes.now) c.requires.pointed.reading (search rules) (search rules)) }
