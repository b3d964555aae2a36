-- The next symbol, the value that it leads to, and the frequencies after it.
use Rattle.std.proofs.Common.{◌≡◌, ◌+◌, ◌-◌, ◌^◌, ◌<◌, arith}
use Rattle.coder.proofs.Dynamics.{dynamic_answer, dynamic_kept, read_escaped, read_value}
use Rattle.coder.proofs.Limits.{after_grown}
use Rattle.coder.specs.Bytes.{bit_at}
use Rattle.coder.specs.Histogram.{span_of}
use Rattle.coder.specs.Inside.{Reading, found_as}
use Rattle.coder.specs.Interval.{after_symbol}
use Rattle.coder.specs.Values.{read_dynamic, read_plain}
use Rattle.coder.proofs.interval.Coder.read_formed.Goals as goal
use Rattle.coder.proofs.interval.Coder.read_formed.Goals.{After-after-state}

-- the symbol adds few bits
state-near : (c : After-after-state) → c.after-state.result.settled + c.after-state.result.pending < 2 ^ 33 + 32
state-near c =
    let grown = after_grown c.args.self c.span_at.result in
    rw c.after-state.ensures (omega (arith, grown, c.requires.pending_bound.0))

pub span_at-requires : goal.span_at-requires
span_at-requires c =
    let k = c.next_symbol-symbol.ensures in
    (omega (arith, k.inside), k.before_it)

pub after-state-requires : goal.after-state-requires
after-state-requires c =
    let p = c.requires in
    record { well_formed = p.pointed.reading.limits; room = record { room = omega (arith, p.pending_bound.0) }; codable = rw c.span_at.ensures c.next_symbol-symbol.ensures.codable }

pub overflow_cast-index : goal.overflow_cast-index
overflow_cast-index c = omega (arith, c.next_symbol-symbol.ensures.inside)

pub counted-requires : goal.counted-requires
counted-requires c =
    let p = c.requires.pending_bound in
    let inside = c.next_symbol-symbol.ensures.inside in
    record { len_le_largest_file = (p.1, omega (arith, inside)); totalled = c.requires.totalled }

pub returns-then-index-ne0 : goal.returns-then-index-ne0
returns-then-index-ne0 c =
    let a = c.args in
    let k = c.next_symbol-symbol in
    let found = found_as (k.result.index - 1) c.after-state.result in
    let e : found ≡ read_dynamic a.frequencies.now (bit_at a.bytes.now) a.self =
    rw (c.after-state.ensures, c.span_at.ensures)
    (read_value a.frequencies.now (bit_at a.bytes.now) a.self k.result.index k.ensures.same c.if-index-ne0.true) in record { result_value = dynamic_answer a.frequencies.now a.bytes.now a.self k.result.index found k.ensures.same e _ (c.counted.ensures.result_value a.self); frequencies_after = dynamic_kept a.frequencies.now a.bytes.now a.self k.result.index found k.ensures.same e _ c.counted.ensures.frequencies_after }

pub code-requires : goal.code-requires
code-requires c = omega (arith, state-near (goal.at.code-requires c).After-after-state)

pub plain_value-found-requires : goal.plain_value-found-requires
plain_value-found-requires c =
    let x = bit_at c.args.bytes.now in
    let reading : Reading c.after-state.result x =
    rw (c.after-state.ensures, c.span_at.ensures) c.next_symbol-symbol.ensures.reading in
    record { pointed = record { reading = reading; same = c.code.ensures }; pending_bound = (state-near (goal.at.plain_value-found-requires c).After-after-state, omega arith, omega arith) }

pub counted-requires-2 : goal.counted-requires-2
counted-requires-2 c =
    let p = c.requires.pending_bound in
    let inside = c.next_symbol-symbol.ensures.inside in
    record { len_le_largest_file = (p.1, omega (arith, inside)); totalled = c.requires.totalled }

pub returns : goal.returns
returns c =
    let a = c.args in
    let k = c.next_symbol-symbol in
    let found = c.plain_value-found.result in
    let span = c.span_at.ensures in
    let state = c.after-state.ensures in
    let escape = c.if-index-ne0.false in
    let escaped : found ≡ read_plain 4 (bit_at a.bytes.now) (after_symbol a.self (span_of a.frequencies.now k.result.index)) =
    rw (← span, ← state) c.plain_value-found.ensures in
    let e : found ≡ read_dynamic a.frequencies.now (bit_at a.bytes.now) a.self =
    read_escaped a.frequencies.now (bit_at a.bytes.now) a.self k.result.index found k.ensures.same escape escaped in record { result_value = dynamic_answer a.frequencies.now a.bytes.now a.self k.result.index found k.ensures.same e _ (c.counted-2.ensures.result_value a.self); frequencies_after = dynamic_kept a.frequencies.now a.bytes.now a.self k.result.index found k.ensures.same e _ c.counted-2.ensures.frequencies_after }
