-- What the write of a symbol and three plain bytes answers is what the end answers.
use Rattle.coder.proofs.Finishing.{zero_done, zero_refused, zero_small}
use Rattle.coder.proofs.Sequence.{byte_codable}
use Rattle.std.proofs.Common.{refl, arith, rules}
use Rattle.std.proofs.lemmas.Result.{err_from_is_err_and}
use Rattle.coder.proofs.write.Writer.end_zero.Goals as goal

pub write_led-requires : goal.write_led-requires
write_led-requires c = record { well_formed = search rules; codable = (rw c.byte_span.ensures (byte_codable 0), omega arith); holds = c.requires.1 }

pub returns-in_err-writer : goal.returns-in_err-writer
returns-in_err-writer c =
    let a = c.args in
    let p = err_from_is_err_and c.from_residual.result c.from_residual.ensures.1 in
    rw (p.1, p.2) (zero_refused a.buf.now a.self _ _ c.byte_span.ensures c.in_err-writer.ensures refl)

pub bytes_of-requires : goal.bytes_of-requires
bytes_of-requires c =
    let a = c.args in
    zero_small a.buf.now a.self _ _ c.byte_span.ensures c.in_ok-writer.ensures refl c.requires.1

pub returns : goal.returns
returns c =
    let a = c.args in
    zero_done a.buf.now a.self _ _ c.byte_span.ensures c.in_ok-writer.ensures refl _ c.bytes_of.ensures
