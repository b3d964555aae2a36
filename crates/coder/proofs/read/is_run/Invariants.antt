use Rattle.std.proofs.Common.{◌≡◌, ◌+◌, ◌-◌, ◌*◌, length}
use Rattle.coder.specs.Bytes.{bit_at}
use Rattle.coder.specs.Forms.{is_run}
use Rattle.coder.proofs.read.is_run.Given as goal

abbrev pub invariant-loop-at : goal.invariant-loop-at
invariant-loop-at l =
    (is_run (bit_at l.bytes) l.at (l.from + l.count - l.at) l.bit ≡ is_run (bit_at l.bytes) l.from l.count l.bit) × (l.bits ≡ 8 * length l.bytes)
