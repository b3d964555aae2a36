use Rattle.std.proofs.Common.{◌≡◌, ◌+◌, length}
use Rattle.coder.specs.Bytes.{put_bits}
use Rattle.coder.specs.Together.{bits_up}
use Rattle.coder.proofs.bits.put_up.Given as goal

abbrev pub invariant-loop-left : goal.invariant-loop-left
invariant-loop-left l = (put_bits l.buf l.at (bits_up l.left l.rest) ≡ put_bits l.initial.buf l.from (bits_up l.count l.value)) × (l.at + l.left ≡ l.from + l.count) × (length l.buf ≡ length l.initial.buf)

abbrev pub decreases-loop-left : goal.decreases-loop-left
decreases-loop-left l = l.left
