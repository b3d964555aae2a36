use Rattle.std.proofs.Common.{◌≡◌, ℕ, ◌+◌, ◌*◌, ◌^◌, ◌<◌, ◌≤◌}
use Rattle.coder.specs.Bytes.{bit_at}
use Rattle.coder.specs.Inside.{Reading}
use Rattle.coder.specs.Interval.{Coder, code}
use Rattle.coder.specs.Stream.{Stream}
use Rattle.coder.specs.Values.{read_plain}
use Rattle.coder.proofs.Stepping.{whole_of}
use Rattle.coder.proofs.interval.Coder.plain_value.Given as goal

-- what holds at the loop's head
pub record Left (x : Stream) (count : ℕ) (s₀ s : Coder) (number value place left : ℕ) : Type 0 where
  pub same : whole_of value place (read_plain left x s) ≡ read_plain count x s₀
  pub reading : Reading s x
  pub pointed : number ≡ code s x
  pub some : 1 ≤ left
  pub below : value < place
  pub small : place * 256 ^ left ≤ 2 ^ 32
  pub near : s.settled + s.pending + 32 * left < 2 ^ 33 + 160

abbrev pub invariant-loop-left : goal.invariant-loop-left
invariant-loop-left l = Left (bit_at l.bytes) l.count l.initial.s l.s l.number l.value l.place l.left

abbrev pub decreases-loop-left : goal.decreases-loop-left
decreases-loop-left l = l.left
