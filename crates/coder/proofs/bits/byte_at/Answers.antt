-- An element of the slice is what stands there, and past the end the default stands.
use Rattle.std.proofs.Common.{sym, rules}
use lib.ListN.{get_or-eq_default}
use Rattle.coder.proofs.bits.byte_at.Goals as goal

pub returns-else-i-bytes : goal.returns-else-i-bytes
returns-else-i-bytes c = sym (get_or-eq_default c.args.bytes.now 0 (search rules))
