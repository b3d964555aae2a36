-- The settled bits against the end; then the symbol's frequency and the total rise.
use Rattle.coder.proofs.Counts.{quick_cut, quick_done}
use Rattle.std.proofs.Common.{arith}
use Rattle.coder.proofs.interval.Coder.take_quick.Goals as goal

pub returns-then-next-len : goal.returns-then-next-len
returns-then-next-len c = quick_cut c.args.len c.args.self c.args.frequencies.now _ c.args.symbol.index _ _ c.requires.start_value c.after-next.ensures (omega arith)

pub returns : goal.returns
returns c =
    quick_done c.args.len c.args.self c.args.frequencies.now _ c.args.symbol.index _ _ c.requires.start_value c.after-next.ensures (omega arith) (omega (arith, c.requires.index_nonzero))
