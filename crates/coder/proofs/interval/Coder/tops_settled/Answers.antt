-- As many bits are settled as agree.
use Rattle.std.proofs.Common.{sym, ◌∙◌}
use Rattle.coder.proofs.Together.{settle_together}
use Rattle.coder.proofs.interval.Coder.tops_settled.Goals as goal

pub returns : goal.returns
returns c = c.settled_by.ensures ∙ sym (settle_together c.agreeing.result c.args.self c.agreeing.ensures)
