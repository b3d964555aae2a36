-- As many bits are postponed as straddle the middle.
use Rattle.std.proofs.Common.{sym, ◌∙◌, rules}
use Rattle.coder.proofs.Together.{postpone-all}
use Rattle.coder.proofs.interval.Coder.all_postponed.Goals as goal

pub returns : goal.returns
returns c = c.postponed_by.ensures ∙ sym (postpone-all _ c.args.self (search rules) c.straddling.ensures)
