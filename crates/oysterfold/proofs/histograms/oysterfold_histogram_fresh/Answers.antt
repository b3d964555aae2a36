-- A histogram that is too short, or the fresh frequencies stored.
use Rattle.coder.specs.Histogram.{fresh_histogram}
use Rattle.oysterfold.proofs.Words.{stored_front, stored_short, stored_whole}
use Rattle.oysterfold.proofs.histograms.oysterfold_histogram_fresh.Goals as goal

pub returns-in_default : goal.returns-in_default
returns-in_default c = stored_short fresh_histogram c.args.histogram.now c.in_default.ensures.cases

pub returns : goal.returns
returns c =
    let long = c.in-Some.ensures.cases.enough in
    stored_whole fresh_histogram c.args.histogram.now long (rw c.fresh_histogram.ensures (stored_front fresh_histogram c.args.histogram.now long))
