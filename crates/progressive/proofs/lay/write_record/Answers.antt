-- The given fields are stored over the absent ones.
use Rattle.std.proofs.Common.{length-set, rules}
use Rattle.progressive.proofs.Laying.{record_written}
use Rattle.progressive.proofs.lay.write_record.Goals as goal

pub bounds-faces-start-2 : goal.bounds-faces-start-2
bounds-faces-start-2 c = rw length-set (search rules)

pub bounds-faces-start-3 : goal.bounds-faces-start-3
bounds-faces-start-3 c = rw (length-set, length-set) (search rules)

pub bounds-faces-start-4 : goal.bounds-faces-start-4
bounds-faces-start-4 c = rw (length-set, length-set, length-set) (search rules)

pub returns : goal.returns
returns c =
    let a = c.args in
    record_written a.steps.now a.at a.faces.now a.start c.fill.ensures
