-- The table's entry is the byte with its bits reversed.
use Rattle.std.proofs.Common.{ℕ, List, length, get_or, ap, ◌∙◌, arith}
use Rattle.coder.proofs.Reversal.{reversed_small, table_at, table_length}
use Rattle.coder.proofs.reverse.reversed.Goals as goal

pub bounds-table-b : goal.bounds-table-b
bounds-table-b c = omega (arith, ap (λ (l : List ℕ). length l) c.requires.0, table_length)

pub returns : goal.returns
returns c =
    let e = c.from.ensures ∙ ap (λ (l : List ℕ). get_or l c.args.b 0) c.requires.0 ∙ table_at c.args.b c.requires.1 in
    record { value = e; upper_bound = omega (arith, e, reversed_small c.args.b) }
