-- The answer of the value; a refused one leaves the frequencies.
use Rattle.std.proofs.Common.{refl, ◌∙◌}
use Rattle.std.proofs.lemmas.Result.{err_from_is_err_and}
use Rattle.coder.specs.Inside.{found_as}
use Rattle.coder.proofs.Dynamics.{counted_got, counted_kept, counted_left}
use Rattle.coder.proofs.interval.Coder.counted.Goals as goal

pub returns-in_err-found : goal.returns-in_err-found
returns-in_err-found c =
    let p = err_from_is_err_and c.from_residual.result c.from_residual.ensures.1 in
    rw (p.1, p.2) record { result_value = c.in_err-found.ensures; frequencies_after = counted_left c.args.len c.args.self (found_as c.args.value c.args.self) _ (c.in_err-found.ensures c.args.self) _ _ refl }

pub raise_after-requires : goal.raise_after-requires
raise_after-requires c =
    let below = counted_got c.args.len c.args.self (found_as c.args.value c.args.self) _ (c.in_ok-found.ensures c.args.self) refl in
    (c.requires.len_le_largest_file.1, below, c.requires.totalled)

pub returns : goal.returns
returns c = record { result_value = c.in_ok-found.ensures; frequencies_after = c.raise_after.ensures ∙ counted_kept c.args.len c.args.self (found_as c.args.value c.args.self) _ (c.in_ok-found.ensures c.args.self) _ _ refl }
