-- A total that is not the sum, a histogram that is not well formed, and the value that is found otherwise.
use Rattle.std.proofs.Common.{sym, refl, ◌∙◌, arith}
use Rattle.std.proofs.lemmas.Result.{err_from_is_err_and}
use Rattle.coder.proofs.Judgements.{histogram_true}
use Rattle.coder.proofs.Counts.{rose_small, summed_done, summed_refused, summed_unformed, summed_unlike}
use Rattle.coder.proofs.interval.Coder.take_summed.Goals as goal

pub returns-then-sum-from : goal.returns-then-sum-from
returns-then-sum-from c = summed_unlike c.args.bytes.now c.args.self c.args.frequencies.now _ (λ e. c.if-sum-from.true (c.total_of-sum.ensures ∙ e ∙ sym c.from.ensures))

pub returns-then-not-histogram_formed : goal.returns-then-not-histogram_formed
returns-then-not-histogram_formed c = summed_unformed c.args.bytes.now c.args.self c.args.frequencies.now _ (sym c.total_of-sum.ensures ∙ c.if-sum-from.false ∙ c.from.ensures) (sym c.histogram_formed.ensures ∙ c.if-not-histogram_formed.true)

pub read_formed-requires : goal.read_formed-requires
read_formed-requires c = record { pointed = c.requires.pointed; pending_bound = c.requires.pending_bound; totalled = record { formed = histogram_true _ (sym c.histogram_formed.ensures ∙ c.if-not-histogram_formed.false); summed = c.total_of-sum.ensures } }

pub returns-in_err-found : goal.returns-in_err-found
returns-in_err-found c =
    let a = c.args in
    let p = err_from_is_err_and c.from_residual.result c.from_residual.ensures.1 in
    rw (p.1, p.2)
    (summed_refused a.bytes.now a.self a.frequencies.now _ (sym c.total_of-sum.ensures ∙ c.if-sum-from.false ∙ c.from.ensures)
    (sym c.histogram_formed.ensures ∙ c.if-not-histogram_formed.false) _ _ c.in_err-found.ensures.result_value c.in_err-found.ensures.frequencies_after refl)

pub overflow_cast-total : goal.overflow_cast-total
overflow_cast-total c =
    let a = c.args in
    let formed = histogram_true a.frequencies.now (sym c.histogram_formed.ensures ∙ c.if-not-histogram_formed.false) in
    omega (arith, c.total_of.ensures, rose_small a.bytes.now a.self a.frequencies.now _ formed c.read_formed.ensures.frequencies_after)

pub returns : goal.returns
returns c =
    let a = c.args in
    rw c.total_of.ensures
    (summed_done a.bytes.now a.self a.frequencies.now _ (sym c.total_of-sum.ensures ∙ c.if-sum-from.false ∙ c.from.ensures)
    (sym c.histogram_formed.ensures ∙ c.if-not-histogram_formed.false) _ _ c.in_ok-found.ensures.result_value c.in_ok-found.ensures.frequencies_after refl)
