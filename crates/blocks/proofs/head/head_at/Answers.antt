-- Each number is read in turn, or is missing.
use mathlib.Core.Path.{sym}
use native.Mathlib.Omega.{arith}
use Rattle.blocks.specs.Head.{head_at}
use Rattle.fields.proofs.Judging.{handed_on, field_within}
use Rattle.blocks.proofs.head.head_at.Goals as goal

pub returns-in_err-block_type : goal.returns-in_err-block_type
unfolding head_at
returns-in_err-block_type c = rw (handed_on _ _ c.from_residual.ensures.1, ← c.in_err-block_type.ensures)

pub overflow_add-at : goal.overflow_add-at
overflow_add-at c = omega (arith, field_within 4 _ _ _ (sym c.in_ok-block_type.ensures))

pub returns-in_err-data_size : goal.returns-in_err-data_size
unfolding head_at
returns-in_err-data_size c = rw (handed_on _ _ c.from_residual-in_err-data_size.ensures.1, ← c.in_ok-block_type.ensures, ← c.in_err-data_size.ensures)

pub overflow_add-at-2 : goal.overflow_add-at-2
overflow_add-at-2 c = omega (arith, field_within 4 _ _ _ (sym c.in_ok-data_size.ensures))

pub returns-in_err-meta_size : goal.returns-in_err-meta_size
unfolding head_at
returns-in_err-meta_size c = rw (handed_on _ _ c.from_residual-in_err-meta_size.ensures.1, ← c.in_ok-block_type.ensures, ← c.in_ok-data_size.ensures, ← c.in_err-meta_size.ensures)

pub returns : goal.returns
unfolding head_at
returns c = rw (← c.in_ok-block_type.ensures, ← c.in_ok-data_size.ensures, ← c.in_ok-meta_size.ensures)
