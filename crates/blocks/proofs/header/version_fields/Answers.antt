-- Each field is read and judged in turn.
use borrow.Author.Tests.{eq-eqb, ne_eqb}
use mathlib.Core.List.{[], ◌∷◌}
use Rattle.blocks.specs.Header.{version_of}
use Rattle.blocks.proofs.Members.{one_of, none_of}
use Rattle.fields.proofs.Judging.{handed_on}
use Rattle.blocks.proofs.header.version_fields.Goals as goal

pub returns-in_err-major : goal.returns-in_err-major
unfolding version_of
returns-in_err-major c = rw (handed_on _ _ c.from_residual.ensures.1, ← c.in_err-major.ensures)

pub returns-then-major-ne0 : goal.returns-then-major-ne0
unfolding version_of
returns-then-major-ne0 c = rw (c.at.ensures, ← c.in_ok-major.ensures, ne_eqb _ _ c.if-major-ne0.true)

pub returns-in_err-minor : goal.returns-in_err-minor
unfolding version_of
returns-in_err-minor c = rw (handed_on _ _ c.from_residual-in_err-minor.ensures.1, ← c.in_ok-major.ensures, eq-eqb _ _ c.if-major-ne0.false, ← c.in_err-minor.ensures)

pub returns-in_err-profile : goal.returns-in_err-profile
unfolding version_of
returns-in_err-profile c = rw (handed_on _ _ c.from_residual-in_err-profile.ensures.1, ← c.in_ok-major.ensures, eq-eqb _ _ c.if-major-ne0.false, ← c.in_ok-minor.ensures, ← c.in_err-profile.ensures)

pub returns-in-0 : goal.returns-in-0
unfolding version_of
returns-in-0 c = rw (← c.in_ok-major.ensures, eq-eqb _ _ c.if-major-ne0.false, ← c.in_ok-minor.ensures, ← c.in_ok-profile.ensures, one_of c.in_ok-profile.profile 0 (2 ∷ 8 ∷ 10 ∷ []) c.in-0.is)

pub returns-in_default : goal.returns-in_default
unfolding version_of
returns-in_default c = rw (c.at-in_default.ensures, ← c.in_ok-major.ensures, eq-eqb _ _ c.if-major-ne0.false, ← c.in_ok-minor.ensures, ← c.in_ok-profile.ensures, none_of c.in_ok-profile.profile 0 (2 ∷ 8 ∷ 10 ∷ []) c.in_default.in_default-own.rest.1)
