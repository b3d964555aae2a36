-- Laws of tests: two that pass together pass each, and judgements that come to 0 were all passed.
use Rattle.std.proofs.Common.{◌≡◌, ℕ, zero, suc, ◌<◌, Bool, true, false, ◌&&◌, refl, ap, ◌∙◌, arith}
use Rattle.fields.specs.Numbers.{fault_number}
use Rattle.fields.specs.declared.refusal.Fault.{Fault}
use Rattle.fields.specs.declared.refusal.Fault.TheVariants as fault
use Rattle.coder.specs.Forms.{first, unless}
use Rattle.coder.specs.Writing.{kept}
use mathlib.Core.Bool.{false≢true}

-- two tests that pass together pass each, and the other way round
pub and_both : (a b : Bool) → (a && b) ≡ true → (a ≡ true) × (b ≡ true)
and_both true b e = (refl, e)
and_both false b e = absurd (false≢true e)

pub both_and : (a b : Bool) → a ≡ true → b ≡ true → (a && b) ≡ true
both_and a b e f = rw (e, f)

-- a judgement that comes to 0 was passed, and so were the later ones
pub unless-zero : (test : Bool) (number later : ℕ) → 0 < number → unless test number later ≡ 0 → (test ≡ true) × (later ≡ 0)
unless-zero true number later some e = (refl, e)
unless-zero false number later some e = absurd (omega arith)

pub first-zero : (number later : ℕ) → first number later ≡ 0 → (number ≡ 0) × (later ≡ 0)
first-zero zero later e = (refl, e)
first-zero (suc n) later e = absurd (omega arith)

pub first_some : (n later : ℕ) → (n ≡ 0 → ⊥) → n ≡ first n later
first_some zero later some = absurd (some refl)
first_some (suc n) later some = refl

-- a refused call leaves what it was lent
pub kept_refused : {A : Type 0} {n m : ℕ} (later lent : A) → (n ≡ 0 → ⊥) → n ≡ m → lent ≡ kept m later lent
kept_refused {A} {n} {m} later lent some same = go n some ∙ ap (λ (k : ℕ). kept k later lent) same
  where
    go : (k : ℕ) → (k ≡ 0 → ⊥) → lent ≡ kept k later lent
    go zero other = absurd (other refl)
    go (suc k) other = refl

pub kept_same : {A : Type 0} {n m : ℕ} {then : A} (later lent : A) → n ≡ m → then ≡ kept n later lent → then ≡ kept m later lent
kept_same later lent e k = rw (← e) k

-- a fault has a number
pub fault_some : (f : Fault) → fault_number f ≡ 0 → ⊥
fault_some fault.Truncated e = omega arith
fault_some fault.BadHeader e = omega arith
fault_some fault.BadSize e = omega arith
fault_some fault.BadProfile e = omega arith
fault_some fault.BadPadding e = omega arith
fault_some fault.UnknownType e = omega arith
fault_some fault.BadChain e = omega arith
fault_some fault.BadName e = omega arith
fault_some fault.OverLimit e = omega arith
fault_some fault.OutOfRange e = omega arith
fault_some fault.OutOfOrder e = omega arith
fault_some fault.NoRoom e = omega arith
fault_some fault.BadSteps e = omega arith
fault_some fault.NotAllowed e = omega arith
fault_some fault.CountsDisagree e = omega arith
fault_some fault.NoStep e = omega arith
fault_some fault.BytesLeft e = omega arith
fault_some fault.BadState e = omega arith
