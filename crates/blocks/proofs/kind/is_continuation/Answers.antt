-- Each kind decides.
use mathlib.Core.Path.{◌≡◌, refl}
use mathlib.Core.Bool.{false}
use Prim.Native.Nat.{ℕ}
use Rattle.blocks.specs.Kind.{is_continuation}
use Rattle.blocks.specs.declared.kind.Kind.{Kind}
use Rattle.blocks.specs.declared.kind.Kind.TheVariants.{Header, Declaration, Continuation, Unknown}
use Rattle.blocks.proofs.kind.is_continuation.Goals as goal

no_continuation : (kind : Kind) → ((block_type : ℕ) → kind ≡ Continuation block_type → ⊥) → false ≡ is_continuation kind
unfolding is_continuation
no_continuation Header n = refl
no_continuation (Declaration block_type) n = refl
no_continuation (Continuation block_type) n = absurd (n block_type refl)
no_continuation Unknown n = refl

pub returns-in-Continuation : goal.returns-in-Continuation
unfolding is_continuation
returns-in-Continuation c = rw c.in-Continuation.is refl

pub returns-in_default : goal.returns-in_default
returns-in_default c = no_continuation c.args.kind c.in_default.not-Continuation
