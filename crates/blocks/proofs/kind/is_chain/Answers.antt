-- Each kind decides.
use mathlib.Core.Path.{◌≡◌, refl}
use mathlib.Core.Bool.{false}
use Prim.Native.Nat.{ℕ}
use Rattle.blocks.specs.Kind.{is_chain}
use Rattle.blocks.specs.declared.kind.Kind.{Kind}
use Rattle.blocks.specs.declared.kind.Kind.TheVariants.{Header, Declaration, Continuation, Unknown}
use Rattle.blocks.proofs.kind.is_chain.Goals as goal

no_declaration : (kind : Kind) → ((block_type : ℕ) → kind ≡ Declaration block_type → ⊥) → false ≡ is_chain kind
unfolding is_chain
no_declaration Header n = refl
no_declaration (Declaration block_type) n = absurd (n block_type refl)
no_declaration (Continuation block_type) n = refl
no_declaration Unknown n = refl

pub returns-in-Declaration : goal.returns-in-Declaration
unfolding is_chain
returns-in-Declaration c = rw c.in-Declaration.is refl

pub returns-in_default : goal.returns-in_default
returns-in_default c = no_declaration c.args.kind c.in_default.not-Declaration
