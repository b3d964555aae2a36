-- A set has a bit at each of the 256 last bytes of its class and at no other, as antt computes; the tests then follow the definition.
use mathlib.Core.Path.{◌≡◌, refl, ap, ◌∙◌}
use mathlib.Core.Bool.{Bool, true, false}
use Prim.Native.Nat.{ℕ, ◌-◌, ◌/◌, ◌^◌, ◌%◌, ◌<◌}
use native.Mathlib.Omega.{arith}
use borrow.Author.Rules.{rules}
use borrow.Author.Tests.{eq-eqb, ne_eqb, eqb-true, ltb-false}
use lib.Dec.{eqb, ltb}
use Rattle.fields.specs.All.{all}
use Rattle.fields.proofs.All.{all_at}
use Rattle.fields.specs.Judged.{pick}
use Rattle.blocks.specs.Kind.{header_type, known_types, class_of, kind_of}
use Rattle.blocks.specs.declared.kind.Kind.{Kind}
use Rattle.blocks.specs.declared.kind.Kind.TheVariants.{Declaration, Continuation, Unknown}
use Rattle.blocks.proofs.kind.kind_of.Goals as goal

-- a set's bit at a last byte is that of the class
abbrev agrees : ℕ → ℕ → ℕ → Bool
agrees types class last = eqb (types / 2 ^ last % 2) (pick (eqb (class_of last) class) 1 0)

bit_told : (t : Bool) → eqb (pick t 1 0) 1 ≡ t
bit_told true = refl
bit_told false = refl

module _ (block_type : ℕ) where
  -- whether it is a known type of that class
  abbrev of_class : ℕ → Bool
  of_class class = pick (ltb block_type known_types) false (eqb (class_of (block_type - known_types)) class)

  module _ (types class : ℕ) {t : Bool} (most : block_type < 2 ^ 32) (same : all (agrees types class) 256 ≡ true) where
    above : (low : Bool) → ltb block_type known_types ≡ low → t ≡ pick low false (eqb (types / 2 ^ (block_type - known_types) % 2) 1)
        → t ≡ pick low false (eqb (class_of (block_type - known_types)) class)
    above true l e = e
    above false l e =
        let last : ℕ = block_type - known_types in
        let bit = eqb-true _ _ (all_at (agrees types class) 256 last same (omega (arith, ltb-false block_type known_types l))) in
        e ∙ ap (λ n. eqb n 1) bit ∙ bit_told (eqb (class_of last) class)

    tells : t ≡ pick (ltb block_type known_types) false (eqb (types / 2 ^ (block_type - known_types) % 2) 1) → t ≡ of_class class
    tells e = above (ltb block_type known_types) refl e

  abbrev kind_by : Bool → Bool → Kind
  kind_by d k = pick d (Declaration block_type) (pick k (Continuation block_type) Unknown)

  low_unknown : (low d k : Bool) → kind_by (pick low false d) (pick low false k) ≡ pick low Unknown (kind_by d k)
  low_unknown true d k = refl
  low_unknown false d k = refl

  kind_told : {d k : Bool} → (block_type ≡ header_type → ⊥) → d ≡ of_class 1 → k ≡ of_class 2 → kind_by d k ≡ kind_of block_type
  unfolding kind_of
  kind_told h p q = rw (ne_eqb block_type header_type h, p, q) (low_unknown (ltb block_type known_types) _ _)

pub returns-in-4469589 : goal.returns-in-4469589
unfolding kind_of
returns-in-4469589 c = rw (eq-eqb _ _ c.in-4469589.is)

pub returns-in_default : goal.returns-in_default
unfolding class_of
returns-in_default c =
    let type = c.args.block_type in
    let most = c.ranges.block_type.fits in
    kind_told type (search rules) (tells type _ 1 most refl c.if-has.ensures) refl

pub returns-in_default-2 : goal.returns-in_default-2
unfolding class_of
returns-in_default-2 c =
    let type = c.args.block_type in
    let most = c.ranges.block_type.fits in
    kind_told type (search rules) (tells type _ 1 most refl c.if-has.ensures) (tells type _ 2 most refl c.if-has-2.ensures)

pub returns-in_default-3 : goal.returns-in_default-3
unfolding class_of
returns-in_default-3 c =
    let type = c.args.block_type in
    let most = c.ranges.block_type.fits in
    kind_told type (search rules) (tells type _ 1 most refl c.if-has.ensures) (tells type _ 2 most refl c.if-has-2.ensures)
