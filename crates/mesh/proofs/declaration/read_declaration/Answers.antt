-- The parts one after the other.
use Prim.Native.Nat.{◌+◌}
use mathlib.Core.Path.{◌∙◌, ◌≡◌, refl, sym}
use native.Mathlib.Omega.{arith}
use lib.ListN.{replicate}
use Rattle.std.proofs.lemmas.Result.{err_from_is_err_and}
use Rattle.mesh.specs.Declaration.{opening_rules}
use Rattle.mesh.specs.Inside.{rules_from}
use Rattle.mesh.proofs.Declarations.{count_few, declaration_joined, declaration_large, declaration_unnamed, described_refused, name_before, opening_refused, shadings_failed, shadings_told}
use Rattle.mesh.proofs.Runs.{run_failed, run_told}
use Rattle.mesh.proofs.declaration.read_declaration.Goals as goal

pub returns-then-s-gt-LARGEST_FILE : goal.returns-then-s-gt-LARGEST_FILE
returns-then-s-gt-LARGEST_FILE c = rw c.at.ensures (sym (declaration_large c.args.s.now c.if-s-gt-LARGEST_FILE.true))

pub returns-in_err-end : goal.returns-in_err-end
returns-in_err-end c =
    let p = err_from_is_err_and c.from_residual.result c.from_residual.ensures.1 in
    rw (p.1, p.2) (sym (declaration_unnamed c.args.s.now c.if-s-gt-LARGEST_FILE.false _ _ (sym c.in_err-end.ensures)))

pub returns-in_err-at : goal.returns-in_err-at
unfolding rules_from
returns-in_err-at c =
    let s = c.args.s.now in
    let p = err_from_is_err_and c.from_residual-in_err-at.result c.from_residual-in_err-at.ensures.1 in
    let n = name_before s _ (sym c.in_ok-end.ensures) in
    let f = run_failed opening_rules s _ _ _ _ _ c.in_err-at.ensures in
    rw (p.1, p.2) (sym (opening_refused s c.if-s-gt-LARGEST_FILE.false n.0 n.1 _ _ (rw n.2 at f)))

pub read_shadings-requires : goal.read_shadings-requires
unfolding rules_from
read_shadings-requires c =
    let s = c.args.s.now in
    let f = run_told opening_rules s _ c.read_run.new.values (replicate 9 0) _ _ refl c.in_ok-at.ensures in
    count_few s _ _ f.0

pub returns-in_err-shadings : goal.returns-in_err-shadings
unfolding rules_from
returns-in_err-shadings c =
    let s = c.args.s.now in
    let p = err_from_is_err_and c.from_residual-in_err-shadings.result c.from_residual-in_err-shadings.ensures.1 in
    let n = name_before s _ (sym c.in_ok-end.ensures) in
    let f = run_told opening_rules s _ c.read_run.new.values (replicate 9 0) _ _ refl c.in_ok-at.ensures in
    let g = shadings_failed _ s _ _ _ c.in_err-shadings.ensures in
    let z : c.in_ok-at.at ≡ n.0 + 38 = omega (arith, f.1, n.2) in
    rw (p.1, p.2) (sym (described_refused s c.if-s-gt-LARGEST_FILE.false n.0 n.1 _ (rw n.2 at f.0) _ _ (rw z at g)))

pub overflow_sub-end : goal.overflow_sub-end
overflow_sub-end c =
    let n = name_before c.args.s.now _ (sym c.in_ok-end.ensures) in
    omega (arith, n.2)

pub returns : goal.returns
unfolding rules_from
returns c =
    let s = c.args.s.now in
    let n = name_before s _ (sym c.in_ok-end.ensures) in
    let f = run_told opening_rules s _ c.read_run.new.values (replicate 9 0) _ _ refl c.in_ok-at.ensures in
    let g = shadings_told _ s _ _ c.in_ok-shadings.ensures (count_few s _ _ f.0) in
    let z : c.in_ok-at.at ≡ n.0 + 38 = omega (arith, f.1, n.2) in
    c.read_closing.ensures ∙ declaration_joined s c.if-s-gt-LARGEST_FILE.false n.0 n.1 _ (rw n.2 at f.0) g.0 _ _ z g.1 _ _ n.2 g.2
