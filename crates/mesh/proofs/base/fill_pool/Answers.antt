-- The pool's words are one run, and zeros follow them.
use Prim.Native.Nat.{◌*◌, ◌+◌, ◌-◌, suc, ℕ}
use mathlib.Core.Path.{◌∙◌, ◌≡◌, ap}
use native.Mathlib.Numerals.{add-one}
use native.Mathlib.Omega.{arith}
use lib.ListN.{length}
use Rattle.mesh.specs.Base.{words_in}
use Rattle.mesh.proofs.Bases.{pool_read, pool_within}
use Rattle.mesh.proofs.base.fill_pool.Goals as goal

pub returns : goal.returns
returns c =
    let a = c.args in
    let parts = c.split_at_mut-pool.ensures in
    let long : length c.split_at_mut-pool.result.0.now ≡ words_in a.counts (suc a.k)
    = parts.front_len ∙ c.words_in.ensures.0 ∙ ap (words_in a.counts) (add-one a.k) in
    let start = ap (λ (w : ℕ). a.at + 4 * w) c.words_before.ensures.0 in
    let h = pool_read a.s.now c.type_inv.s a.at a.counts a.k c.read_run.result _ c.read_run.new.values _ _ start long
    (omega (arith, start, long, pool_within a.counts a.at a.k, c.requires.k_bound.1)) c.read_run.ensures in
    let rest : length a.table.now - length c.read_run.new.values ≡ length c.split_at_mut-pool.result.1.now
    = omega (arith, parts.front_len, parts.back_len, c.read_run.auto.values) in
    rw (← h, c.fill.ensures.after (λ y e. e), rest)
