-- Both lengths, the declaration, and the continuation are judged; then each table is filled.
use mathlib.Core.Path.{sym}
use native.Mathlib.Omega.{arith}
use Rattle.std.proofs.lemmas.Result.{err_from_is_err_and}
use Rattle.mesh.specs.Base.{held, lengths_of}
use Rattle.mesh.specs.Inside.{judged_given}
use Rattle.mesh.specs.declared.base.Part.TheVariants as part
use Rattle.mesh.proofs.Bases.{answered_read, answered_refused, base_large, mesh_done, mesh_large, mesh_refused, mesh_undeclared, placed_done, placed_refused, pool_fits, sized_small}
use Rattle.mesh.proofs.Declarations.{shadings_few}
use Rattle.mesh.proofs.base.read_mesh.Goals as goal

pub returns-in_err-in_part : goal.returns-in_err-in_part
returns-in_err-in_part c =
    let a = c.args in
    let t = held a.tables in
    let q = err_from_is_err_and c.from_residual.result c.from_residual.ensures.1 in
    let p = placed_refused part.Declaration c.sized.result c.in_err-in_part.field-0.0 c.in_err-in_part.ensures in
    let e = sym (rw p.0 at c.sized.ensures) in
    let f = answered_refused _ _ _ _ t (mesh_large a.declaration.now a.continuation.now (lengths_of t) _ _ e) in
    record { result_value = rw (q.1, q.2, p.1) f.0; left = f.1 }

pub returns-in_err-in_part-2 : goal.returns-in_err-in_part-2
returns-in_err-in_part-2 c =
    let a = c.args in
    let t = held a.tables in
    let q = err_from_is_err_and c.from_residual-in_err-in_part-2.result c.from_residual-in_err-in_part-2.ensures.1 in
    let p = placed_refused part.Continuation c.sized-2.result c.in_err-in_part-2.field-0.0 c.in_err-in_part-2.ensures in
    let small = sym (rw (placed_done part.Declaration c.sized.result tt c.in_ok-in_part.ensures) at c.sized.ensures) in
    let e = sym (rw p.0 at c.sized-2.ensures) in
    let f = answered_refused _ _ _ _ t (base_large a.declaration.now a.continuation.now (lengths_of t) small _ _ e) in
    record { result_value = rw (q.1, q.2, p.1) f.0; left = f.1 }

pub returns-in_err-fields : goal.returns-in_err-fields
returns-in_err-fields c =
    let a = c.args in
    let t = held a.tables in
    let q = err_from_is_err_and c.from_residual-in_err-fields.result c.from_residual-in_err-fields.ensures.1 in
    let p = placed_refused part.Declaration c.read_declaration.result c.in_err-fields.field-0.0 c.in_err-fields.ensures in
    let small = sym (rw (placed_done part.Declaration c.sized.result tt c.in_ok-in_part.ensures) at c.sized.ensures) in
    let short = sym (rw (placed_done part.Continuation c.sized-2.result tt c.in_ok-in_part-2.ensures) at c.sized-2.ensures) in
    let e = sym (rw p.0 at c.read_declaration.ensures) in
    let f = answered_refused _ _ _ _ t (mesh_undeclared a.declaration.now a.continuation.now (lengths_of t) small short _ _ e) in
    record { result_value = rw (q.1, q.2, p.1) f.0; left = f.1 }

pub returns-in_err-base : goal.returns-in_err-base
unfolding judged_given
returns-in_err-base c =
    let a = c.args in
    let t = held a.tables in
    let q = err_from_is_err_and c.from_residual-in_err-base.result c.from_residual-in_err-base.ensures.1 in
    let p = placed_refused part.Continuation c.judge_base.result c.in_err-base.field-0.0 c.in_err-base.ensures in
    let small = sym (rw (placed_done part.Declaration c.sized.result tt c.in_ok-in_part.ensures) at c.sized.ensures) in
    let short = sym (rw (placed_done part.Continuation c.sized-2.result tt c.in_ok-in_part-2.ensures) at c.sized-2.ensures) in
    let d = sym (rw (placed_done part.Declaration c.read_declaration.result c.in_ok-fields.fields c.in_ok-fields.ensures) at c.read_declaration.ensures) in
    let e = sym (rw (p.0, c.lengths.ensures, c.mesh_name-name.ensures) at c.judge_base.ensures.result_value) in
    let f = answered_refused _ _ _ _ t (mesh_refused a.declaration.now a.continuation.now (lengths_of t) small short _ d _ _ e) in
    record { result_value = rw (q.1, q.2, p.1) f.0; left = f.1 }

pub judge_base-requires : goal.judge_base-requires
judge_base-requires c =
    let short = sym (rw (placed_done part.Continuation c.sized-2.result tt c.in_ok-in_part-2.ensures) at c.sized-2.ensures) in
    let d = sym (rw (placed_done part.Declaration c.read_declaration.result c.in_ok-fields.fields c.in_ok-fields.ensures) at c.read_declaration.ensures) in
    (sized_small _ short, shadings_few _ _ d)

pub fill_pool-requires-clause-k_bound : goal.fill_pool-requires-clause-k_bound
fill_pool-requires-clause-k_bound c =
    let a = c.args in
    let j = placed_done part.Continuation c.judge_base.result c.in_ok-base.base c.in_ok-base.ensures in
    let fits = rw c.lengths.ensures at c.judge_base.ensures.judged_fits in
    pool_fits a.continuation.now c.in_ok-fields.fields (held a.tables) c.judge_base.result fits c.in_ok-base.base j 0 (omega arith)

pub fill_pool-requires-2-clause-k_bound : goal.fill_pool-requires-2-clause-k_bound
fill_pool-requires-2-clause-k_bound c =
    let a = c.args in
    let j = placed_done part.Continuation c.judge_base.result c.in_ok-base.base c.in_ok-base.ensures in
    let fits = rw c.lengths.ensures at c.judge_base.ensures.judged_fits in
    pool_fits a.continuation.now c.in_ok-fields.fields (held a.tables) c.judge_base.result fits c.in_ok-base.base j 1 (omega arith)

pub fill_pool-requires-3-clause-k_bound : goal.fill_pool-requires-3-clause-k_bound
fill_pool-requires-3-clause-k_bound c =
    let a = c.args in
    let j = placed_done part.Continuation c.judge_base.result c.in_ok-base.base c.in_ok-base.ensures in
    let fits = rw c.lengths.ensures at c.judge_base.ensures.judged_fits in
    pool_fits a.continuation.now c.in_ok-fields.fields (held a.tables) c.judge_base.result fits c.in_ok-base.base j 2 (omega arith)

pub fill_pool-requires-4-clause-k_bound : goal.fill_pool-requires-4-clause-k_bound
fill_pool-requires-4-clause-k_bound c =
    let a = c.args in
    let j = placed_done part.Continuation c.judge_base.result c.in_ok-base.base c.in_ok-base.ensures in
    let fits = rw c.lengths.ensures at c.judge_base.ensures.judged_fits in
    pool_fits a.continuation.now c.in_ok-fields.fields (held a.tables) c.judge_base.result fits c.in_ok-base.base j 3 (omega arith)

pub fill_faces-requires-clause-shading_count_bound : goal.fill_faces-requires-clause-shading_count_bound
fill_faces-requires-clause-shading_count_bound c =
    let d = sym (rw (placed_done part.Declaration c.read_declaration.result c.in_ok-fields.fields c.in_ok-fields.ensures) at c.read_declaration.ensures) in
    shadings_few _ _ d

pub returns : goal.returns
unfolding judged_given
returns c =
    let a = c.args in
    let t = held a.tables in
    let small = sym (rw (placed_done part.Declaration c.sized.result tt c.in_ok-in_part.ensures) at c.sized.ensures) in
    let short = sym (rw (placed_done part.Continuation c.sized-2.result tt c.in_ok-in_part-2.ensures) at c.sized-2.ensures) in
    let d = sym (rw (placed_done part.Declaration c.read_declaration.result c.in_ok-fields.fields c.in_ok-fields.ensures) at c.read_declaration.ensures) in
    let p = placed_done part.Continuation c.judge_base.result c.in_ok-base.base c.in_ok-base.ensures in
    let e = sym (rw (p, c.lengths.ensures, c.mesh_name-name.ensures) at c.judge_base.ensures.result_value) in
    let m = mesh_done a.declaration.now a.continuation.now (lengths_of t) small short _ d _ e in
    let f = answered_read a.continuation.now c.in_ok-fields.fields c.in_ok-base.base.value c.in_ok-base.base.next _ t _ m c.fill_faces.ensures c.fill_pool.ensures
    c.fill_pool-2.ensures c.fill_pool-3.ensures c.fill_pool-4.ensures c.fill_pool-5.ensures in
    record { result_value = rw c.counts_of.ensures f.0; left = f.1 }
