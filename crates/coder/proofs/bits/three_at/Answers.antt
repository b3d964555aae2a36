-- Each byte is below 256, there or past the end.
use Rattle.std.proofs.Common.{ℕ, ◌+◌, arith}
use Rattle.coder.proofs.bits.three_at.Goals as goal

pub overflow_mul-result : goal.overflow_mul-result
overflow_mul-result c = omega (arith, c.type_inv.bytes (c.args.i + 1))

pub overflow_add-result-then-i-bytes : goal.overflow_add-result-then-i-bytes
overflow_add-result-then-i-bytes c =
    let known = c.type_inv.bytes in
    let i : ℕ = c.args.i in
    omega (arith, known i, known (i + 1))

pub overflow_mul-result-then-i-bytes : goal.overflow_mul-result-then-i-bytes
overflow_mul-result-then-i-bytes c = omega (arith, c.type_inv.bytes (c.args.i + 2))

pub returns-then-i-bytes : goal.returns-then-i-bytes
returns-then-i-bytes c =
    let known = c.type_inv.bytes in
    let i : ℕ = c.args.i in
    record { value = rw (c.from.ensures, c.from-then-i-bytes.ensures, c.from-then-i-bytes-2.ensures); upper_bound = omega (arith, known i, known (i + 1), known (i + 2)) }

pub overflow_mul-result-2 : goal.overflow_mul-result-2
overflow_mul-result-2 c = omega (arith, c.type_inv.bytes (c.args.i + 1))

pub overflow_add-result-2 : goal.overflow_add-result-2
overflow_add-result-2 c =
    let known = c.type_inv.bytes in
    let i : ℕ = c.args.i in
    omega (arith, known i, known (i + 1))

pub overflow_mul-result-3 : goal.overflow_mul-result-3
overflow_mul-result-3 c = omega (arith, c.type_inv.bytes (c.args.i + 2))

pub overflow_add-result-3 : goal.overflow_add-result-3
overflow_add-result-3 c =
    let known = c.type_inv.bytes in
    let i : ℕ = c.args.i in
    omega (arith, known i, known (i + 1), known (i + 2))

pub returns : goal.returns
returns c =
    let known = c.type_inv.bytes in
    let i : ℕ = c.args.i in
    record { value = rw (c.byte_at-3.ensures, c.byte_at-2.ensures, c.byte_at.ensures); upper_bound = omega (arith, known i, known (i + 1), known (i + 2)) }
