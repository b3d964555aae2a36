-- Past its bits a number has none.
use mathlib.Core.Path.{◌≡◌, refl}
use mathlib.Core.Bool.{false}
use Prim.Native.Nat.{ℕ, ◌-◌, ◌/◌, ◌^◌, ◌%◌, ◌≤◌, ◌<◌}
use native.Mathlib.Nat.{div-eq_of_lt}
use native.Mathlib.Omega.{arith}
use borrow.Author.Tests.{le-ltb}
use lib.Dec.{eqb}
use lib.Pow.{pow_mono}
use Rattle.blocks.specs.Kind.{known_types}
use Rattle.blocks.proofs.kind.has.Goals as goal

none_above : (n place : ℕ) → n < 2 ^ 128 → 128 ≤ place → eqb (n / 2 ^ place % 2) 1 ≡ false
none_above n place h l = let below : n < 2 ^ place = omega (arith, pow_mono l) in rw (div-eq_of_lt below) refl

pub returns-else-last-lt-BITS : goal.returns-else-last-lt-BITS
returns-else-last-lt-BITS c =
    let block_type = c.args.block_type in
    let last : ℕ = block_type - known_types in
    rw (le-ltb block_type known_types c.if-block_type-lt-KNOWN_TYPES.false, none_above c.args.types last c.ranges.types.fits c.if-last-lt-BITS.false)
    (le-ltb last 128 c.if-last-lt-BITS.false)
