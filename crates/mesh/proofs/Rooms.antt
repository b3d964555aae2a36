-- The caller's tables: their words, and the test for room.
use Prim.Native.Nat.{ℕ, zero, suc, ◌+◌, ◌≤◌, ◌<◌}
use mathlib.Core.Path.{◌≡◌}
use mathlib.Core.Bool.{true}
use mathlib.Core.List.{List}
use native.Mathlib.Nat.{mul-le-mul}
use native.Mathlib.Numerals.{add-one}
use native.Mathlib.Omega.{arith}
use borrow.Author.Tests.{leb-true}
use mir.Val.{Fits}
use mir.Syntax.{w32}
use lib.ListN.{get_or}
use Rattle.fields.proofs.All.{all_at}
use Rattle.mesh.specs.Base.{has_room, table_count, table_fits, widths, words_in}
use Rattle.mesh.specs.Inside.{words_before}

-- ---- words

-- no entry is wider than this
width_small : (i : ℕ) → get_or widths i 0 ≤ 255
width_small zero = omega arith
width_small (suc zero) = omega arith
width_small (suc (suc zero)) = omega arith
width_small (suc (suc (suc zero))) = omega arith
width_small (suc (suc (suc (suc zero)))) = omega arith
width_small (suc (suc (suc (suc (suc zero))))) = omega arith
width_small (suc (suc (suc (suc (suc (suc i)))))) = omega arith

-- so the words of a table are not too many
pub words_small : (counts : List ℕ) (i : ℕ) → Fits w32 (get_or counts i 0) → words_in counts i < 1099511627776
words_small counts i f =
    let h : get_or counts i 0 ≤ 4294967295 = omega arith in
    omega (arith, mul-le-mul (width_small i) h)

pub before_more : (counts : List ℕ) (i sum words : ℕ) → sum ≡ words_before counts i → words ≡ words_in counts (i + 1) → sum + words ≡ words_before counts (i + 1)
unfolding words_before
before_more counts i sum words e f = rw (add-one, words_before, e, f, add-one)

-- ---- the test for room

pub room_at : (lengths counts : List ℕ) → has_room lengths counts ≡ true → (i : ℕ) → i < table_count → words_in counts i ≤ get_or lengths i 0
room_at lengths counts e i h = leb-true _ _ (all_at (table_fits lengths counts) table_count i e h)
