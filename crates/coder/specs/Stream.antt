-- A bit stream: a number 0 or 1 at every place, and how a run of bits stands in it.
use Rattle.std.specs.Prelude.{◌≡◌, ℕ, zero, suc, ◌+◌, ◌*◌, ◌≤◌, List, [], ◌∷◌}

-- the bit at each place
abbrev pub Stream : Type 0
Stream = ℕ → ℕ

-- every bit is 0 or 1
abbrev pub Binary : Stream → Type 0
Binary x = (i : ℕ) → x i ≤ 1

-- the number that n bits from place p make, the first of them the highest
unfoldable pub word : Stream → ℕ → ℕ → ℕ
word x p zero = 0
word x p (suc n) = 2 * word x p n + x (p + n)

-- the bits stand in the stream from place p
unfoldable pub Carries : Stream → ℕ → List ℕ → Type 0
Carries x p [] = Unit {0}
Carries x p (b ∷ bs) = (x p ≡ b) × Carries x (suc p) bs
