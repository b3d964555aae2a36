-- Stores at indices that a function gives, and a test of what stands there.
use Rattle.std.specs.Prelude.{ℕ, zero, suc, ◌+◌, Bool, List, nat_eq, slice_index, slice_set}
use Rattle.fields.specs.All.{all}

-- `l` after the stores of `val i` at `ix i`, for i = 0, 1, .. below n
abbrev pub writes : (ℕ → ℕ) → (ℕ → ℕ) → List ℕ → ℕ → List ℕ
writes ix val l zero = l
writes ix val l (suc n) = slice_set (writes ix val l n) (ix n) (val n)

-- `l` holds `val i` at `ix i`, for each i below n
abbrev pub shows : (ℕ → ℕ) → (ℕ → ℕ) → List ℕ → ℕ → Bool
shows ix val l n = all (λ i. nat_eq (slice_index l (ix i)) (val i)) n

-- the same value at every index
abbrev pub always : ℕ → ℕ → ℕ
always v i = v

-- one index after the other, from a on
abbrev pub from : ℕ → ℕ → ℕ
from a i = a + i
