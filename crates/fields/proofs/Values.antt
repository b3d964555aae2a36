-- A constant table that is the list of a rule's values has the rule's value at each place. That the table is that list is computed
-- where the law is used, so the table is not written down again.
use mathlib.Core.Path.{◌≡◌, ap, ◌∙◌}
use mathlib.Core.List.{List, [], ◌∷◌}
use Prim.Native.Nat.{ℕ, zero, suc, ◌+◌, ◌<◌}
use native.Mathlib.Omega.{arith}
use lib.ListN.{get_or}

-- the rule's values at n numbers from i on
abbrev pub values : (ℕ → ℕ) → ℕ → ℕ → List ℕ
values rule i zero = []
values rule i (suc n) = rule i ∷ values rule (suc i) n

values-from : (rule : ℕ → ℕ) (n i k : ℕ) → k < n → get_or (values rule i n) k 0 ≡ rule (i + k)
values-from rule zero i k h = absurd (omega arith)
values-from rule (suc n) i zero h = let e : i ≡ i + 0 = omega arith in ap rule e
values-from rule (suc n) i (suc k) h = let e : suc i + k ≡ i + suc k = omega arith in values-from rule n (suc i) k (omega arith) ∙ ap rule e

pub value_at : (rule : ℕ → ℕ) (n k : ℕ) → k < n → get_or (values rule 0 n) k 0 ≡ rule k
value_at rule n k h = let e : 0 + k ≡ k = omega arith in values-from rule n 0 k h ∙ ap rule e
