-- A run of bits stands in a stream where each of its bits stands.
use Rattle.std.proofs.Common.{◌≡◌, ℕ, zero, suc, ◌+◌, ◌<◌, ◌≤◌, List, [], ◌∷◌, ◌++◌, length, get_or, replicate, sym, ap, ◌∙◌, le_of_suc-le-suc, not-suc-le-zero, add-zero, add-suc, suc-add, arith}
use Rattle.coder.specs.Stream.{Carries, Stream}
use lib.ListN.{get_or-replicate, length-replicate}

-- bit by bit
pub carries_at : (x : Stream) (l : List ℕ) (p : ℕ) → Carries x p l → (i : ℕ) → i < length l → x (p + i) ≡ get_or l i 0
unfolding Carries
carries_at x [] p c i h = absurd (not-suc-le-zero h)
carries_at x (b ∷ l) p c zero h = ap x (add-zero p) ∙ c.0
carries_at x (b ∷ l) p c (suc i) h = ap x (add-suc p i ∙ sym (suc-add p i)) ∙ carries_at x l (suc p) c.1 i (le_of_suc-le-suc h)

pub carries_replicate : (x : Stream) (n b p : ℕ) → Carries x p (replicate n b) → (i : ℕ) → i < n → x (p + i) ≡ b
carries_replicate x n b p c i h = carries_at x (replicate n b) p c i (rw length-replicate h) ∙ get_or-replicate n i b 0 h

-- both parts of a run
pub carries_append : (x : Stream) (u v : List ℕ) (p : ℕ) → Carries x p (u ++ v) → Carries x p u × Carries x (p + length u) v
unfolding Carries
carries_append x [] v p c = (tt, rw add-zero c)
carries_append x (b ∷ u) v p c =
    let r : Carries x (suc p) u × Carries x (suc p + length u) v = carries_append x u v (suc p) c.1 in
    let next : suc p + length u ≡ p + suc (length u) = omega arith in
    ((c.0, r.0), rw next at r.1)

-- what stands before a place stands in every stream that is the same before it
pub carries_kept : (x y : Stream) (l : List ℕ) (p q : ℕ) → ((i : ℕ) → i < q → y i ≡ x i) → p + length l ≤ q → Carries x p l → Carries y p l
unfolding Carries
carries_kept x y [] p q e h c = tt
carries_kept x y (b ∷ l) p q e h c = (e p (omega arith) ∙ c.0, carries_kept x y l (suc p) q e (omega arith) c.1)
