-- A base mesh is read back: its head is a name and a run of seven fields, each pool is a run of unjudged fields as long as its count says, and
-- what is left after them is what was coded.
use Prim.Native.Nat.{ℕ, zero, suc, ◌+◌, ◌*◌, ◌≤◌, ◌<◌, zero-le}
use lib.ListN.{drop, get_or, length, length-append, replicate}
use mathlib.Core.Bool.{true}
use mathlib.Core.List.{List, [], ◌∷◌, ◌++◌, append_assoc, append-nil, map}
use mathlib.Core.Path.{◌≡◌, refl, subst, sym, ◌∙◌}
use native.Mathlib.Nat.{add-zero, zero-add}
use native.Mathlib.Omega.{arith}
use borrow.Author.Tests.{le-ltb}
use Rattle.fields.specs.Limits.{any_number, largest_count}
use Rattle.fields.specs.Judged.{done}
use Rattle.mesh.specs.Run.{unjudged}
use Rattle.mesh.specs.Faces.{faces_of}
use Rattle.mesh.specs.Base.{Mesh, base_count, base_of, base_rules, has_room, head_of, pool_words, pools_at, smaller}
use Rattle.fields_theorems.proofs.Seams.{past}
use Rattle.fields_theorems.proofs.FieldsBack.{after_name, after_words, length_word_bytes, name_back, name_part_lem, same_name}
use Rattle.mesh_theorems.specs.Encoding.{All, Stated, UpTo, Words, base_bytes, pool_bytes, word_bytes}
use Rattle.mesh_theorems.proofs.FieldsBack.{Kept, Keeps, keeps_words, run_back}
use Rattle.mesh_theorems.proofs.Seams.{values_at}

-- ---- the head

-- what all have, the one at an index has, and so has the 0 past the end
pub at_most : (most : ℕ) (l : List ℕ) (i : ℕ) → All (UpTo most) l → get_or l i 0 ≤ most
unfolding All
at_most most [] i a = zero-le
at_most most (v ∷ l) zero a = a.0
at_most most (v ∷ l) (suc i) a = at_most most l i a.1

-- base counts within the limits and the declaration keep the rules of a head
module _ (name : List ℕ) (m : Mesh) (h : Stated name m) where
  count_kept : (i : ℕ) → i < 6 → Kept (base_count 0 (get_or m.declaration.counts i 0)) (get_or m.counts i 0)
  count_kept i l = omega (arith, at_most largest_count m.counts i h.small, h.below i l)

  positions_kept : (let least = m.declaration.minimum_resolution in
      Kept (base_count least (smaller (get_or m.declaration.counts 1 0) least)) (get_or m.counts 1 0))
  positions_kept =
      let few = count_kept 1 (omega arith) in
      let least = m.declaration.minimum_resolution in
      let most = get_or m.declaration.counts 1 0 in
      rw (le-ltb most least (omega (arith, few, h.positions))) (omega (arith, few, h.positions))

  head_kept : Keeps (base_rules m.declaration) (0 ∷ m.counts)
  unfolding Keeps base_rules
  head_kept =
      let six = values_at m.counts m.counts [] 0 6 (sym (append-nil m.counts)) h.six in
      let c₀ = count_kept 0 (omega arith) in
      let c₂ = count_kept 2 (omega arith) in
      let c₃ = count_kept 3 (omega arith) in
      let c₄ = count_kept 4 (omega arith) in
      let c₅ = count_kept 5 (omega arith) in
      subst (λ (l : List ℕ). Keeps (base_rules m.declaration) (0 ∷ l)) six (omega arith, (c₀, (positions_kept, (c₂, (c₃, (c₄, (c₅, tt)))))))

-- The head of a base mesh within the limits is read to its counts, and ends after them.
pub head_back : (name : List ℕ) (m : Mesh) (coded : List ℕ) → Stated name m
    → head_of (base_bytes name m coded) name m.declaration ≡ done (record { value = m.counts; next = length name + 30 })
unfolding head_of base_bytes
head_back name m coded h =
    let s = base_bytes name m coded in
    let rest = pool_bytes m.pools ++ coded in
    let fields = word_bytes (0 ∷ m.counts) ++ rest in
    let named = name_back s name fields 0 h.declared.short refl in
    let part = name_part_lem s name fields 0 h.declared.short refl in
    let here : drop (length name + 2) s ≡ fields = rw zero-add at (after_name s name fields 0 refl) in
    let read = run_back (base_rules m.declaration) s (0 ∷ m.counts) rest (length name + 2) (head_kept name m h) here in
    let counts = values_at (0 ∷ m.counts) m.counts [] 1 6 (sym (append-nil m.counts)) h.six in
    rw (named, part, same_name name, read, counts)

-- what follows the head
after_head : (name : List ℕ) (m : Mesh) (coded : List ℕ) → Stated name m
    → drop (length name + 30) (base_bytes name m coded) ≡ pool_bytes m.pools ++ coded
unfolding base_bytes
after_head name m coded h =
    let s = base_bytes name m coded in
    let rest = pool_bytes m.pools ++ coded in
    let e : length name + 2 + 28 ≡ length name + 30 = omega arith in
    let here = rw zero-add at (after_name s name (word_bytes (0 ∷ m.counts) ++ rest) 0 refl) in
    rw (← e) (after_words s (0 ∷ m.counts) rest (length name + 2) 28 here (omega (arith, h.six)))

-- ---- the pools

-- Pools are read to themselves, and end after their bytes.
pub pools_back : (s rest : List ℕ) (at : ℕ) (pools : List (List ℕ)) → All (All (UpTo any_number)) pools → drop at s ≡ pool_bytes pools ++ rest
    → pools_at (map length pools) s at ≡ done (record { value = pools; next = at + length (pool_bytes pools) })
unfolding pools_at pool_bytes All
pools_back s rest at [] a here = rw (add-zero at)
pools_back s rest at (pool ∷ more) a here =
    let bytes = here ∙ append_assoc (word_bytes pool) (pool_bytes more) rest in
    let next = after_words s pool (pool_bytes more ++ rest) at (4 * length pool) bytes refl in
    let words : Words (length pool) pool = record { many = refl; small = a.0 } in
    let read = run_back (replicate (length pool) unjudged) s pool (pool_bytes more ++ rest) at (keeps_words pool (length pool) words) bytes in
    let end : at + 4 * length pool + length (pool_bytes more) ≡ at + length (word_bytes pool ++ pool_bytes more) =
    omega (arith, length-append (word_bytes pool) (pool_bytes more), length_word_bytes pool) in
    rw (read, pools_back s rest (at + 4 * length pool) more a.1 next, end)

-- The pools of a base mesh are read to themselves from where its head ends,
pub base_pools : (name : List ℕ) (m : Mesh) (coded : List ℕ) → Stated name m
    → pools_at (pool_words m.counts) (base_bytes name m coded) (length name + 30)
    ≡ done (record { value = m.pools; next = length name + 30 + length (pool_bytes m.pools) })
base_pools name m coded h =
    let s = base_bytes name m coded in
    let here = after_head name m coded h in
    rw (← h.pooled) (pools_back s coded (length name + 30) m.pools h.words here)

-- and what is left after them is what was coded.
pub base_coded : (name : List ℕ) (m : Mesh) (coded : List ℕ) → Stated name m
    → drop (length name + 30 + length (pool_bytes m.pools)) (base_bytes name m coded) ≡ coded
base_coded name m coded h =
    past (base_bytes name m coded) (pool_bytes m.pools) coded (length name + 30) (after_head name m coded h) (length (pool_bytes m.pools)) refl

-- ---- the whole

-- A base mesh within the limits is read under its declaration to exactly itself, where its tables have room and its faces are read from what
-- was coded.
pub base_back : (name : List ℕ) (m : Mesh) (coded lengths : List ℕ) → Stated name m → has_room lengths m.counts ≡ true
    → faces_of m.declaration m.counts (get_or m.counts 0 0) coded ≡ done m.faces
    → base_of (base_bytes name m coded) name m.declaration lengths ≡ done m
unfolding base_of
base_back name m coded lengths h room faces =
    rw (head_back name m coded h, room, base_pools name m coded h, base_coded name m coded h, faces)
