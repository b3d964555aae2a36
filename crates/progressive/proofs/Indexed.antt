-- Laws of `writes` and `shows`: stores at distinct indices can be read back, leave the rest as it was and are undone by the stores of what
-- stood there.
use Rattle.std.proofs.Common.{◌≡◌, ℕ, zero, suc, ◌+◌, ◌-◌, ◌<◌, ◌≤◌, Bool, true, false, ◌&&◌, eqb, ◌≢◌, List, length, get_or, set, subst, sym, refl, ap, ◌∙◌, ⊎_elim, le_of_suc-le-suc, not-suc-le-zero, eq-or-lt_of_le, add-one, arith, length-set, length-drop, length-take, length-take-le, get_or-drop, get_or-take, drop, take, replicate, get_or-set_other, get_or-set_same, set-set, eq-eqb, ne_eqb, eqb-true}
use mathlib.Core.Bool.{and-false, and-true}
use native.Mathlib.Numerals.{unary_clauses}
use lib.Seq.{set-get_or, set_comm}
use Rattle.fields.specs.Judged.{pick}
use Rattle.fields.proofs.All.{all_true}
use borrow.Rule.Slice.PartMut.{put_mid}
use Rattle.std.proofs.Math.Seq.{paste}
use Rattle.std.proofs.lemmas.List.Edits.{fill_from_more, paste_none}
use Rattle.std.proofs.lemmas.List.{length-replicate}
use Rattle.std.proofs.lemmas.Slice.{put_mid-paste}
use Rattle.progressive.specs.Indexed.{always, from, shows, writes}

pub and_left : (a b : Bool) → a && b ≡ true → a ≡ true
and_left true b e = refl
and_left false b e = e

pub and_right : (a b : Bool) → a && b ≡ true → b ≡ true
and_right true b e = e
and_right false b e = let z : ◌≡◌ {A = Bool} true false = sym e in cc

-- no two of the first n indices are the same
abbrev pub Distinct : (ℕ → ℕ) → ℕ → Type 0
Distinct ix n = (i j : ℕ) → i < j → j < n → ix j ≢ ix i

-- k is none of the first n indices
abbrev pub Apart : (ℕ → ℕ) → ℕ → ℕ → Type 0
Apart ix n k = (i : ℕ) → i < n → k ≢ ix i

pub length_writes : (ix val : ℕ → ℕ) (l : List ℕ) (n : ℕ) → length (writes ix val l n) ≡ length l
length_writes ix val l zero = refl
length_writes ix val l (suc n) = length-set (writes ix val l n) (ix n) (val n) ∙ length_writes ix val l n

-- what stands at another index stays
pub get_d_apart : (ix val : ℕ → ℕ) (l : List ℕ) (n k : ℕ) → Apart ix n k → get_or (writes ix val l n) k 0 ≡ get_or l k 0
get_d_apart ix val l zero k h = refl
get_d_apart ix val l (suc n) k h =
    get_or-set_other (writes ix val l n) (ix n) k (val n) 0 (h n (omega arith))
    ∙ get_d_apart ix val l n k (λ i b. h i (omega arith))

-- what was stored is read back
pub get_d_writes : (ix val : ℕ → ℕ) (l : List ℕ) (n i : ℕ) → Distinct ix n → i < n → ix i < length l → get_or (writes ix val l n) (ix i) 0 ≡ val i
get_d_writes ix val l zero i d b inside = absurd (not-suc-le-zero b)
get_d_writes ix val l (suc n) i d b inside =
    ⊎_elim
    (λ q.
    let kept : length (writes ix val l n) ≡ length l = length_writes ix val l n in
    let last : ix n < length l = rw q at inside in
    rw q (get_or-set_same (writes ix val l n) (ix n) (val n) 0 (omega arith)))
    (λ c.
    get_or-set_other (writes ix val l n) (ix n) (ix i) (val n) 0 (λ e. d i n c (omega arith) (sym e))
    ∙ get_d_writes ix val l n i (λ a b x y. d a b x (omega arith)) c inside)
    (eq-or-lt_of_le (le_of_suc-le-suc b))

pub shows-writes : (ix val : ℕ → ℕ) (l : List ℕ) (n : ℕ) → Distinct ix n → ((i : ℕ) → i < n → ix i < length l) → shows ix val (writes ix val l n) n ≡ true
shows-writes ix val l n d inside =
    all_true _ n (λ i b. eq-eqb _ _ (get_d_writes ix val l n i d b (inside i b)))

-- a store elsewhere may go first or last
pub writes_set : (ix val : ℕ → ℕ) (l : List ℕ) (n k v : ℕ) → Apart ix n k → writes ix val (set l k v) n ≡ set (writes ix val l n) k v
writes_set ix val l zero k v h = refl
writes_set ix val l (suc n) k v h =
    ap (λ (r : List ℕ). set r (ix n) (val n)) (writes_set ix val l n k v (λ i b. h i (omega arith)))
    ∙ set_comm (writes ix val l n) k (ix n) v (val n) (h n (omega arith))

-- storing what stood there undoes the stores
pub writes_back : (ix old new : ℕ → ℕ) (l : List ℕ) (n : ℕ) → Distinct ix n → shows ix old l n ≡ true → writes ix old (writes ix new l n) n ≡ l
writes_back ix old new l zero d e = refl
writes_back ix old new l (suc n) d e =
    let shown : get_or l (ix n) 0 ≡ old n = eqb-true _ _ (and_right (shows ix old l n) (eqb (get_or l (ix n) 0) (old n)) e) in
    let earlier : writes ix old (writes ix new l n) n ≡ l = writes_back ix old new l n (λ a b x y. d a b x (omega arith)) (and_left (shows ix old l n) (eqb (get_or l (ix n) 0) (old n)) e) in
    rw (writes_set ix old (writes ix new l n) n (ix n) (new n) (λ i b. d i n b (omega arith)), earlier, set-set, ← shown) (set-get_or l (ix n) 0)

-- stores that go on where others ended
pub writes_on : (at : ℕ) (val next : ℕ → ℕ) (l : List ℕ) (m n : ℕ) → ((q : ℕ) → q < n → next q ≡ val (m + q))
    → writes (from (at + m)) next (writes (from at) val l m) n ≡ writes (from at) val l (m + n)
writes_on at val next l m zero h = simp unary_clauses
writes_on at val next l m (suc n) h =
    let place : at + m + n ≡ at + (m + n) = omega arith in
    simp unary_clauses (rw (writes_on at val next l m n (λ q b. h q (omega arith)), h n (omega arith), place))

-- the values with another one at k
abbrev pub values_with : (ℕ → ℕ) → ℕ → ℕ → ℕ → ℕ
values_with val k v i = pick (eqb i k) v (val i)

with_later : (at : ℕ) (val : ℕ → ℕ) (k v : ℕ) (l : List ℕ) (n : ℕ) → n ≤ k → writes (from at) (values_with val k v) l n ≡ writes (from at) val l n
with_later at val k v l zero h = refl
with_later at val k v l (suc n) h = rw (with_later at val k v l n (omega arith), ne_eqb n k (λ e. omega arith))

-- another last value is one more store
with_last : (at : ℕ) (val : ℕ → ℕ) (v : ℕ) (l : List ℕ) (n : ℕ)
    → writes (from at) (values_with val n v) l (suc n) ≡ set (writes (from at) val l (suc n)) (at + n) v
with_last at val v l n =
    rw (eq-eqb n n refl, set-set) (ap (λ (m : List ℕ). set m (at + n) v) (with_later at val n v l n (omega arith)))

-- another value at k is one more store
pub writes_with : (at : ℕ) (val : ℕ → ℕ) (k v : ℕ) (l : List ℕ) (n : ℕ) → k < n
    → writes (from at) (values_with val k v) l n ≡ set (writes (from at) val l n) (at + k) v
writes_with at val k v l zero h = absurd (not-suc-le-zero h)
writes_with at val k v l (suc n) h =
    ⊎_elim
    (λ q.
    subst (λ (j : ℕ). writes (from at) (values_with val j v) l (suc n) ≡ set (writes (from at) val l (suc n)) (at + j) v) (sym q) (with_last at val v l n))
    (λ c.
    rw (writes_with at val k v l n c, ne_eqb n k (λ e. omega arith)) (set_comm (writes (from at) val l n) (at + k) (at + n) v (val n) (λ e. omega arith)))
    (eq-or-lt_of_le (le_of_suc-le-suc h))

-- ---- a loop that writes: one more turn, at the code's i + 1; the end

-- a loop that writes keeps this of the table, where l is the table it began with and i the turns done
pub record Written (ix val : ℕ → ℕ) (l cur : List ℕ) (i : ℕ) : Type 0 where
  pub is : cur ≡ writes ix val l i
  pub long : length cur ≡ length l

pub written_none : {ix val : ℕ → ℕ} {l : List ℕ} → Written ix val l l 0
written_none = record { is = refl; long = refl }

module _ {ix val : ℕ → ℕ} {l cur : List ℕ} {i : ℕ} (w : Written ix val l cur i) where
  pub written_more : {k v : ℕ} → k ≡ ix i → v ≡ val i → Written ix val l (set cur k v) (i + 1)
  written_more {k} {v} at is-val = record {
    is = rw (at, is-val, add-one) (ap (λ (x : List ℕ). set x (ix i) (val i)) w.is);
    long = length-set cur k v ∙ w.long;
  }

  pub written_done : {n : ℕ} → i ≤ n → n ≤ i → cur ≡ writes ix val l n
  written_done {n} a b = let q : i ≡ n = omega arith in rw q at w.is

-- ---- a loop that looks at every index: b is its answer so far
module _ (ix val : ℕ → ℕ) (l : List ℕ) (i : ℕ) {b : Bool} (so_far : b ≡ shows ix val l i) where
  pub still_shown : get_or l (ix i) 0 ≡ val i → b ≡ shows ix val l (i + 1)
  still_shown same = rw (add-one i, eq-eqb (get_or l (ix i) 0) (val i) same, and-true) so_far

  pub not_shown : (get_or l (ix i) 0 ≡ val i → ⊥) → false ≡ shows ix val l (i + 1)
  not_shown differ = rw (add-one i, ne_eqb (get_or l (ix i) 0) (val i) differ, and-false)

-- ---- a comparison in parts, one after the other
and_assoc : (a b c : Bool) → (a && b) && c ≡ a && (b && c)
and_assoc true b c = refl
and_assoc false b c = refl

pub shows_on : (at : ℕ) (val next : ℕ → ℕ) (l : List ℕ) (m n : ℕ) → ((q : ℕ) → q < n → next q ≡ val (m + q))
    → shows (from at) val l (m + n) ≡ (shows (from at) val l m && shows (from (at + m)) next l n)
shows_on at val next l m zero h = simp (unary_clauses, and-true)
shows_on at val next l m (suc n) h =
    let place : at + m + n ≡ at + (m + n) = omega arith in
    simp unary_clauses
    (rw (shows_on at val next l m n (λ q b. h q (omega arith)), ← h n (omega arith), ← place)
    (and_assoc (shows (from at) val l m) (shows (from (at + m)) next l n) (eqb (get_or l (at + m + n) 0) (next n))))

-- a number, then three parts of w
pub shows_parts : (i : ℕ) (val first second third : ℕ → ℕ) (l : List ℕ) (w : ℕ) → ((q : ℕ) → q < w → first q ≡ val (1 + q))
    → ((q : ℕ) → q < w → second q ≡ val (1 + w + q)) → ((q : ℕ) → q < w → third q ≡ val (1 + w + w + q))
    → shows (from i) val l (1 + w + w + w)
    ≡ (eqb (get_or l i 0) (val 0) && (shows (from (i + 1)) first l w && (shows (from (i + (1 + w))) second l w && shows (from (i + (1 + w + w))) third l w)))
shows_parts i val first second third l w a b c =
    let start : i + 0 ≡ i = omega arith in
    let x : Bool = eqb (get_or l i 0) (val 0) in
    let y : Bool = shows (from (i + 1)) first l w in
    let z : Bool = shows (from (i + (1 + w))) second l w in
    let last : Bool = shows (from (i + (1 + w + w))) third l w in
    shows_on i val third l (1 + w + w) w c
    ∙ rw (shows_on i val second l (1 + w) w b, shows_on i val first l 1 w a, start) (and_assoc (x && y) z last ∙ and_assoc x y (z && last))

-- a first test that passed, where it compares two numbers
pub first-same : {x v : ℕ} {b y : Bool} → x ≡ v → b ≡ y → b ≡ eqb x v && y
first-same {x} {v} h e = rw (eq-eqb x v h) e

-- ---- a part that is filled with one value

pasted : (l : List ℕ) (at v n : ℕ) → at + n ≤ length l → writes (from at) (always v) l n ≡ paste l at (replicate n v) n
pasted l at v zero h = paste_none l at (replicate 0 v)
pasted l at v (suc n) h = rw (pasted l at v n (omega arith)) (rw (add-one n) at (fill_from_more l at n v (omega arith)))

-- the part `l[at..at + n]`
pub part_long : (l : List ℕ) (at n : ℕ) → at + n ≤ length l → length (take (at + n - at) (drop at l)) ≡ n
part_long l at n h =
    let count : at + n - at ≡ n = omega arith in
    let rest : n ≤ length (drop at l) = omega (arith, length-drop at l) in
    rw count (length-take-le n (drop at l) rest)

pub part_at : (l : List ℕ) (at n i : ℕ) → i < length (take (at + n - at) (drop at l)) → get_or (take (at + n - at) (drop at l)) i 0 ≡ get_or l (at + i) 0
part_at l at n i h =
    let inside : i < at + n - at = omega (arith, length-take (at + n - at) (drop at l)) in
    get_or-take (at + n - at) (drop at l) i 0 inside ∙ get_or-drop at l i 0

pub filled_part : (l : List ℕ) (at v n : ℕ) {part : List ℕ} → at + n ≤ length l → part ≡ replicate (length (take (at + n - at) (drop at l))) v
    → put_mid at (at + n - at) l part ≡ writes (from at) (always v) l n
filled_part l at v n h e =
    let count : at + n - at ≡ n = omega arith in
    put_mid-paste at (at + n - at) l _ (replicate n v) n (rw (part_long l at n h) at e) (sym count) (sym (length-replicate n v)) ∙ sym (pasted l at v n h)
