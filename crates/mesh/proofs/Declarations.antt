-- The parts of a declaration, one after the other.
use Prim.Native.Nat.{ℕ, zero, suc, ◌+◌, ◌-◌, ◌*◌, ◌≤◌, ◌<◌}
use mathlib.Core.Path.{◌≡◌, ◌∙◌, ap, refl, sym}
use mathlib.Core.List.{List, [], ◌∷◌, ◌++◌}
use native.Mathlib.Numerals.{add-one}
use native.Mathlib.Omega.{arith}
use borrow.Author.Tests.{le-ltb, lt-ltb}
use lib.Dec.{ltb}
use lib.ListN.{drop, get_or, length, length-replicate, replicate, set}
use lib.Seq.{sets}
use Rattle.fields.specs.Field.{field_at}
use Rattle.fields.specs.Judged.{done, refused}
use Rattle.fields.specs.Limits.{largest_file}
use Rattle.fields.specs.Name.{name_at}
use Rattle.fields.specs.Numbers.{bytes_left, over_limit}
use Rattle.fields.proofs.Judging.{passed, refusal_before, value_before}
use Rattle.mesh.specs.Run.{filled, run_at, unjudged}
use Rattle.mesh.specs.Shading.{layer_limit, no_shading, no_shadings, shading_at, shading_limit, shading_rules, shadings_at}
use Rattle.mesh.specs.Declaration.{closing_rules, declaration_of, declaration_with, opening_rules}
use Rattle.mesh.specs.Inside.{closing_at, name_end, stored_shadings}
use Rattle.mesh.specs.declared.declaration.Declaration.{Declaration}
use Rattle.mesh.specs.declared.run.Ended.{Ended}
use Rattle.mesh.specs.declared.shading.Shading.{Shading}
use Rattle.mesh.proofs.Chains.{drop_replicate, on_mapped, sets_filled}
use Rattle.mesh.proofs.Runs.{run_length, run_limited}

-- ---- the fields after the shadings

module _ (s : List ℕ) (from size : ℕ) (head : List ℕ) (shadings : List Shading) where
  pub closing_refused : (n p : ℕ) → run_at closing_rules s from ≡ refused n p → closing_at s from size head shadings ≡ refused n p
  unfolding closing_at
  closing_refused n p e = rw e

  module _ (tail : List ℕ) (end : ℕ) (e : run_at closing_rules s from ≡ done tail) (f : end ≡ from + 56) where
    pub closing_left : end < length s → closing_at s from size head shadings ≡ refused bytes_left end
    unfolding closing_at
    closing_left h = let h' : from + 56 < length s = omega arith in rw (e, lt-ltb _ _ h', f)

    pub closing_done : length s ≤ end → closing_at s from size head shadings ≡ done (declaration_with size head shadings tail)
    unfolding closing_at
    closing_done h = let h' : length s ≤ from + 56 = omega arith in rw (e, le-ltb _ _ h')

-- ---- a shading

-- its layers are not too many
pub layers_few : (s : List ℕ) (at : ℕ) (head : List ℕ) → run_at shading_rules s at ≡ done head → get_or head 1 0 ≤ layer_limit
layers_few s at head e = run_limited shading_rules s at head e 1

pub shading_refused : (s : List ℕ) (at n p : ℕ) → run_at shading_rules s at ≡ refused n p → shading_at s at ≡ refused n p
unfolding shading_at
shading_refused s at n p e = rw e

-- after attributes and layer count, the dimensions, as many as layers
module _ (s : List ℕ) (at : ℕ) (head : List ℕ) (e : run_at shading_rules s at ≡ done head) where
  pub dimensions_refused : (n p : ℕ) → run_at (replicate (get_or head 1 0) unjudged) s (at + 8) ≡ refused n p → shading_at s at ≡ refused n p
  unfolding shading_at
  dimensions_refused n p f = rw (e, f)

  module _ (values : List ℕ) (f : run_at (replicate (get_or head 1 0) unjudged) s (at + 8) ≡ done values) (last : ℕ) (l : last ≡ at + 8 + 4 * get_or head 1 0) where
    pub original_refused : (n p : ℕ) → field_at 4 s last ≡ refused n p → shading_at s at ≡ refused n p
    unfolding shading_at
    original_refused n p o = rw (e, f, ← l, o)

    pub shading_done : (original : ℕ) → field_at 4 s last ≡ done original
        → shading_at s at ≡ done (record {
          value = record {
            attributes = get_or head 0 0;
            layer_count = get_or head 1 0;
            dimensions = values ++ drop (get_or head 1 0) (replicate layer_limit 0);
            original_id = original;
          };
          next = last + 4;
        })
    unfolding shading_at
    shading_done original o =
        let long : length values ≡ get_or head 1 0 = run_length _ _ _ _ f ∙ length-replicate (get_or head 1 0) unjudged in
        rw (e, f, ← l, o, long, drop_replicate {A = ℕ} layer_limit (get_or head 1 0) 0)

-- ---- shadings one after the other

module _ (s : List ℕ) (count i at : ℕ) (table : List Shading) where
  pub shadings_more : (shading : Shading) (next : ℕ) → i < count → shading_at s at ≡ done (record { value = shading; next = next })
      → stored_shadings table i (shadings_at (count - i) s at) ≡ stored_shadings (set table i shading) (i + 1) (shadings_at (count - (i + 1)) s next)
  unfolding shadings_at
  shadings_more shading next h e =
      let k : count - i ≡ suc (count - (i + 1)) = omega arith in
      rw (k, shadings_at, e, add-one) (on_mapped (shadings_at (count - suc i) s next) _ _)

  pub shadings_refused : (n p : ℕ) → i < count → shading_at s at ≡ refused n p → stored_shadings table i (shadings_at (count - i) s at) ≡ refused n p
  unfolding shadings_at
  shadings_refused n p h e =
      let k : count - i ≡ suc (count - (i + 1)) = omega arith in
      rw (k, shadings_at, e)

  pub shadings_none : count ≤ i → stored_shadings table i (shadings_at (count - i) s at) ≡ done (record { value = table; next = at })
  unfolding shadings_at
  shadings_none h =
      let k : count - i ≡ 0 = omega arith in
      rw (k, shadings_at)

-- as many as were asked for
shadings_length : (n : ℕ) (s : List ℕ) (at : ℕ) (r : Ended (List Shading)) → shadings_at n s at ≡ done r → length r.value ≡ n
unfolding shadings_at
shadings_length zero s at r e =
    let same : r ≡ record { value = []; next = at } = cc in
    ap (λ (x : Ended (List Shading)). length x.value) same
shadings_length (suc n) s at r e =
    let f = value_before (shading_at s at) _ r e in
    let g = value_before (shadings_at n s f.0.next) _ r f.2 in
    let same : r ≡ record { value = f.0.value ∷ g.0.value; next = g.0.next } = cc in
    ap (λ (x : Ended (List Shading)). length x.value) same ∙ ap suc (shadings_length n s f.0.next g.0 g.1)

pub none_length : length no_shadings ≡ shading_limit
unfolding no_shadings
none_length = refl

-- ---- the whole

pub declaration_large : (s : List ℕ) → largest_file < length s → declaration_of s ≡ refused over_limit 0
unfolding declaration_of
declaration_large s h = rw (lt-ltb _ _ h)

-- a name that ends there
pub name_before : (s : List ℕ) (end : ℕ) → name_end s ≡ done end → (size : ℕ) × (name_at s 0 ≡ done size) × (end ≡ size + 2)
unfolding name_end
name_before s end e =
    let f = value_before (name_at s 0) _ end e in
    (f.0, f.1, cc)

pub name_refused : (s : List ℕ) (n p : ℕ) → name_end s ≡ refused n p → name_at s 0 ≡ refused n p
unfolding name_end
name_refused s n p e = refusal_before (name_at s 0) _ n p e

module _ (s : List ℕ) (small : length s ≤ largest_file) where
  pub declaration_unnamed : (n p : ℕ) → name_end s ≡ refused n p → declaration_of s ≡ refused n p
  unfolding declaration_of
  declaration_unnamed n p e = rw (le-ltb _ _ small, name_refused s n p e)

  module _ (size : ℕ) (e : name_at s 0 ≡ done size) where
    pub opening_refused : (n p : ℕ) → run_at opening_rules s (size + 2) ≡ refused n p → declaration_of s ≡ refused n p
    unfolding declaration_of
    opening_refused n p f = rw (le-ltb _ _ small, e, f)

    module _ (head : List ℕ) (f : run_at opening_rules s (size + 2) ≡ done head) where
      pub described_refused : (n p : ℕ) → shadings_at (get_or head 8 0) s (size + 38) ≡ refused n p → declaration_of s ≡ refused n p
      unfolding declaration_of
      described_refused n p g = rw (le-ltb _ _ small, e, f, g)

      described : (list : List Shading) (next : ℕ) → shadings_at (get_or head 8 0) s (size + 38) ≡ done (record { value = list; next = next })
          → declaration_of s ≡ closing_at s next size head (filled shading_limit no_shading list)
      unfolding declaration_of closing_at
      described list next g = rw (le-ltb _ _ small, e, f, g)

-- the shading count is not too large
pub count_few : (s : List ℕ) (at : ℕ) (head : List ℕ) → run_at opening_rules s at ≡ done head → get_or head 8 0 ≤ shading_limit
count_few s at head e = run_limited opening_rules s at head e 8

-- what a caller learns of shadings that were read, or refused
module _ (n : ℕ) (s : List ℕ) (at : ℕ) where
  pub shadings_failed : (m p : ℕ) → refused m p ≡ stored_shadings no_shadings 0 (shadings_at n s at) → shadings_at n s at ≡ refused m p
  shadings_failed m p e = refusal_before (shadings_at n s at) _ m p (sym e)

  pub shadings_told : (r : Ended (List Shading)) → done r ≡ stored_shadings no_shadings 0 (shadings_at n s at) → n ≤ shading_limit
      → (list : List Shading) × (shadings_at n s at ≡ done (record { value = list; next = r.next })) × (r.value ≡ filled shading_limit no_shading list)
  unfolding no_shadings
  shadings_told r e few =
      let g = value_before (shadings_at n s at) _ r (sym e) in
      let same : ◌≡◌ {A = Ended (List Shading)} (record { value = sets no_shadings 0 g.0.value; next = g.0.next }) r = cc in
      let end : g.0.next ≡ r.next = ap (λ (y : Ended (List Shading)). y.next) same in
      let long : length g.0.value ≡ n = shadings_length n s at g.0 g.1 in (
        g.0.value,
        g.1 ∙ ap (λ (y : ℕ). done (record { value = g.0.value; next = y })) end,
        sym (ap (λ (y : Ended (List Shading)). y.value) same) ∙ sets_filled shading_limit no_shading g.0.value (omega arith),
      )

-- the parts together
pub declaration_joined : (s : List ℕ) → length s ≤ largest_file → (size : ℕ) → name_at s 0 ≡ done size → (head : List ℕ) → run_at opening_rules s (size + 2) ≡ done head
    → (list : List Shading) (at next : ℕ) → at ≡ size + 38 → shadings_at (get_or head 8 0) s at ≡ done (record { value = list; next = next })
    → (end : ℕ) (shadings : List Shading) → end ≡ size + 2 → shadings ≡ filled shading_limit no_shading list
    → closing_at s next (end - 2) head shadings ≡ declaration_of s
declaration_joined s small size e head f list at next a g end shadings p q =
    let z : end - 2 ≡ size = omega arith in
    rw (z, q) (sym (described s small size e head f list next (rw a at g)))

-- a declaration that is read has not too many shadings
pub shadings_few : (s : List ℕ) (declaration : Declaration) → declaration_of s ≡ done declaration → declaration.shading_count ≤ shading_limit
unfolding declaration_of
shadings_few s declaration e =
    let small = passed (ltb largest_file (length s)) over_limit 0 _ declaration e in
    let size = value_before (name_at s 0) _ declaration small.1 in
    let head = value_before (run_at opening_rules s (size.0 + 2)) _ declaration size.2 in
    let shadings = value_before (shadings_at (get_or head.0 8 0) s (size.0 + 38)) _ declaration head.2 in
    let tail = value_before (run_at closing_rules s shadings.0.next) _ declaration shadings.2 in
    let whole = passed (ltb (shadings.0.next + 56) (length s)) bytes_left (shadings.0.next + 56) _ declaration tail.2 in
    let same : declaration_with size.0 head.0 (filled shading_limit no_shading shadings.0.value) tail.0 ≡ declaration = cc in
    let count : get_or head.0 8 0 ≡ declaration.shading_count = ap (λ (d : Declaration). d.shading_count) same in
    omega (arith, count_few s _ head.0 head.1)
