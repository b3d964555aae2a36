-- Runs of fields: one more field, the first that is refused, none left. A run that is done has a value for each rule.
use Prim.Native.Nat.{ℕ, zero, suc, ◌+◌, ◌-◌, ◌*◌, ◌≤◌, ◌<◌}
use mathlib.Core.Path.{◌≡◌, ◌∙◌, ap, refl, sym}
use mathlib.Core.List.{List, [], ◌∷◌}
use native.Mathlib.Numerals.{add-one}
use native.Mathlib.Omega.{arith}
use borrow.Author.Tests.{ltb-false}
use lib.Dec.{ltb}
use lib.ListN.{get_or, length, length-replicate, replicate, set}
use lib.Seq.{sets}
use Rattle.fields.specs.Field.{field_at}
use Rattle.fields.specs.Judged.{done, refused}
use Rattle.fields.specs.Numbers.{out_of_order, over_limit}
use Rattle.fields.proofs.Judging.{field_within, passed, refusal_before, value_before}
use Rattle.mesh.specs.Run.{ruled_at, run_at, unjudged}
use Rattle.mesh.specs.Inside.{rule_at, rules_from, stored_run}
use Rattle.mesh.specs.declared.run.Ended.{Ended}
use Rattle.mesh.specs.declared.run.Rule.{Rule}
use Rattle.mesh.proofs.Chains.{on_mapped, sets_full}

-- ---- the loop

module _ (rules : List Rule) (s : List ℕ) (count i at next : ℕ) (values : List ℕ) where
  pub run_more : (v : ℕ) → i < count → ruled_at (rule_at rules i) s at ≡ done v
      → stored_run values i next (run_at (rules_from rules i (count - i)) s at)
      ≡ stored_run (set values i v) (i + 1) next (run_at (rules_from rules (i + 1) (count - (i + 1))) s (at + 4))
  unfolding run_at rules_from
  run_more v h e =
      let k : count - i ≡ suc (count - (i + 1)) = omega arith in
      rw (k, rules_from, run_at, e, add-one) (on_mapped (run_at (rules_from rules (suc i) (count - suc i)) s (at + 4)) _ _)

  pub run_refused : (n p : ℕ) → i < count → ruled_at (rule_at rules i) s at ≡ refused n p
      → stored_run values i next (run_at (rules_from rules i (count - i)) s at) ≡ refused n p
  unfolding run_at rules_from
  run_refused n p h e =
      let k : count - i ≡ suc (count - (i + 1)) = omega arith in
      rw (k, rules_from, run_at, e)

  pub run_none : count ≤ i → stored_run values i next (run_at (rules_from rules i (count - i)) s at) ≡ done (record { value = values; next = next })
  unfolding run_at rules_from
  run_none h =
      let k : count - i ≡ 0 = omega arith in
      rw (k, rules_from, run_at)

-- ---- a field

-- a field that was taken lies within the bytes, and keeps its rule
pub record Kept (rule : Rule) (s : List ℕ) (at v : ℕ) : Type 0 where
  pub within : at + 4 ≤ length s
  pub limit : v ≤ rule.limit
  pub least : rule.least ≤ v
  pub most : v ≤ rule.most

pub ruled_kept : (rule : Rule) (s : List ℕ) (at v : ℕ) → ruled_at rule s at ≡ done v → Kept rule s at v
unfolding ruled_at
ruled_kept rule s at v e =
    let f = value_before (field_at 4 s at) _ v e in
    let a = passed (ltb rule.limit f.0) over_limit at _ v f.2 in
    let b = passed (ltb f.0 rule.least) out_of_order at _ v a.1 in
    let c = passed (ltb rule.most f.0) out_of_order at _ v b.1 in
    let same : f.0 ≡ v = cc in
    record {
      within = field_within 4 s at f.0 f.1;
      limit = omega (arith, ltb-false rule.limit f.0 a.0);
      least = omega (arith, ltb-false f.0 rule.least b.0);
      most = omega (arith, ltb-false rule.most f.0 c.0);
    }

-- ---- a run that is done

-- its first value, and the others
pub run_first : (rule : Rule) (rules : List Rule) (s : List ℕ) (at : ℕ) (vs : List ℕ) → run_at (rule ∷ rules) s at ≡ done vs
    → (ws : List ℕ) × (vs ≡ get_or vs 0 0 ∷ ws) × (ruled_at rule s at ≡ done (get_or vs 0 0)) × (run_at rules s (at + 4) ≡ done ws)
unfolding run_at
run_first rule rules s at vs e =
    let f = value_before (ruled_at rule s at) _ vs e in
    let g = value_before (run_at rules s (at + 4)) _ vs f.2 in
    let same : vs ≡ f.0 ∷ g.0 = cc in
    let head : get_or vs 0 0 ≡ f.0 = ap (λ (l : List ℕ). get_or l 0 0) same in
    (g.0, same ∙ ap (λ (x : ℕ). x ∷ g.0) (sym head), f.1 ∙ ap done (sym head), g.1)

pub run_length : (rules : List Rule) (s : List ℕ) (at : ℕ) (vs : List ℕ) → run_at rules s at ≡ done vs → length vs ≡ length rules
unfolding run_at
run_length [] s at vs e = let same : vs ≡ [] = cc in ap length same
run_length (rule ∷ rules) s at vs e =
    let f = run_first rule rules s at vs e in
    ap length f.1 ∙ ap suc (run_length rules s (at + 4) f.0 f.3)

-- each value is at most its rule's limit
pub run_limited : (rules : List Rule) (s : List ℕ) (at : ℕ) (vs : List ℕ) → run_at rules s at ≡ done vs → (i : ℕ) → get_or vs i 0 ≤ (get_or rules i unjudged).limit
unfolding run_at
run_limited [] s at vs e i = let same : vs ≡ [] = cc in rw same (omega arith)
run_limited (rule ∷ rules) s at vs e zero = (ruled_kept rule s at _ (run_first rule rules s at vs e).2).limit
run_limited (rule ∷ rules) s at vs e (suc i) =
    let f = run_first rule rules s at vs e in
    rw f.1 (run_limited rules s (at + 4) f.0 f.3 i)

-- all its fields lie within the bytes
pub run_within : (rules : List Rule) (s : List ℕ) (at : ℕ) (vs : List ℕ) → at ≤ length s → run_at rules s at ≡ done vs → at + 4 * length rules ≤ length s
run_within [] s at vs h e = omega arith
run_within (rule ∷ rules) s at vs h e =
    let f = run_first rule rules s at vs e in
    omega (arith, run_within rules s (at + 4) f.0 (ruled_kept rule s at _ f.2).within f.3)

-- ---- what a caller learns

-- the values stand in the table
pub run_stored : (rules : List Rule) (s : List ℕ) (at : ℕ) (values table : List ℕ) (end x : ℕ)
    → done (record { value = values; next = x }) ≡ stored_run table 0 end (run_at rules s at)
    → (vs : List ℕ) × (run_at rules s at ≡ done vs) × (values ≡ sets table 0 vs) × (x ≡ end)
run_stored rules s at values table end x e =
    let r : Ended (List ℕ) = record { value = values; next = x } in
    let g = value_before (run_at rules s at) _ r (sym e) in
    let same : ◌≡◌ {A = Ended (List ℕ)} (record { value = sets table 0 g.0; next = end }) r = cc in
    (g.0, g.1, ap (λ (y : Ended (List ℕ)). y.value) (sym same), ap (λ (y : Ended (List ℕ)). y.next) (sym same))

pub run_failed : (rules : List Rule) (s : List ℕ) (at : ℕ) (table : List ℕ) (end n p : ℕ)
    → refused n p ≡ stored_run table 0 end (run_at rules s at) → run_at rules s at ≡ refused n p
run_failed rules s at table end n p e = refusal_before (run_at rules s at) _ n p (sym e)

-- and fill a table that is just as long
pub run_told : (rules : List Rule) (s : List ℕ) (at : ℕ) (values table : List ℕ) (end x : ℕ) → length table ≡ length rules
    → done (record { value = values; next = x }) ≡ stored_run table 0 end (run_at rules s at)
    → (run_at rules s at ≡ done values) × (x ≡ end)
run_told rules s at values table end x long e =
    let g = run_stored rules s at values table end x e in
    let full : sets table 0 g.0 ≡ g.0 = sets_full table g.0 (run_length rules s at g.0 g.1 ∙ sym long) in
    (g.1 ∙ ap done (sym (g.2 ∙ full)), g.3)

-- ---- fields that are not judged

pub unjudged_rules : (n i : ℕ) → rules_from [] i n ≡ replicate n unjudged
unfolding rules_from
unjudged_rules zero i = refl
unjudged_rules (suc n) i = ap (λ (l : List Rule). unjudged ∷ l) (unjudged_rules n (suc i))

-- such fields in a table of n words
module _ (s : List ℕ) (at : ℕ) (table : List ℕ) (end n : ℕ) (long : length table ≡ n) where
  pub free_told : (values : List ℕ) (x : ℕ) → done (record { value = values; next = x }) ≡ stored_run table 0 end (run_at (rules_from [] 0 n) s at)
      → (run_at (replicate n unjudged) s at ≡ done values) × (x ≡ end)
  free_told values x e =
      run_told (replicate n unjudged) s at values table end x (long ∙ sym (length-replicate n unjudged)) (rw (unjudged_rules n 0) at e)

  pub free_failed : (m p : ℕ) → refused m p ≡ stored_run table 0 end (run_at (rules_from [] 0 n) s at) → run_at (replicate n unjudged) s at ≡ refused m p
  free_failed m p e = run_failed (replicate n unjudged) s at table end m p (rw (unjudged_rules n 0) at e)
