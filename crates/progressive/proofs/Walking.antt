-- Laws of walks: a walk over one list after another is the walk over both, since no refusal has the number 0.
use Rattle.std.proofs.Common.{◌≡◌, ℕ, zero, suc, ◌+◌, ◌-◌, ◌%◌, ◌^◌, ◌<◌, ◌≤◌, Bool, true, false, not, ◌&&◌, eqb, List, [], ◌∷◌, ◌++◌, replicate, sym, refl, ap, ◌∙◌, add_assoc, mod-lt, mod-eq_of_lt, arith, ne_eqb, le-leb, Result, Ok, Err}
use borrow.Author.Tests.{lt-leb}
use native.Mathlib.Nat.{mod-add-mod, mod-mod}
use Rattle.fields.specs.Judged.{Judged, done, refused, on_done, pick, refused_if}
use Rattle.fields.specs.Numbers.{bad_steps, counts_disagree, no_step, no_room, not_allowed, bad_state, over_limit}
use Rattle.fields.specs.Limits.{most_steps}
use Rattle.fields.specs.declared.refusal.Fault.{Fault}
use Rattle.fields.specs.declared.refusal.Fault.TheVariants as fault
use Rattle.progressive.specs.declared.refine.Direction.{Direction}
use Rattle.progressive.specs.declared.refine.Direction.TheVariants as direction
use Rattle.progressive.specs.Inside.{Asked, NamesDirection}
use Rattle.progressive.specs.StepTable.{new_face_count, step_count, step_offset, well_formed}
use Rattle.progressive.specs.Mesh.{Mesh, room_for}
use Rattle.progressive.specs.Rules.{allowed, numbers_allowed}
use Rattle.progressive.specs.Laying.{room_clear, shows_laid}
use Rattle.progressive.specs.Steps.{coarsened, coarsened_by, counts_agree, denied, granted, level_of, refined, refined_by, reply}
use Rattle.progressive.specs.Requests.{Ask, StepWalk, add_granted, ask_down, ask_over, ask_up, as_told, asked_on, asks_of, granted_first, onward, walk_by, walk_over, walked_on}

-- ---- no refusal has the number 0

abbrev Stops : {A : Type 0} → Judged A → Type 0
Stops (done a) = Unit {0}
Stops (refused n p) = 0 < n

stops_if : {A : Type 0} (test : Bool) (n p : ℕ) (j : Judged A) → 0 < n → Stops j → Stops (refused_if test n p j)
stops_if true n p j above s = above
stops_if false n p j above s = s

stops_on : {A B : Type 0} (j : Judged A) (next : A → Judged B) → Stops j → ((a : A) → Stops (next a)) → Stops (on_done j next)
stops_on (done a) next s more = more a
stops_on (refused n p) next s more = s

level_stops : (t : List ℕ) (f p : ℕ) → Stops (level_of t f p)
unfolding level_of
level_stops t f p = stops_if (not (well_formed t)) bad_steps 0 _ (omega arith) (stops_if (not (counts_agree t f p)) counts_disagree 0 _ (omega arith) tt)

refined_by_stops : (t : List ℕ) (shadings o : ℕ) (m : Mesh) → Stops (refined_by t shadings o m)
unfolding refined_by
refined_by_stops t shadings o m =
    stops_if (not (room_for m m.face_count m.position_count && room_for m (m.face_count + new_face_count t o) (m.position_count + 1))) no_room 0 _ (omega arith)
    (stops_if (not (allowed t o shadings m)) not_allowed 0 _ (omega arith)
    (stops_if (not (room_clear t o m)) bad_state 0 _ (omega arith) tt))

coarsened_by_stops : (t : List ℕ) (shadings o f r : ℕ) (m : Mesh) → Stops (coarsened_by t shadings o f r m)
unfolding coarsened_by
coarsened_by_stops t shadings o f r m =
    stops_if (not (room_for m m.face_count m.position_count && room_for m f r)) no_room 0 _ (omega arith)
    (stops_if (not (numbers_allowed t o shadings f r)) not_allowed 0 _ (omega arith)
    (stops_if (not (shows_laid t o f r m)) bad_state 0 _ (omega arith) tt))

module _ (t : List ℕ) (shadings : ℕ) where
  ask_stops : (m : Mesh) (ask : Ask) → Stops (asked_on t shadings m ask)
  unfolding refined coarsened
  ask_stops m ask_up =
      stops_on (level_of t m.face_count m.position_count) _ (level_stops t _ _)
      (λ k. stops_if (eqb k (step_count t)) no_step 0 _ (omega arith) (refined_by_stops t shadings (step_offset t k) m))
  ask_stops m ask_down =
      stops_on (level_of t m.face_count m.position_count) _ (level_stops t _ _)
      (λ k. stops_if (eqb k 0) no_step 0 _ (omega arith) (coarsened_by_stops t shadings (step_offset t (k - 1)) _ _ m))
  ask_stops m ask_over = omega arith

-- ---- what was granted before

abbrev onward_if : {A : Type 0} → Bool → StepWalk A → (A → StepWalk A) → StepWalk A
onward_if going w next = pick going (add_granted w.granted (next w.state)) w

granted_as : {A : Type 0} (w : StepWalk A) {m n : ℕ} → m ≡ n
    → ◌≡◌ {A = StepWalk A} (record { number = w.number; granted = m; state = w.state }) (record { number = w.number; granted = n; state = w.state })
granted_as w e = rw e

add_onward_if : {A : Type 0} (going : Bool) (n : ℕ) (w : StepWalk A) (next : A → StepWalk A) → add_granted n (onward_if going w next) ≡ onward_if going (add_granted n w) next
add_onward_if true n w next = rw (add_assoc n w.granted (next w.state).granted)
add_onward_if false n w next = refl

add_onward : {A : Type 0} (n : ℕ) (w : StepWalk A) (next : A → StepWalk A) → add_granted n (onward w next) ≡ onward (add_granted n w) next
unfolding onward
add_onward n w next = add_onward_if (eqb w.number 0) n w next

-- ---- one walk after another

same-onward : {A : Type 0} (w : StepWalk A) (f g : A → StepWalk A) → ((a : A) → f a ≡ g a) → onward w f ≡ onward w g
unfolding onward
same-onward w f g e = rw (e w.state)

going : {A : Type 0} (w : StepWalk A) (next : A → StepWalk A) → w.number ≡ 0 → onward w next ≡ add_granted w.granted (next w.state)
unfolding onward
going w next e = rw e

stopped : {A : Type 0} (w : StepWalk A) (next : A → StepWalk A) → 0 < w.number → onward w next ≡ w
unfolding onward
stopped w next above = rw (ne_eqb w.number 0 (λ e. omega arith))

onward-onward : {A : Type 0} (w : StepWalk A) (f g : A → StepWalk A) → onward (onward w f) g ≡ onward w (λ a. onward (f a) g)
onward-onward {A} w f g = go w.number refl
  where
    go : (n : ℕ) → w.number ≡ n → onward (onward w f) g ≡ onward w (λ a. onward (f a) g)
    go zero e = rw (going w f e, going w (λ (a : A). onward (f a) g) e) (sym (add_onward w.granted (f w.state) g))
    go (suc n) e =
        let above : 0 < w.number = omega arith in
        rw (stopped w f above, stopped w (λ (a : A). onward (f a) g) above) (stopped w g above)

-- what is told of a walk so far is enough to tell of the rest
told_onward : {A : Type 0} (w : StepWalk A) (next : A → StepWalk A) → as_told (onward (as_told w) next) ≡ as_told (onward w next)
unfolding onward
told_onward {A} w next = go (eqb w.number 0)
  where
    go : (on : Bool) → as_told (onward_if on (as_told w) next) ≡ as_told (onward_if on w next)
    go true = rw (mod-add-mod w.granted (2 ^ 64) (next w.state).granted)
    go false = rw (mod-mod w.granted (2 ^ 64))

module _ (t : List ℕ) (shadings : ℕ) where
  walk_append : (xs ys : List Ask) (m : Mesh)
      → walk_over t shadings m (xs ++ ys) ≡ onward (walk_over t shadings m xs) (λ n. walk_over t shadings n ys)
  unfolding walk_by
  walk_append [] ys m = sym (going (record { number = 0; granted = 0; state = m }) (λ n. walk_over t shadings n ys) refl ∙ granted_as (walk_over t shadings m ys) (omega arith))
  walk_append (ask ∷ xs) ys m = go (asked_on t shadings m ask) (ask_stops t shadings m ask) (walk_append xs ys)
    where
      go : (j : Judged Mesh) → Stops j → ((n : Mesh) → walk_over t shadings n (xs ++ ys) ≡ onward (walk_over t shadings n xs) (λ o. walk_over t shadings o ys))
          → granted_first j m (λ n. walk_over t shadings n (xs ++ ys)) ≡ onward (granted_first j m (λ n. walk_over t shadings n xs)) (λ n. walk_over t shadings n ys)
      go (done n) s ih =
          granted_as (walk_over t shadings n (xs ++ ys)) (omega arith)
          ∙ ap (add_granted 1) (ih n)
          ∙ add_onward 1 (walk_over t shadings n xs) (λ o. walk_over t shadings o ys)
          ∙ ap (λ (w : StepWalk Mesh). onward w (λ o. walk_over t shadings o ys)) (granted_as (walk_over t shadings n xs) (omega arith))
      go (refused n p) s ih = sym (stopped (record { number = n; granted = 0; state = m }) (λ o. walk_over t shadings o ys) s)

  -- one list of asks after the other
  pub walked_append : (xs ys : List Ask) (w : StepWalk Mesh) → walked_on t shadings ys (walked_on t shadings xs w) ≡ walked_on t shadings (xs ++ ys) w
  walked_append xs ys w =
      told_onward (onward w (λ m. walk_over t shadings m xs)) (λ m. walk_over t shadings m ys)
      ∙ ap as_told (onward-onward w (λ m. walk_over t shadings m xs) (λ m. walk_over t shadings m ys)
      ∙ same-onward w _ (λ m. walk_over t shadings m (xs ++ ys)) (λ m. sym (walk_append xs ys m)))

  -- no asks at all, of a walk as it is told
  pub walked_none : (w : StepWalk Mesh) → w.granted < 2 ^ 64 → walked_on t shadings [] w ≡ w
  unfolding walk_by
  walked_none w small = go w.number refl
    where
      go : (n : ℕ) → w.number ≡ n → walked_on t shadings [] w ≡ w
      go zero e = let same : w.granted + 0 ≡ w.granted = omega arith in rw (going w (λ m. walk_over t shadings m []) e, same, mod-eq_of_lt small, ← e)
      go (suc n) e = let above : 0 < w.number = omega arith in rw (stopped w (λ m. walk_over t shadings m []) above, mod-eq_of_lt small)

  -- a walk from its start
  pub walked-fresh : (list : List Ask) (m : Mesh) → walked_on t shadings list (record { number = 0; granted = 0; state = m }) ≡ as_told (walk_over t shadings m list)
  walked-fresh list m =
      ap as_told (going (record { number = 0; granted = 0; state = m }) (λ n. walk_over t shadings n list) refl ∙ granted_as (walk_over t shadings m list) (omega arith))

  -- ---- the laws of the code: where the walk was refused it stays; a step more is granted, or refused

  pub walked_stays : (list : List Ask) (w : StepWalk Mesh) → (w.number ≡ 0 → ⊥) → w.granted < 2 ^ 64 → w ≡ walked_on t shadings list w
  walked_stays list w refusal small =
      let above : 0 < w.number = omega (arith, refusal) in
      rw (stopped w (λ m. walk_over t shadings m list) above, mod-eq_of_lt small)

  granted_by : (j : Judged Mesh) (m made : Mesh) → granted made ≡ reply j m → j ≡ done made
  granted_by (done n) m made e = let same : made ≡ n = cc in rw same
  granted_by (refused n p) m made e = let z : ◌≡◌ {A = ℕ} 0 1 = cc in absurd (omega arith)

  denied_by : (j : Judged Mesh) (m kept : Mesh) (n p : ℕ) → denied n p kept ≡ reply j m → (j ≡ refused n p) × (kept ≡ m)
  denied_by (done o) m kept n p e = let z : ◌≡◌ {A = ℕ} 0 1 = cc in absurd (omega arith)
  denied_by (refused i q) m kept n p e = let a : n ≡ i = cc in let b : p ≡ q = cc in (rw (a, b), cc)

  module _ (ask : Ask) (w : StepWalk Mesh) (faces positions : List ℕ) (e : w.number ≡ 0) where
    pub one_granted : {made : Mesh} {g : ℕ} → granted made ≡ reply (asked_on t shadings w.state ask) w.state → g ≡ (w.granted + 1) % 2 ^ 64
        → ◌≡◌ {A = StepWalk Mesh} (record { number = 0; granted = g; state = made }) (walked_on t shadings (ask ∷ []) w)
    unfolding walk_by
    one_granted {made} answer told =
        let j : asked_on t shadings w.state ask ≡ done made = granted_by _ w.state made answer in
        rw (going w (λ m. walk_over t shadings m (ask ∷ [])) e, j, told)

    pub one_denied : {kept : Mesh} {n p : ℕ} → denied n p kept ≡ reply (asked_on t shadings w.state ask) w.state → w.granted < 2 ^ 64
        → ◌≡◌ {A = StepWalk Mesh} (record { number = n; granted = w.granted; state = kept }) (walked_on t shadings (ask ∷ []) w)
    unfolding walk_by
    one_denied {kept} {n} {p} answer small =
        let j = denied_by (asked_on t shadings w.state ask) w.state kept n p answer in
        let same : w.granted + 0 ≡ w.granted = omega arith in
        rw (going w (λ m. walk_over t shadings m (ask ∷ [])) e, j.0, same, mod-eq_of_lt small, j.1)

  -- a turn of the loop
  pub walked_more : (ask : Ask) (left : ℕ) (w : StepWalk Mesh) {v : StepWalk Mesh} (goal : StepWalk Mesh) → 0 < left → v ≡ walked_on t shadings (ask ∷ []) w
      → walked_on t shadings (replicate left ask) w ≡ goal → walked_on t shadings (replicate (left - 1) ask) v ≡ goal
  walked_more ask zero w goal above e h = absurd (omega arith)
  walked_more ask (suc left) w goal above e h =
      let same : suc left - 1 ≡ left = omega arith in
      rw (same, e) (walked_append (ask ∷ []) (replicate left ask) w ∙ h)

  pub walked_done : (ask : Ask) (left : ℕ) (w : StepWalk Mesh) (goal : StepWalk Mesh) → left ≤ 0 → w.granted < 2 ^ 64 → walked_on t shadings (replicate left ask) w ≡ goal → w ≡ goal
  walked_done ask zero w goal none small h = sym (walked_none w small) ∙ h
  walked_done ask (suc left) w goal none small h = absurd (omega arith)

  -- what is told is below 2^64
  pub told_small : (list : List Ask) (w : StepWalk Mesh) {v : StepWalk Mesh} → v ≡ walked_on t shadings list w → v.granted < 2 ^ 64
  told_small list w {v} e =
      let same : v.granted ≡ (onward w (λ m. walk_over t shadings m list)).granted % 2 ^ 64 = ap (λ (u : StepWalk Mesh). u.granted) e in
      rw same (mod-lt (onward w (λ m. walk_over t shadings m list)).granted (omega arith))

  -- a wish that is refused
  pub over_limit_lem : (list : List Ask) (w : StepWalk Mesh) → list ≡ ask_over ∷ [] → w.number ≡ 0 → w.granted < 2 ^ 64
      → ◌≡◌ {A = StepWalk Mesh} (record { number = over_limit; granted = w.granted; state = w.state }) (walked_on t shadings list w)
  unfolding walk_by
  over_limit_lem list w f e small =
      let same : w.granted + 0 ≡ w.granted = omega arith in
      rw (f, going w (λ m. walk_over t shadings m (ask_over ∷ [])) e, same, mod-eq_of_lt small)

-- ---- a wish and its asks

-- too many steps
pub asked_over : (direction count : ℕ) → most_steps < count → Asked (asks_of direction count) count (Err fault.OverLimit)
unfolding asks_of
asked_over direction count h = rw (lt-leb count most_steps h) (refl, refl)

-- the direction decides
pub asked_by : (r : Result Direction Fault) (direction count : ℕ) → count ≤ most_steps → NamesDirection direction r → Asked (asks_of direction count) count r
unfolding asks_of
asked_by (Ok direction.Up) n count h e = rw (le-leb count most_steps h, e)
asked_by (Ok direction.Down) n count h e = rw (le-leb count most_steps h, e)
asked_by (Err f) n count h e = rw (le-leb count most_steps h, lt-leb n 1 e.0) (refl, e.1)
