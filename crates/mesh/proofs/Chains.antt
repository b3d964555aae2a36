-- Laws of judging one thing after the other, and of lists that are stored.
use Rattle.std.specs.Prelude.{Result, Ok, Err}
use Prim.Native.Nat.{ℕ, zero, suc, ◌+◌, ◌-◌, ◌≤◌}
use mathlib.Core.Path.{◌≡◌, ◌∙◌, ap, refl}
use mathlib.Core.List.{List, ◌++◌, append-nil}
use native.Mathlib.Omega.{arith}
use lib.ListN.{drop, length, length-drop, length-replicate, replicate, take}
use lib.Seq.{drop-length, length-sets, sets, sets-eq, take_all, take_at}
use Rattle.fields.specs.Judged.{Judged, done, refused, on_done}
use Rattle.fields.proofs.Judging.{not_done, same_done}
use Rattle.fields.specs.declared.refusal.Refusal.{Refusal}
use Rattle.mesh.specs.Run.{filled}
use Rattle.mesh.specs.Inside.{ended_given}
use Rattle.mesh.specs.declared.run.Ended.{Ended}

-- what follows from a value that was only handed on
pub on_mapped : {A B C : Type 0} (j : Judged A) (f : A → B) (k : B → Judged C) → on_done (on_done j (λ a. done (f a))) k ≡ on_done j (λ a. k (f a))
on_mapped (done a) f k = refl
on_mapped (refused n p) f k = refl

-- the end of a list of one value
pub drop_replicate : {A : Type 0} (n k : ℕ) (a : A) → drop k (replicate n a) ≡ replicate (n - k) a
drop_replicate n zero a = let e : n - 0 ≡ n = omega arith in rw e
drop_replicate zero (suc k) a = let e : 0 - suc k ≡ 0 = omega arith in rw e
drop_replicate (suc n) (suc k) a = let e : suc n - suc k ≡ n - k = omega arith in rw e (drop_replicate n k a)

-- a list stored at the start of so much room
pub sets_filled : {A : Type 0} (room : ℕ) (empty : A) (l : List A) → length l ≤ room → sets (replicate room empty) 0 l ≡ filled room empty l
sets_filled {A} room empty l h =
    let fits : 0 + length l ≤ length (replicate room empty) = omega (arith, length-replicate room empty) in
    let none : 0 + length l ≡ length l = omega arith in
    sets-eq l (replicate room empty) 0 fits ∙ ap (λ (m : List A). l ++ m) (rw none (drop_replicate room (length l) empty))

-- a list that fills a table
pub sets_full : {A : Type 0} (t l : List A) → length l ≡ length t → sets t 0 l ≡ l
sets_full t l h =
    let none : 0 + length l ≡ length t = omega arith in
    sets-eq l t 0 (omega arith) ∙ rw (none, drop-length t) (append-nil l)

-- a list stored in a table, and zeros after it
pub stored_cleared : (t after out vs : List ℕ) (n : ℕ) → after ≡ sets t 0 vs → length vs ≡ n → n ≤ length t
    → out ≡ take n after ++ replicate (length after - n) 0 → out ≡ filled (length t) 0 vs
stored_cleared t after out vs n e l h f =
    let long : length after ≡ length t = ap length e ∙ length-sets t 0 vs in
    let front : take n after ≡ vs = ap (take n) (e ∙ sets-eq vs t 0 (omega arith)) ∙ take_at vs _ n l in
    f ∙ rw (front, long, ← l)

-- the part of a list from a place to its end
pub to_end : (s : List ℕ) (a : ℕ) → take (length s - a) (drop a s) ≡ drop a s
to_end s a = take_all (length s - a) (drop a s) (omega (arith, length-drop a s))

-- the value of an answer that is done
pub ended_value : {A : Type 0} (r : Result ℕ Refusal) (value : A) (e : Ended A) → ended_given r value ≡ done e → value ≡ e.value
ended_value {A} (Ok next) value e f = ap (λ (x : Ended A). x.value) (same_done f)
ended_value (Err x) value e f = not_done f
