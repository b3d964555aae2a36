-- What every read judges first, in the order of the code: size, limits and counts, then the number, then the pending bits; and what
-- the call then answers.
use Rattle.std.proofs.Common.{◌≡◌, ℕ, zero, suc, ◌^◌, ◌<◌, ◌≤◌, Bool, true, false, not, ◌&&◌, ◌||◌, ltb, leb, List, length, sym, refl, ap, ◌∙◌, arith, ltb-true, lt-ltb, le-leb, leb-true}
use Rattle.coder.proofs.Judgements.{limits_hold, limits_true}
use Rattle.coder.proofs.Tests.{and_both, first_some, unless-zero}
use Rattle.coder.specs.Bytes.{bit_at}
use Rattle.coder.specs.Forms.{bits_in, code_within, limits_formed, pending_inverted, reader_formed, unless}
use Rattle.coder.specs.Inside.{count_fault, value_number}
use Rattle.coder.specs.Interval.{Coder, WellFormed, code}
use Rattle.coder.specs.Reading.{Taken, read_fault, read_number, taken}
use Rattle.coder.specs.Stream.{Stream}
use Rattle.coder.specs.Values.{Found}
use Rattle.fields.specs.Limits.{largest_file}
use Rattle.fields.specs.Numbers.{bad_state, out_of_range, over_limit, truncated}

pub record Countable (s : Coder) (len : ℕ) : Type 0 where
  pub small : len ≤ largest_file
  pub limits : WellFormed s
  pub settled_small : s.settled < 2 ^ 32
  pub pending_small : s.pending < 2 ^ 32

pub countable : (s : Coder) (len : ℕ) → count_fault s len ≡ 0 → Countable s len
unfolding count_fault
countable s len e =
    let a = unless-zero (leb len largest_file) over_limit _ (omega arith) e in
    let b = unless-zero (limits_formed s && (ltb s.settled (2 ^ 32) && ltb s.pending (2 ^ 32))) bad_state 0 (omega arith) a.1 in
    let c = and_both (limits_formed s) _ b.0 in
    let d = and_both (ltb s.settled (2 ^ 32)) _ c.1 in
    record { small = leb-true _ _ a.0; limits = limits_true s c.0; settled_small = ltb-true _ _ d.0; pending_small = ltb-true _ _ d.1 }

-- the test of the limits, at the number that was found
pub held : (s : Coder) (x : Stream) (number : ℕ) (test : Bool) → number ≡ code s x → (leb s.low number && leb number s.high) ≡ test → code_within s x ≡ test
unfolding code_within
held s x number test e t = rw e at t

-- what is wrong before the bits are looked at is wrong after
pub fault_counted : (look : Bool) (d : List ℕ) (s : Coder) (n : ℕ) → n ≡ count_fault s (length d) → (n ≡ 0 → ⊥) → n ≡ read_fault look d s
unfolding count_fault read_fault reader_formed
fault_counted look d s n e some = go (leb (length d) largest_file) (limits_formed s) (ltb s.settled (2 ^ 32)) (ltb s.pending (2 ^ 32)) _ _ e
  where
    go : (a b c f g h : Bool) → n ≡ unless a over_limit (unless (b && (c && f)) bad_state 0)
        → n ≡ unless a over_limit (unless ((b && (c && (f && g))) && h) bad_state 0)
    go false b c f g h e = e
    go true false c f g h e = e
    go true true false f g h e = e
    go true true true false g h e = e
    go true true true true g h e = absurd (some e)

module _ (look : Bool) (d : List ℕ) (s : Coder) (k : Countable s (length d)) where
  counted : read_fault look d s ≡ unless (code_within s (bit_at d) && (not look || pending_inverted s (bit_at d))) bad_state 0
  unfolding read_fault reader_formed
  counted =
      rw (le-leb _ _ k.small, limits_hold s k.limits, lt-ltb _ _ k.settled_small, lt-ltb _ _ k.pending_small) refl

  pub fault_unheld : code_within s (bit_at d) ≡ false → bad_state ≡ read_fault look d s
  fault_unheld e = rw (counted, e)

  pub fault_unlooked : code_within s (bit_at d) ≡ true → look ≡ false → 0 ≡ read_fault look d s
  fault_unlooked e f = rw (counted, e, f)

-- what is wrong but for the pending bits, and these, where they are looked at
module _ (look : Bool) (d : List ℕ) (s : Coder) (n : ℕ) (judged : n ≡ read_fault false d s) where
  pub fault_first : (n ≡ 0 → ⊥) → n ≡ read_fault look d s
  unfolding read_fault
  fault_first some = go (leb (length d) largest_file) (reader_formed s (bit_at d)) _ judged
    where
      go : (a b c : Bool) → n ≡ unless a over_limit (unless (b && true) bad_state 0) → n ≡ unless a over_limit (unless (b && c) bad_state 0)
      go false b c e = e
      go true false c e = e
      go true true c e = absurd (some e)

  module _ (none : n ≡ 0) where
    -- the one test that is left
    looked_at : read_fault look d s ≡ unless (not look || pending_inverted s (bit_at d)) bad_state 0
    unfolding read_fault
    looked_at = go (leb (length d) largest_file) (reader_formed s (bit_at d)) _ (sym judged ∙ none)
      where
        go : (a b c : Bool) → unless a over_limit (unless (b && true) bad_state 0) ≡ 0
            → unless a over_limit (unless (b && c) bad_state 0) ≡ unless c bad_state 0
        go false b c e = absurd (omega (arith, e))
        go true false c e = absurd (omega (arith, e))
        go true true c e = refl

    pub fault_looked : (not look || pending_inverted s (bit_at d)) ≡ false → bad_state ≡ read_fault look d s
    fault_looked e = rw (looked_at, e)

    pub fault_none : (not look || pending_inverted s (bit_at d)) ≡ true → 0 ≡ read_fault look d s
    fault_none e = rw (looked_at, e)

-- ---- a whole call

-- a call that is refused gives back the state that was handed in
pub taken_refused : {n m : ℕ} {s : Coder} (found : Found) → (n ≡ 0 → ⊥) → n ≡ m → record { number = n; done = false; value = 0; state = s } ≡ taken m found s
unfolding taken
taken_refused {n} {m} {s} found some same = go n some ∙ ap (λ (k : ℕ). taken k found s) same
  where
    go : (k : ℕ) → (k ≡ 0 → ⊥) → record { number = k; done = false; value = 0; state = s } ≡ taken k found s
    go zero other = absurd (other refl)
    go (suc k) other = refl

-- a call at no fault gives what it found
pub taken_got : {n m : ℕ} (s : Coder) (found : Found) → n ≡ 0 → n ≡ m
    → record { number = 0; done = true; value = found.value; state = found.state } ≡ taken m found s
unfolding taken
taken_got s found none same = ap (λ (k : ℕ). taken k found s) (sym none ∙ same)

module _ (look : Bool) (d : List ℕ) (s : Coder) (context_good range_good : Bool) (settled : ℕ) (value_good : Bool) (fault : ℕ)
    (judged : fault ≡ read_fault look d s) where
  pub read_fault_lem : (fault ≡ 0 → ⊥) → fault ≡ read_number look d s context_good range_good settled value_good
  unfolding read_number
  read_fault_lem some = rw (← judged) (first_some fault _ some)

  module _ (none : fault ≡ 0) where
    sound : read_fault look d s ≡ 0
    sound = sym judged ∙ none

    pub read_context : context_good ≡ false → bad_state ≡ read_number look d s context_good range_good settled value_good
    unfolding read_number
    read_context bad = rw (sound, bad)

    pub read_range : context_good ≡ true → range_good ≡ false → out_of_range ≡ read_number look d s context_good range_good settled value_good
    unfolding read_number
    read_range good bad = rw (sound, good, bad)

    pub read_rest : context_good ≡ true → range_good ≡ true
        → unless (leb settled (bits_in d)) truncated (unless value_good out_of_range 0) ≡ read_number look d s context_good range_good settled value_good
    unfolding read_number
    read_rest good fine = rw (sound, good, fine)

-- a call at no fault, whose value alone is left to judge
pub taken_judged : (look : Bool) (d : List ℕ) (s : Coder) (context_good range_good value_good : Bool) (found : Found) (fault : ℕ) (r : Taken)
    → fault ≡ read_fault look d s → fault ≡ 0 → context_good ≡ true → range_good ≡ true
    → r ≡ taken (value_number (length d) found value_good) found s
    → r ≡ taken (read_number look d s context_good range_good found.state.settled value_good) found s
taken_judged look d s context_good range_good value_good found fault r judged none good fine took =
    took ∙ ap (λ (n : ℕ). taken n found s) (read_rest look d s context_good range_good _ value_good fault judged none good fine)
