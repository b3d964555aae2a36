-- Data that continue what a writer left continue what it had before: the bits of the symbols, or of the end, that were written between
-- stand in them.
use Prim.Native.Nat.{ℕ, ◌+◌, ◌*◌, ◌/◌, ◌%◌, ◌^◌, ◌≤◌, ◌<◌}
use Rattle.coder.proofs.Backward.{Pointed, all_back}
use Rattle.coder.proofs.Carrying.{carries_kept}
use Rattle.coder_theorems.proofs.Ends.{end_agrees, end_bits_lem, end_count}
use Rattle.coder.proofs.Sequence.{all_count}
use Rattle.coder.proofs.SettledBits.{all_bits}
use Rattle.coder.proofs.Spans.{AllCodable}
use Rattle.coder_theorems.proofs.Storing.{length_store, store_stored, take_before}
use Rattle.coder.proofs.Streams.{bit_binary}
use Rattle.coder.specs.Bytes.{bit_at, bytes_of, store_bits}
use Rattle.coder.specs.Ending.{end_bits, end_state}
use Rattle.coder.specs.Interval.{Agrees, WellFormed, code}
use Rattle.coder.specs.declared.interval.Coder.{Coder}
use Rattle.coder.specs.declared.interval.Span.{Span}
use Rattle.coder.specs.Symbols.{after_symbols, symbols_bits}
use Rattle.fields.specs.Limits.{largest_file}
use lib.ListN.{get_or-append, length, length-append, length-take, take}
use mathlib.Core.Bool.{Bool, false}
use mathlib.Core.List.{List, ◌++◌}
use mathlib.Core.Path.{◌≡◌, ◌∙◌, ap, sym}
use native.Mathlib.Omega.{arith}

-- the data keep the bits that a writer has settled in its bytes, and go on so that a reader at its state agrees
pub record Continues (d l : List ℕ) (s : Coder) : Type 0 where
  pub small : length d ≤ largest_file
  pub inside : s.settled ≤ 8 * length d
  pub kept : (i : ℕ) → i < s.settled → bit_at d i ≡ bit_at l i
  pub agrees : Agrees s (bit_at d)

-- data that continue what is left by symbols continue what was there before
pub symbols_back : (d l : List ℕ) (s : Coder) (spans : List Span) → AllCodable spans → WellFormed s → (after_symbols s spans).settled ≤ 8 * length l
    → Continues d (store_bits l s.settled (symbols_bits s spans)) (after_symbols s spans) → Pointed s (bit_at d) spans × Continues d l s
symbols_back d l s spans codable limits room h =
    let bits : List ℕ = symbols_bits s spans in
    let count : (after_symbols s spans).settled ≡ s.settled + length bits = all_count spans s in
    let stored = store_stored bits l s.settled (all_bits spans s limits codable) (omega arith) in
    let carried = carries_kept (bit_at (store_bits l s.settled bits)) (bit_at d) bits s.settled _ h.kept (omega arith) stored.holds in
    let b = all_back spans s (bit_at d) (bit_binary d) limits codable carried h.agrees in
    (b.0, record { small = h.small; inside = omega arith; kept = λ i g. h.kept i (omega arith) ∙ stored.kept i g; agrees = b.1 })

bit_append : (l r : List ℕ) (i : ℕ) → i < 8 * length l → bit_at (l ++ r) i ≡ bit_at l i
unfolding bit_at
bit_append l r i h = ap (λ (v : ℕ). v / 2 ^ (i % 8) % 2) (get_or-append l r 0 (i / 8) (omega arith))

-- the bytes that the end says are used, whatever follows them, continue what was there before it
pub end_back : (compressed : Bool) (l rest : List ℕ) (s : Coder) → WellFormed s → (end_state compressed s).settled ≤ 8 * length l
    → (let d = take (bytes_of (end_state compressed s).settled) (store_bits l s.settled (end_bits compressed s)) ++ rest in
    length d ≤ largest_file → (compressed ≡ false → s.low ≡ 0 → s.pending ≡ 0 → code s (bit_at d) ≤ s.high) → Continues d l s)
end_back compressed l rest s limits room small number =
    let bits : List ℕ = end_bits compressed s in
    let n : ℕ = (end_state compressed s).settled in
    let count : n ≡ s.settled + length bits = end_count compressed s in
    let stored = store_stored bits l s.settled (end_bits_lem compressed s limits) (omega arith) in
    let m : List ℕ = store_bits l s.settled bits in
    let cut : List ℕ = take (bytes_of n) m in
    let d : List ℕ = cut ++ rest in
    let size : length cut ≡ bytes_of n = omega (arith, length-take (bytes_of n) m, length_store bits l s.settled) in
    let before : (i : ℕ) → i < n → bit_at d i ≡ bit_at m i = λ i h. bit_append cut rest i (omega arith) ∙ take_before m n i h in
    let carried = carries_kept (bit_at m) (bit_at d) bits s.settled n before (omega arith) stored.holds in
    record {
      small = small;
      inside = omega (arith, length-append cut rest);
      kept = λ i h. before i (omega arith) ∙ stored.kept i h;
      agrees = end_agrees compressed s (bit_at d) (bit_binary d) limits carried number;
    }

-- what continues one buffer continues every other that has the same settled bytes
pub lent_back : (d l other : List ℕ) (s : Coder) → take (bytes_of s.settled) other ≡ take (bytes_of s.settled) l → Continues d other s
    → Continues d l s
lent_back d l other s same h =
    let n : ℕ = s.settled in
    record {
      small = h.small;
      inside = h.inside;
      kept = λ i g. h.kept i g ∙ sym (take_before other n i g) ∙ ap (λ (m : List ℕ). bit_at m i) same ∙ take_before l n i g;
      agrees = h.agrees;
    }
