use Rattle.std.proofs.Common.{◌≡◌, ℕ, List, length}
use Rattle.coder.specs.declared.interval.Coder.{Coder}
use Rattle.coder.specs.Bytes.{put_bits}
use Rattle.coder.specs.Interval.{WellFormed, top_bits}
use Rattle.coder.specs.Inside.{Holds}
use Rattle.coder.specs.Symbols.{after_symbols, plain_spans, symbols_bits}
use Rattle.coder.specs.Together.{renormalized}
use Rattle.coder.proofs.Limits.{Ordered}
use Rattle.coder.proofs.interval.Coder.put_led.Given as goal

-- the state after an interval's symbol and the bytes after it, and the bytes that then hold their bits
abbrev pub leads : Coder → ℕ → ℕ → Coder
leads t left rest = after_symbols (renormalized t) (plain_spans left rest)

abbrev pub stores : List ℕ → Coder → ℕ → ℕ → List ℕ
stores l t left rest =
    put_bits (put_bits l t.settled (top_bits 16 t)) (renormalized t).settled (symbols_bits (renormalized t) (plain_spans left rest))

-- what holds at the loop's head
pub record Left (t₀ : Coder) (v₀ count : ℕ) (buf₀ : List ℕ) (t : Coder) (rest left : ℕ) (buf : List ℕ) : Type 0 where
  pub state : leads t left rest ≡ leads t₀ count v₀
  pub same : stores buf t left rest ≡ stores buf₀ t₀ count v₀
  pub ordered : Ordered t
  pub formed : WellFormed (renormalized t)
  pub holds : Holds buf (leads t₀ count v₀)
  pub long : length buf ≡ length buf₀

abbrev pub invariant-loop-left : goal.invariant-loop-left
invariant-loop-left l = Left l.initial.s l.value l.count l.initial.buf l.s l.rest l.left l.buf

abbrev pub decreases-loop-left : goal.decreases-loop-left
decreases-loop-left l = l.left
