-- The coder's interval (clause 10.4.4): low and high limit, pending bits (the clause's underflow count), and the count of settled bits.
use Rattle.std.specs.Prelude.{◌≡◌, ℕ, zero, suc, ◌+◌, ◌-◌, ◌*◌, ◌/◌, ◌%◌, ◌<◌, ◌≤◌, Bool, true, false, List, [], ◌∷◌, ◌++◌, replicate, ◌==◌}
use Rattle.coder.specs.Stream.{Stream, word}
pub use Rattle.coder.specs.declared.interval.Coder.{Coder}
pub use Rattle.coder.specs.declared.interval.Span.{Span}

-- 10.4: the largest range that is compressed
abbrev pub largest_range : ℕ
largest_range = 0x3FFE

-- 10.4.3
abbrev pub fresh : Coder
fresh = record { low = 0; high = 0xFFFF; pending = 0; settled = 0 }

abbrev pub range : Coder → ℕ
range s = s.high + 1 - s.low

-- 10.4.4.2: the limits after a symbol
unfoldable pub narrow : Coder → Span → Coder
narrow s a = record {
  low = s.low + range s * a.start / a.total;
  high = s.low + range s * (a.start + a.weight) / a.total - 1;
  pending = s.pending;
  settled = s.settled;
}

-- the top bits of the two limits agree
abbrev pub tops_agree : Coder → Bool
tops_agree s = s.low / 0x8000 == s.high / 0x8000

-- the top bit, and the pending ones inverted
unfoldable pub settled_bits : Coder → List ℕ
settled_bits s = (s.low / 0x8000) ∷ replicate s.pending (1 - s.low / 0x8000)

-- one turn of 10.4.4.4
abbrev pub settle_top : Coder → Coder
settle_top s = record {
  low = 2 * (s.low % 0x8000);
  high = 2 * (s.high % 0x8000) + 1;
  pending = 0;
  settled = s.settled + 1 + s.pending;
}

-- 10.4.4.4: while the top bits agree. Sixteen turns are always enough
unfoldable pub settle_tops : ℕ → Coder → Coder
settle_tops zero s = s
settle_tops (suc n) s = elim (tops_agree s) [ true ↦ settle_tops n (settle_top s) | false ↦ s ]

-- the bits that these turns settle
unfoldable pub top_bits : ℕ → Coder → List ℕ
top_bits zero s = []
top_bits (suc n) s = elim (tops_agree s) [ true ↦ settled_bits s ++ top_bits n (settle_top s) | false ↦ [] ]

-- low has 0x4000, and high has not; their top bits are 0 and 1
abbrev pub low_straddles : Coder → Bool
low_straddles s = s.low / 0x4000 == 1

abbrev pub high_straddles : Coder → Bool
high_straddles s = s.high / 0x4000 == 2

-- one turn of 10.4.4.5
abbrev pub postpone : Coder → Coder
postpone s = record {
  low = 2 * (s.low - 0x4000);
  high = 2 * (s.high - 0x4000) + 1;
  pending = s.pending + 1;
  settled = s.settled;
}

-- 10.4.4.5; 01: "pending rises while low has 0x4000 and high hasn't"
unfoldable pub postpones : ℕ → Coder → Coder
postpones zero s = s
postpones (suc n) s = elim (low_straddles s) [ true ↦ elim (high_straddles s) [ true ↦ postpones n (postpone s) | false ↦ s ] | false ↦ s ]

-- 10.4.4: the state after a symbol, and the bits that it settles
unfoldable pub after_symbol : Coder → Span → Coder
after_symbol s a = postpones 16 (settle_tops 16 (narrow s a))

unfoldable pub symbol_bits : Coder → Span → List ℕ
symbol_bits s a = top_bits 16 (narrow s a)

-- the limits between two symbols: "low is below 0x8000, high is 0x8000 to 0xFFFF, low hasn't 0x4000 while high lacks it"
pub record WellFormed (s : Coder) : Type 0 where
  pub low_top : s.low < 0x8000
  pub high_top : 0x8000 ≤ s.high
  pub high_fits : s.high ≤ 0xFFFF
  pub apart : s.low / 0x4000 + 2 ≤ s.high / 0x4000

-- a symbol that can be coded: some frequency, and a total that the narrowest interval can part
pub record Codable (a : Span) : Type 0 where
  pub some : 1 ≤ a.weight
  pub within : a.start + a.weight ≤ a.total
  pub small : a.total ≤ largest_range

-- "the next data bit b, skipping as many inverted b as are pending, makes with the next fifteen a number"
unfoldable pub code : Coder → Stream → ℕ
code s x = x s.settled * 0x8000 + word x (s.settled + 1 + s.pending) 15

-- the bits after the next one, as many as are pending, are its inverse
abbrev pub Inverted : Coder → Stream → Type 0
Inverted s x = (i : ℕ) → i < s.pending → x (s.settled + 1 + i) ≡ 1 - x s.settled

-- a reader at s finds the pending bits inverted, and a number from low to high
pub record Agrees (s : Coder) (x : Stream) : Type 0 where
  pub inverted : Inverted s x
  pub from_low : s.low ≤ code s x
  pub to_high : code s x ≤ s.high

-- Annex A: the place among the frequencies that a reader's number points to
unfoldable pub target : Coder → Stream → ℕ → ℕ
target s x total = (total * (code s x + 1 - s.low) - 1) / range s
