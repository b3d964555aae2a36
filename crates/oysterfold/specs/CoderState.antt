-- What a caller lends the coder: state words (low, high, pending, settled, and for a writer a fifth, its compressed flag) and histograms.
use Rattle.std.specs.Prelude.{ℕ, Bool, true, false, ◌||◌, List, [], ◌∷◌, eqb, ltb, get_or, length}
use Rattle.std.proofs.lemmas.List.Edits.{sets}
use Rattle.fields.specs.Judged.{pick}
use Rattle.coder.specs.Histogram.{symbols}
use Rattle.coder.specs.declared.interval.Coder.{Coder}
use Rattle.coder.specs.declared.write.Writer.{Writer}

-- an array of fewer than n words
abbrev pub shorter : ℕ → List ℕ → Bool
shorter n array = ltb (length array) n

abbrev pub coder_length : ℕ
coder_length = 4

abbrev pub writer_length : ℕ
writer_length = 5

-- a limit that no well-formed state has: the coder answers 18, in 18's order
abbrev pub no_limit : ℕ
no_limit = 0xFFFFFFFF

-- "a low or high above 0xFFFFFFFF .. is a state that is not well formed"
abbrev pub limit_in : ℕ → ℕ
limit_in word = pick (ltb no_limit word) no_limit word

-- ".. or a compressed flag above 1"
abbrev pub low_in : ℕ → ℕ → ℕ
low_in low flag = pick (ltb 1 flag) no_limit low

abbrev pub coder_in : List ℕ → Coder
coder_in state = record {
  low = limit_in (get_or state 0 0);
  high = limit_in (get_or state 1 0);
  pending = get_or state 2 0;
  settled = get_or state 3 0;
}

abbrev pub writer_in : List ℕ → Writer
writer_in state =
    let s = coder_in state in
    record {
      coder = record { low = low_in s.low (get_or state coder_length 0); high = s.high; pending = s.pending; settled = s.settled };
      compressed = eqb (get_or state coder_length 0) 1;
    }

abbrev pub flag_of : Bool → ℕ
flag_of true = 1
flag_of false = 0

abbrev pub coder_words : Coder → List ℕ
coder_words s = s.low ∷ s.high ∷ s.pending ∷ s.settled ∷ []

abbrev pub writer_words : Writer → List ℕ
writer_words w = w.coder.low ∷ w.coder.high ∷ w.coder.pending ∷ w.coder.settled ∷ flag_of w.compressed ∷ []

-- a dynamic context needs a state of n words, and a histogram
abbrev pub context_short : ℕ → List ℕ → List ℕ → Bool
context_short n state histogram = shorter n state || shorter symbols histogram

-- a lent histogram after a call: at its start the frequencies, which a refusal leaves; a call that was lent too little leaves all of it
unfoldable pub histogram_into : Bool → List ℕ → List ℕ → List ℕ
histogram_into too_short frequencies histogram = pick too_short histogram (sets histogram 0 frequencies)

-- the bytes that a plain value may have
abbrev pub is_width : ℕ → Bool
is_width bytes = eqb bytes 1 || (eqb bytes 2 || eqb bytes 4)
