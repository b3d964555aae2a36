-- A row of 01's table "Examples on each side": what is given and what then is, and what it means that the row holds. The definitions are
-- those that the functions' promises cite.
use Rattle.std.specs.Prelude.{ℕ, ◌-◌, List, [], ◌∷◌, ◌++◌, map, ◌≡◌, eqb, drop, length, replicate}
use Rattle.coder.specs.Histogram.{fresh_histogram, values}
use Rattle.coder.specs.declared.interval.Coder.{Coder}
use Rattle.coder.specs.Symbols.{reversed}
use Rattle.coder_theorems.specs.Runs.{Called, Number, WriteCall, begun, put, write_calls}
use Rattle.mesh.specs.Corners.{absent, corner_fields, face_words}
use Rattle.mesh.specs.Base.{position_words}
use Rattle.progressive.specs.Mesh.{Mesh}
use Rattle.progressive.specs.Steps.{Reply}
use Rattle.progressive_theorems.specs.Calls.{Call, of_step, replies}

-- ---- the coder

-- what the writer's last call left: 01's number, the state, the bytes at the buffer's start, and the weights of escape and of 0
pub record Wrote : Type 0 where
  pub number : ℕ
  pub coder : Coder
  pub bytes : List ℕ
  pub escape : ℕ
  pub zeros : ℕ

-- the caller's buffer, full of ones
abbrev pub buffer : List ℕ
buffer = replicate 5 0xFF

-- the whole of what the call then says: a refusal has written nothing, and the buffer is as it was past the bytes
abbrev pub call_of : Wrote → WriteCall
call_of w =
    record {
      result = record {
        number = w.number;
        done = eqb w.number 0;
        writer = record { coder = w.coder; compressed = eqb w.number 0 };
        bytes = w.bytes ++ drop (length w.bytes) buffer;
      };
      histograms = (w.escape ∷ w.zeros ∷ replicate (values - 1) 0) ∷ [];
    }

-- ---- steps up and down

-- a corner that has a position only
abbrev pub corner : ℕ → List ℕ
corner position = position ∷ replicate (corner_fields - 1) absent

-- the record of a face with such corners: its shading, and the positions of the three
abbrev pub face : ℕ → ℕ → ℕ → ℕ → List ℕ
face shading a b c = shading ∷ (corner a ++ corner b ++ corner c)

-- the example list, as 01's whole example of a climb text is read
abbrev pub example_list : List ℕ
example_list = 3 ∷ 1 ∷ 1 ∷ 2 ∷ 0x3f800000 ∷ 0 ∷ 0xbf800000 ∷ 1 ∷ 1 ∷ 0 ∷ 2 ∷ 1 ∷ 1 ∷ 2 ∷ 3 ∷ []

-- three positions that are told apart
abbrev pub triangle_positions : List ℕ
triangle_positions = 10 ∷ 11 ∷ 12 ∷ 20 ∷ 21 ∷ 22 ∷ 30 ∷ 31 ∷ 32 ∷ []

-- "triangle 0 1 2", with zeros in the room after it
abbrev pub triangle : Mesh
triangle = record {
  faces = face 0 0 1 2 ++ replicate face_words 0;
  positions = triangle_positions ++ replicate position_words 0;
  face_count = 1;
  position_count = 3;
}

-- ---- rows

pub data Row : Type 0 where
  -- the reversals of some bytes
  reversal : List ℕ → List ℕ → Row
  -- these numbers written one after the other, "fresh" at first, the state and the one dynamic context; and what the last call left
  writes : List Number → Wrote → Row
  -- these calls one after the other, on the triangle with the example list and shading count 2; and the last reply
  steps : List Call → Reply → Row

-- the last of some answers
abbrev pub IsLast : {A : Type 0} → A → List A → Type 0
IsLast a [] = ⊥
IsLast a (b ∷ []) = b ≡ a
IsLast a (b ∷ (c ∷ more)) = IsLast a (c ∷ more)

abbrev pub Holds : Row → Type 0
Holds (reversal bytes reversals) = map (reversed 8) bytes ≡ reversals
Holds (writes numbers wrote) = IsLast (call_of wrote) (map (λ (c : Called). c.call) (write_calls (begun buffer (fresh_histogram ∷ [])) (map put numbers)))
Holds (steps calls answer) = IsLast (of_step answer) (replies example_list 2 triangle calls)

abbrev pub AllHold : List Row → Type 0
AllHold [] = Unit {0}
AllHold (row ∷ rows) = Holds row × AllHold rows
