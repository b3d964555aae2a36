-- 01's table "Examples on each side", the rows marked P, in 01's order.
use Rattle.std.specs.Prelude.{List, [], ◌∷◌, ◌++◌}
use Rattle.coder_theorems.specs.Runs.{Number, dynamic, static}
use Rattle.fields.specs.Numbers.{no_step, out_of_range}
use Rattle.progressive.specs.Mesh.{Mesh}
use Rattle.progressive.specs.Steps.{denied, granted}
use Rattle.progressive_theorems.specs.Calls.{down, up}
use Rattle.worked_examples.specs.Row.{Row, face, reversal, steps, triangle, triangle_positions, writes}

-- a 0 in the dynamic context
abbrev zero : Number
zero = record { context = dynamic 0; value = 0 }

-- "faces (0: 0 1 3), (1: 1 2 3), 4 positions"
abbrev pub refined_triangle : Mesh
refined_triangle = record {
  faces = face 0 0 1 3 ++ face 1 1 2 3;
  positions = triangle_positions ++ (0x3f800000 ∷ 0 ∷ 0xbf800000 ∷ []);
  face_count = 2;
  position_count = 4;
}

abbrev pub table : List Row
table =
    -- reversal of 0x01, 0x43: 0x80, 0xC2
    reversal (0x01 ∷ 0x43 ∷ []) (0x80 ∷ 0xC2 ∷ [])
    -- fresh, range 3, value 1: no bits, pending 1, low 0x2AAA, high 0xD553
    ∷ writes (record { context = static 3; value = 1 } ∷ [])
    (record { number = 0; coder = record { low = 0x2AAA; high = 0xD553; pending = 1; settled = 0 }; bytes = []; escape = 1; zeros = 0 })
    -- fresh, range 0x3FFF, value 5: bytes 05 00 00 00
    ∷ writes (record { context = static 0x3FFF; value = 5 } ∷ [])
    (record { number = 0; coder = record { low = 0; high = 0xFFFF; pending = 0; settled = 32 }; bytes = 0x05 ∷ 0x00 ∷ 0x00 ∷ 0x00 ∷ []; escape = 1; zeros = 0 })
    -- fresh dynamic, 0: four zero bytes, escape 2, zero 1
    ∷ writes (zero ∷ [])
    (record { number = 0; coder = record { low = 0; high = 0xFFFF; pending = 0; settled = 32 }; bytes = 0 ∷ 0 ∷ 0 ∷ 0 ∷ []; escape = 2; zeros = 1 })
    -- then 0 again: bit 1, low 0x5554, high 0xFFFF, weights 2, 2
    ∷ writes (zero ∷ zero ∷ [])
    (record { number = 0; coder = record { low = 0x5554; high = 0xFFFF; pending = 0; settled = 33 }; bytes = 0 ∷ 0 ∷ 0 ∷ 0 ∷ 1 ∷ []; escape = 2; zeros = 2 })
    -- range 3, value 3: 10
    ∷ writes (record { context = static 3; value = 3 } ∷ [])
    (record { number = out_of_range; coder = record { low = 0; high = 0xFFFF; pending = 0; settled = 0 }; bytes = []; escape = 1; zeros = 0 })
    -- triangle 0 1 2, shading count 2, example list, up
    ∷ steps (up ∷ []) (granted refined_triangle)
    -- then down: triangle again, zeros after
    ∷ steps (up ∷ down ∷ []) (granted triangle)
    -- down once more: 16
    ∷ steps (up ∷ down ∷ down ∷ []) (denied no_step 0 triangle)
    ∷ []
