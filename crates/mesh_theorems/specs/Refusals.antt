-- Which numbers a mesh may be refused with (01, "Numbers given back").
use Rattle.std.specs.Prelude.{ℕ, List, [], ◌∷◌}

-- bytes that end too early; names; limits; a shading or corner number; order and counts; room; bytes left after a declaration
abbrev pub mesh_numbers : List ℕ
mesh_numbers = 1 ∷ 8 ∷ 9 ∷ 10 ∷ 11 ∷ 12 ∷ 17 ∷ []
