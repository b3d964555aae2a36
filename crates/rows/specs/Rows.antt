-- Rows of a walk's table, and the declaration that a base mesh goes with: the last before it that has its name.
use Rattle.std.specs.Prelude.{ℕ, zero, suc, ◌+◌, ◌*◌, ◌/◌, Bool, false, not, List, eqb, ltb, get_or, length, Result, Ok, Err}
use Rattle.fields.specs.Limits.{largest_file}
use Rattle.fields.specs.Judged.{Judged, done, refused, on_done, refused_if, pick}
use Rattle.fields.specs.Bounds.{part_of}
use Rattle.fields.specs.Name.{name_at, same}
use Rattle.fields.specs.Numbers.{fault_number, bad_name, over_limit, out_of_range, out_of_order}
use Rattle.fields.specs.declared.refusal.Fault.{Fault}
use Rattle.blocks.specs.Parts.{data_bounds, data_part}
use Rattle.blocks.specs.Told.{row_width}
use Rattle.mesh.specs.Declaration.{mesh_name}

-- the block types (01: "by last byte under 0xFFFFFF")
abbrev pub mesh_declaration : ℕ
mesh_declaration = 0xFFFFFF31

abbrev pub base_mesh : ℕ
base_mesh = 0xFFFFFF3B

-- how many rows a table has
abbrev pub rows_in : List ℕ → ℕ
rows_in table = length table / row_width

-- a word of a row (offset, type, data size, meta data size, depth); 0 where the table has no such row
unfoldable pub word_in : List ℕ → ℕ → ℕ → ℕ
word_in table row i = pick (ltb row (rows_in table)) (get_or table (row * row_width + i) 0) 0

-- the data of a row's block
abbrev pub data_in : List ℕ → List ℕ → ℕ → List ℕ
data_in file table row = data_part file (word_in table row 0)

abbrev pub where_named : Judged ℕ → Bool → Bool
where_named (done size) test = test
where_named (refused n p) test = false

-- data that begins with this name
unfoldable pub has_name : List ℕ → List ℕ → Bool
has_name s name = where_named (name_at s 0) (same (mesh_name s) name)

-- the row of a mesh declaration of this name
unfoldable pub declares : List ℕ → List ℕ → List ℕ → ℕ → Bool
declares file table name row = pick (eqb (word_in table row 1) mesh_declaration) (has_name (data_in file table row) name) false

-- the offset of the last such declaration below a row; 8 where there is none
unfoldable pub declared_below : List ℕ → List ℕ → List ℕ → ℕ → Judged ℕ
declared_below file table name zero = refused bad_name 0
declared_below file table name (suc row) =
    pick (declares file table name row) (done (word_in table row 0)) (declared_below file table name row)

-- the same for the base mesh of a row with those data, whose own name is judged first
unfoldable pub declared_of : List ℕ → List ℕ → ℕ → List ℕ → Judged ℕ
declared_of file table row content = on_done (name_at content 0) λ _. declared_below file table (mesh_name content) row

-- at place 0 of the base mesh
abbrev pub at_start : {A : Type 0} → Judged A → Judged A
at_start (done a) = done a
at_start (refused n p) = refused n 0

-- the declaration that the base mesh of a row goes with: a row "not below its count" is 10, and a block that is no base mesh 11
unfoldable pub declared_for : List ℕ → List ℕ → ℕ → Judged ℕ
declared_for file table row =
    refused_if (ltb largest_file (length file)) over_limit 0
    (refused_if (not (ltb row (rows_in table))) out_of_range 0
    (refused_if (not (eqb (word_in table row 1) base_mesh)) out_of_order 0
    (on_done (at_start (data_bounds file (word_in table row 0))) λ bounds.
    declared_of file table row (part_of file (done bounds)))))

-- 01's number of each case, at place 0 of the base mesh
abbrev pub declared_given : Result ℕ Fault → Judged ℕ
declared_given (Ok at) = done at
declared_given (Err fault) = refused (fault_number fault) 0
