-- The limits (01, "Sizes").
use Rattle.std.specs.Prelude.{ℕ}

-- "every number below 2^32": the largest U32
abbrev pub any_number : ℕ
any_number = 0xFFFFFFFF

-- 16 MiB
abbrev pub largest_file : ℕ
largest_file = 0x1000000

-- 64 KiB, for the programs
abbrev pub largest_program_file : ℕ
largest_program_file = 0x10000

abbrev pub longest_name : ℕ
longest_name = 255

-- "Each pool and the face count 65,536"
abbrev pub largest_count : ℕ
largest_count = 0x10000

-- "Climb: 4,096 steps, 64 moves and 64 new faces in each"
abbrev pub most_steps : ℕ
most_steps = 4096

abbrev pub most_moves : ℕ
most_moves = 64

abbrev pub most_new_faces : ℕ
most_new_faces = 64
