-- How large the image of a program of literals is.
use Rattle.std.specs.Prelude.{ℕ, ◌+◌, ◌*◌, ◌/◌, List, sum_by}
use Rattle.literal_programs.specs.literal_code.Statement.{Statement, write, halt, size_of}

-- the bytes of the code of one statement
abbrev pub code_bytes : Statement → ℕ
code_bytes (write bytes) = 10
code_bytes (halt code) = 5

-- The code of the statements, with 8 bytes before it and 9 behind it, up to a paragraph; then the texts, and one byte more.
abbrev pub image_size : List Statement → ℕ
image_size statements = 16 * ((17 + sum_by code_bytes statements + 15) / 16) + size_of statements + 1
