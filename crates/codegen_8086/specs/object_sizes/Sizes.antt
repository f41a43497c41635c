-- How many bytes the code of routines has.
use Rattle.std.specs.Prelude.{ℕ, ◌+◌, List, [], ◌∷◌, length}
use Rattle.object_file.specs.declared.object_unit.object.Code8086.{Code8086}

abbrev pub code_bytes : List Code8086 → ℕ
code_bytes [] = 0
code_bytes (code ∷ codes) = length code.code + code_bytes codes
