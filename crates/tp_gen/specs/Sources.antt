-- The sources of a generated program, each with the name of its file.
use Rattle.std.specs.Prelude.{ℕ, List, [], ◌∷◌, map, codes, decimal}
use Rattle.std.specs.List.{concat}
use Rattle.tp_lexer.specs.declared.token.Text.{Text}
use Rattle.tp_gen.specs.declared.units.DrawnUnit.{DrawnUnit}
use Rattle.tp_gen.specs.Units.{units_of, unit_text}
use Rattle.tp_gen.specs.Programs.{call_of, program_text}

-- the file of the unit of this number
abbrev pub unit_file : ℕ → List ℕ
unit_file number = concat (codes "g" ∷ decimal number ∷ codes ".pas" ∷ [])

abbrev pub unit_source : DrawnUnit → Text
unit_source unit = record { name = unit_file unit.number; bytes = unit_text unit }

-- the program of so many units that is drawn from a seed: first the program itself, then its units in the order of their numbers
abbrev pub sources_of : ℕ → ℕ → List Text
sources_of seed units =
    record { name = codes "gen.pas"; bytes = program_text (units_of seed units) (call_of seed units) }
    ∷ map unit_source (units_of seed units)
